use Rattle.std.proofs.Common.{[], ap, arith, inl, inr, refl, subst, ◌∙◌}
use Rattle.jb_limits.specs.declared.limits.TheConstants.{MOST_SLOTS}
use Rattle.jb_state.specs.Change.{headed}
use Rattle.jb_state.specs.Loaded.{with_counts}
use Rattle.jb_state.specs.declared.change.Change.TheVariants.{Headed}
use Rattle.jb_state.specs.declared.change.HeadAt.{HeadAt}
use Rattle.jb_state.specs.declared.loaded.Loaded.{Loaded}
use Rattle.jb_state.specs.declared.loaded.LoadedMessage.{LoadedMessage}
use Rattle.jb_change.specs.Headers.{Updates}
use Rattle.jb_change.specs.Put.{MayWrite}
use Rattle.jb_change.proofs.AfterLemmas.{counted_is, near_headers, reading_is}
use Rattle.jb_change.proofs.LeavesLemmas.{leaves_counts, leaves_header, leaves_nothing, leaves_rest}
use Rattle.jb_change.proofs.UpdateLemmas.{updates_cleared, updates_counted, updates_reading}
use Rattle.jb_change.proofs.heading.put_headed.Goals as goal

pub put_reading-requires-clause-fits : goal.put_reading-requires-clause-fits
put_reading-requires-clause-fits c = near_headers MOST_SLOTS c.args.loaded.now c.requires.sound c.args.at.place c.message_at.result.now c.message_at.ensures

pub returns-clause-makes : goal.returns-clause-makes
returns-clause-makes c =
    let from : Loaded = c.args.loaded.now in
    let at : HeadAt = c.args.at in
    let message : LoadedMessage = c.message_at.result.now in
    subst (λ (l : Loaded). Updates c.put_counts.new.redo from l [])
    (ap (with_counts _ c.args.active) (reading_is at message from c.message_at.ensures c.requires.fits) ∙ counted_is (headed at from) _ c.args.active refl c.requires.active)
    (updates_counted c.put_reading.new.redo c.put_counts.new.redo _ c.args.active c.put_counts.ensures.makes c.put_counts.ensures.only from _ []
    (updates_reading c.args.redo.now c.put_reading.new.redo message.header_at at.head c.put_reading.ensures.makes c.put_reading.ensures.header c.put_reading.ensures.only
    from from [] at.place message (updates_cleared c.args.redo.now from c.requires.cleared) c.message_at.ensures refl))

pub returns-clause-leaves : goal.returns-clause-leaves
returns-clause-leaves c =
    let from : Loaded = c.args.loaded.now in
    let at : HeadAt = c.args.at in
    let message : LoadedMessage = c.message_at.result.now in
    let cleared : Updates c.args.redo.now from from [] = updates_cleared c.args.redo.now from c.requires.cleared in
    leaves_rest c.put_counts.new.redo from (Headed at) [] (returns-clause-makes c)
    (leaves_counts c.put_reading.new.redo c.put_counts.new.redo from _ [] (MayWrite from (Headed at)) c.put_counts.ensures.only
    (updates_reading c.args.redo.now c.put_reading.new.redo message.header_at at.head c.put_reading.ensures.makes c.put_reading.ensures.header c.put_reading.ensures.only
    from from [] at.place message cleared c.message_at.ensures refl) (λ i own. inl own)
    (leaves_header c.args.redo.now c.put_reading.new.redo 12 44 (omega arith) from from [] at.place message (MayWrite from (Headed at)) c.message_at.ensures c.put_reading.ensures.only cleared (λ i own. inr own)
    (leaves_nothing c.args.redo.now from (MayWrite from (Headed at)) c.requires.cleared.no_lengths c.requires.cleared.no_pieces)))
