use Rattle.std.proofs.Common.{[], ap, arith, inl, inr, refl, subst, sym, ◌∙◌}
use Rattle.std.specs.Prelude.{bit_or}
use Rattle.jb_base.specs.declared.attribute.TheConstants.{DELETED}
use Rattle.jb_limits.specs.declared.limits.TheConstants.{MOST_SLOTS}
use Rattle.jb_state.specs.Change.{killed_slot, with_slot_changed}
use Rattle.jb_state.specs.Loaded.{with_counts, with_killed_at}
use Rattle.jb_state.specs.declared.change.Change.TheVariants.{Killed}
use Rattle.jb_state.specs.declared.loaded.Loaded.{Loaded}
use Rattle.jb_state.specs.declared.loaded.LoadedMessage.{LoadedMessage}
use Rattle.jb_change.specs.Headers.{Updates}
use Rattle.jb_change.specs.Put.{MayWrite}
use Rattle.jb_change.proofs.AfterLemmas.{counted_is, near_headers}
use Rattle.jb_state.proofs.PlaceLaws.{killed_is}
use Rattle.jb_change.proofs.LeavesLemmas.{leaves_counts, leaves_header, leaves_nothing, leaves_rest}
use Rattle.jb_change.proofs.UpdateLemmas.{updates_cleared, updates_counted, updates_kill}
use Rattle.jb_change.proofs.heading.put_killed.Goals as goal

pub put_kill-requires-clause-fits : goal.put_kill-requires-clause-fits
put_kill-requires-clause-fits c = near_headers MOST_SLOTS c.args.loaded.now c.requires.sound c.args.place c.message_at-message.result.now c.message_at-message.ensures

pub returns-clause-makes : goal.returns-clause-makes
returns-clause-makes c =
    let from : Loaded = c.args.loaded.now in
    let message : LoadedMessage = c.message_at-message.result.now in
    subst (λ (l : Loaded). Updates c.put_counts.new.redo from l [])
    (ap (with_counts _ c.args.active) (sym (killed_is c.args.place message from c.message_at-message.ensures)) ∙ counted_is (with_slot_changed c.args.place killed_slot from) _ c.args.active refl c.requires.active)
    (updates_counted c.put_kill.new.redo c.put_counts.new.redo _ c.args.active c.put_counts.ensures.makes c.put_counts.ensures.only from _ []
    (updates_kill c.args.redo.now c.put_kill.new.redo message.header_at (bit_or message.head.attribute DELETED) c.put_kill.ensures.makes c.put_kill.ensures.header c.put_kill.ensures.only
    from from [] c.args.place message (updates_cleared c.args.redo.now from c.requires.cleared) c.message_at-message.ensures refl))

pub returns-clause-leaves : goal.returns-clause-leaves
returns-clause-leaves c =
    let from : Loaded = c.args.loaded.now in
    let message : LoadedMessage = c.message_at-message.result.now in
    let cleared : Updates c.args.redo.now from from [] = updates_cleared c.args.redo.now from c.requires.cleared in
    leaves_rest c.put_counts.new.redo from (Killed c.args.place) [] (returns-clause-makes c)
    (leaves_counts c.put_kill.new.redo c.put_counts.new.redo from (with_killed_at c.args.place message from) [] (MayWrite from (Killed c.args.place)) c.put_counts.ensures.only
    (updates_kill c.args.redo.now c.put_kill.new.redo message.header_at (bit_or message.head.attribute DELETED) c.put_kill.ensures.makes c.put_kill.ensures.header c.put_kill.ensures.only
    from from [] c.args.place message cleared c.message_at-message.ensures refl) (λ i own. inl own)
    (leaves_header c.args.redo.now c.put_kill.new.redo 52 4 (omega arith) from from [] c.args.place message (MayWrite from (Killed c.args.place)) c.message_at-message.ensures c.put_kill.ensures.only cleared (λ i own. inr own)
    (leaves_nothing c.args.redo.now from (MayWrite from (Killed c.args.place)) c.requires.cleared.no_lengths c.requires.cleared.no_pieces)))
