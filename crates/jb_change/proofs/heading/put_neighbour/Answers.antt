use Rattle.std.proofs.Common.{◌≡◌, length, Option, Some, ap, arith, inr, refl, subst, sym, ◌∙◌}
use Rattle.std.specs.Prelude.{option_and_then}
use Rattle.jb_limits.specs.declared.limits.TheConstants.{MOST_SLOTS}
use Rattle.jb_state.specs.Change.{IsLinkOf, IsNeighbourOf, headed_where}
use Rattle.jb_state.specs.Loaded.{with_message_behind}
use Rattle.jb_state.specs.declared.change.Change.TheVariants.{Posted}
use Rattle.jb_state.specs.declared.change.HeadAt.{HeadAt}
use Rattle.jb_state.specs.declared.loaded.Loaded.{Loaded}
use Rattle.jb_state.specs.declared.loaded.LoadedMessage.{LoadedMessage}
use Rattle.jb_state.specs.declared.loaded.LoadedSlot.TheVariants.{Live}
use Rattle.jb_change.specs.Headers.{Updates, header_place}
use Rattle.jb_change.specs.Put.{IsInNeighbour, MayWrite}
use Rattle.jb_disk.specs.declared.file.FileId.TheVariants.{Jhr}
use Rattle.jb_change.proofs.AfterLemmas.{here_behind, linked_behind, near_headers}
use Rattle.jb_change.proofs.LeavesLemmas.{leaves_header}
use Rattle.jb_change.proofs.UpdateLemmas.{last_place, numbers_linked, updates_links}
use Rattle.jb_change.proofs.heading.put_neighbour.Goals as goal

pub put_links-requires-clause-fits : goal.put_links-requires-clause-fits
put_links-requires-clause-fits c = near_headers MOST_SLOTS c.args.loaded.now c.requires.sound c.in-Some.one.place c.message_at.result.now c.message_at.ensures

pub returns-in-Some-clause-makes : goal.returns-in-Some-clause-makes
returns-in-Some-clause-makes c = λ new text made.
    let from : Loaded = c.args.loaded.now in
    let one : HeadAt = c.in-Some.one in
    let some : c.args.neighbour ≡ Some one = c.in-Some.is in
    let link : IsLinkOf one from = subst (λ (n : Option HeadAt). IsNeighbourOf n from) some c.requires.fits in
    let message : LoadedMessage = c.message_at.result.now in
    subst (λ (n : Option HeadAt). Updates c.put_links.new.redo from (with_message_behind new (headed_where n from)) text) (sym some)
    (subst (λ (l : Loaded). Updates c.put_links.new.redo from l text) (linked_behind one message new from c.message_at.ensures link)
    (updates_links c.args.redo.now c.put_links.new.redo message.header_at one.head.reply_to one.head.reply_first one.head.reply_next c.put_links.ensures.makes c.put_links.ensures.header c.put_links.ensures.only
    from (with_message_behind new from) text one.place message made (here_behind one.place message new from c.message_at.ensures) refl))

pub returns-in-Some-clause-numbered : goal.returns-in-Some-clause-numbered
returns-in-Some-clause-numbered c = λ new text made numbered files loads.
    let from : Loaded = c.args.loaded.now in
    let one : HeadAt = c.in-Some.one in
    let message : LoadedMessage = c.message_at.result.now in
    numbers_linked c.args.redo.now c.put_links.new.redo message.header_at one.head.reply_to one.head.reply_first one.head.reply_next c.put_links.ensures.header c.put_links.ensures.only files (with_message_behind new from) one.place
    (made.made files loads).loads (ap (option_and_then header_place) (here_behind one.place message new from c.message_at.ensures))
    (length from.slots) new.header_at (last_place from.slots (Live new)) ∙ numbered files loads

pub returns-in-Some-clause-leaves : goal.returns-in-Some-clause-leaves
returns-in-Some-clause-leaves c = λ new text made left.
    let from : Loaded = c.args.loaded.now in
    leaves_header c.args.redo.now c.put_links.new.redo 24 12 (omega arith) from (with_message_behind new from) text c.in-Some.one.place c.message_at.result.now (MayWrite from (Posted new c.args.neighbour))
    c.message_at.ensures c.put_links.ensures.only made (λ i own. inr (subst (λ (n : Option HeadAt). IsInNeighbour from n Jhr i) (sym c.in-Some.is) own)) left
