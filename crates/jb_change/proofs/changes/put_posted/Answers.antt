use Rattle.std.proofs.Common.{inl, ◌+◌, ◌%◌, ◌^◌, ℕ, List, length, ap, subst, sym, ◌∙◌}
use Rattle.jb_state.specs.Change.{headed_where}
use Rattle.jb_state.specs.Loaded.{with_message_behind}
use Rattle.jb_state.specs.declared.change.Change.TheVariants.{Posted}
use Rattle.jb_state.specs.declared.loaded.Loaded.{Loaded}
use Rattle.jb_state.specs.declared.loaded.LoadedMessage.{LoadedMessage}
use Rattle.jb_state.specs.declared.loaded.LoadedSlot.TheVariants.{Live}
use Rattle.jb_change.specs.Headers.{Updates}
use Rattle.jb_change.specs.Put.{MayWrite}
use Rattle.jb_change.proofs.AfterLemmas.{counted_is, counter_where, next_is}
use Rattle.jb_change.proofs.LeavesLemmas.{leaves_behind, leaves_counts, leaves_rest}
use Rattle.jb_change.proofs.UpdateLemmas.{last_place, numbers_counted, updates_behind, updates_counted}
use Rattle.jb_change.proofs.changes.put_posted.Goals as goal

pub put_post-requires-clause-next : goal.put_post-requires-clause-next
put_post-requires-clause-next c = next_is c.args.loaded.now c.args.message.now c.args.text.now c.requires.behind c.requires.text

pub returns-clause-makes : goal.returns-clause-makes
returns-clause-makes c =
    let from : Loaded = c.args.loaded.now in
    let message : LoadedMessage = c.args.message.now in
    let text : List ℕ = c.args.text.now in
    let to : Loaded = with_message_behind message (headed_where c.args.neighbour from) in
    subst (λ (l : Loaded). Updates c.put_counts.new.redo from l text)
    (counted_is to _ c.args.active (ap (λ (n : ℕ). (n + 1) % 2 ^ 32) (sym (counter_where c.args.neighbour from))) c.requires.active)
    (updates_counted c.put_neighbour.new.redo c.put_counts.new.redo _ c.args.active c.put_counts.ensures.makes c.put_counts.ensures.only from to text
    (c.put_neighbour.ensures.makes message text (updates_behind c.put_post.new.redo from message text c.in_ok-put_post.ensures.appends c.in_ok-put_post.ensures.makes)))

pub returns-clause-numbered : goal.returns-clause-numbered
returns-clause-numbered c = λ files loads.
    let from : Loaded = c.args.loaded.now in
    let message : LoadedMessage = c.args.message.now in
    let text : List ℕ = c.args.text.now in
    let linked : Loaded = headed_where c.args.neighbour from in
    let updates : Updates c.put_neighbour.new.redo from (with_message_behind message linked) text =
    c.put_neighbour.ensures.makes message text (updates_behind c.put_post.new.redo from message text c.in_ok-put_post.ensures.appends c.in_ok-put_post.ensures.makes) in
    numbers_counted c.put_neighbour.new.redo c.put_counts.new.redo c.put_counts.ensures.only files (with_message_behind message linked) (updates.makes.made files loads).loads
    (length linked.slots) message.header_at (last_place linked.slots (Live message))
    ∙ c.put_neighbour.ensures.numbered message text c.in_ok-put_post.ensures.makes c.in_ok-put_post.ensures.numbered files loads

pub returns-clause-leaves : goal.returns-clause-leaves
returns-clause-leaves c =
    let from : Loaded = c.args.loaded.now in
    let message : LoadedMessage = c.args.message.now in
    let text : List ℕ = c.args.text.now in
    let behind : Updates c.put_post.new.redo from (with_message_behind message from) text =
    updates_behind c.put_post.new.redo from message text c.in_ok-put_post.ensures.appends c.in_ok-put_post.ensures.makes in
    leaves_rest c.put_counts.new.redo from (Posted message c.args.neighbour) text (returns-clause-makes c)
    (leaves_counts c.put_neighbour.new.redo c.put_counts.new.redo from (with_message_behind message (headed_where c.args.neighbour from)) text (MayWrite from (Posted message c.args.neighbour))
    c.put_counts.ensures.only (c.put_neighbour.ensures.makes message text behind) (λ i own. inl own)
    (c.put_neighbour.ensures.leaves message text behind (leaves_behind c.put_post.new.redo from (MayWrite from (Posted message c.args.neighbour)) c.in_ok-put_post.ensures.appends)))
