use Rattle.std.proofs.Common.{◌≡◌, ◌+◌, sym, ◌∙◌, ap, subst, length}
use Rattle.std.specs.Int.{IsPowerOfTwo}
use Rattle.jb_state.specs.Change.{live_messages}
use Rattle.jb_state.specs.Loaded.{slot_with_head}
use Rattle.jb_state.specs.declared.loaded.Loaded.{Loaded}
use Rattle.jb_link.specs.Index.{IsIndexOf}
use Rattle.jb_held.proofs.IndexLaws.{headed_index}
use Rattle.jb_held.proofs.KeptLemmas.{kept_counted}
use Rattle.jb_held.proofs.LiveLaws.{live_headed}
use Rattle.jb_state.proofs.PlaceLaws.{length_changed}
use Rattle.jb_held.proofs.held.HeldArea.change_head.Goals as goal

pub count_change-requires : goal.count_change-requires
count_change-requires c =
    let fits = rw (← c.self.view_is) at c.requires.fits in
    c.self.invariant.live ∙ sym (live_headed c.args.at c.self.inside.loaded fits) ∙ sym (ap live_messages c.set_head.ensures)

pub invariant_of-self : goal.invariant_of-self
invariant_of-self c =
    let fits = rw (← c.self.view_is) at c.requires.fits in
    let loaded : Loaded = c.self.inside.loaded in
    let count : c.self.inside.live ≡ live_messages c.set_head.new.loaded =
    c.self.invariant.live ∙ sym (live_headed c.args.at loaded fits) ∙ sym (ap live_messages c.set_head.ensures) in
    kept_counted c.self.inside c.set_head.new.loaded c.count_change.new.loaded c.self.inside.live c.self.inside.replies c.self.invariant c.count_change.ensures count
    (ap (λ (l : Loaded). l.marks) c.set_head.ensures)
    (subst (IsIndexOf c.self.inside.replies) (sym c.set_head.ensures) (headed_index c.self.inside.replies c.args.at loaded fits c.self.invariant.replies))
    (subst IsPowerOfTwo (sym (ap (λ (l : Loaded). length l.slots + c.self.inside.replies.room) c.set_head.ensures
    ∙ ap (λ n. n + c.self.inside.replies.room) (length_changed c.args.at.place (slot_with_head c.args.at.head) loaded))) c.self.invariant.reply_room)
