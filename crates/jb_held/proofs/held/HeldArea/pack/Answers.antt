use Rattle.std.proofs.Common.{◌≡◌, ◌+◌, length, ap, sym, subst, ◌∙◌}
use Rattle.std.specs.Int.{IsPowerOfTwo}
use Rattle.jb_marks.specs.Order.{IsOrdered}
use Rattle.jb_state.specs.Change.{live_messages}
use Rattle.jb_state.specs.Packed.{packed}
use Rattle.jb_state.specs.declared.loaded.Loaded.{Loaded}
use Rattle.jb_link.specs.Index.{IsIndexOf, ReplyIndex}
use Rattle.jb_held.specs.declared.pending.Room.{Room}
use Rattle.jb_held.proofs.KeptLemmas.{one_index}
use Rattle.jb_held.proofs.LiveLaws.{live_packed}
use Rattle.jb_held.proofs.held.HeldArea.pack.Goals as goal

pub invariant_of-self : goal.invariant_of-self
invariant_of-self c =
    let kept = c.self.invariant in
    let from : Loaded = c.self.inside.loaded in
    let given = rw (← c.self.view_is) at c.requires.room in
    let index : given.index ≡ c.in-Some.replies = one_index given.index c.in-Some.replies (sym (ap (λ (r : Room). r.replies) given.brought) ∙ c.in-Some.is) in
    let same : c.pack_loaded.new.loaded ≡ packed from = c.pack_loaded.ensures in
    record {
      live = kept.live ∙ sym (live_packed c.args.plan.now c.args.base from) ∙ sym (ap live_messages same);
      marks = subst (λ (l : Loaded). IsOrdered l.marks c.self.inside.mark_index.order) (sym same) kept.marks;
      mark_room = kept.mark_room;
      replies = subst (IsIndexOf c.in-Some.replies) (sym same) (subst (λ (r : ReplyIndex). IsIndexOf r (packed from)) index given.is);
      reply_room = subst IsPowerOfTwo (sym (ap (λ (l : Loaded). length l.slots + c.in-Some.replies.room) same))
          (subst (λ (r : ReplyIndex). IsPowerOfTwo (length (packed from).slots + r.room)) index given.index_room.power);
    }
