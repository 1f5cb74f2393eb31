-- What is kept whole stays so through a change.
use Rattle.std.proofs.Common.{◌≡◌, ℕ, ◌+◌, List, length, sym, ◌∙◌, ap, subst, Some}
use Rattle.std.specs.Int.{IsPowerOfTwo}
use Rattle.jb_link.specs.Index.{IsIndexOf, ReplyIndex}
use Rattle.jb_marks.specs.Order.{IsOrdered}
use Rattle.jb_state.specs.Change.{live_messages, loaded_counted}
use Rattle.jb_state.specs.declared.loaded.Loaded.{Loaded}
use Rattle.jb_state.specs.declared.mark.Mark.{Mark}
use Rattle.jb_held.proofs.IndexLaws.{counted_index}
use Rattle.jb_held.specs.Held.{IsKeptWhole}
use Rattle.jb_held.specs.declared.held.HeldArea.TheInside.{Inside}

-- one index
pub one_index : (one other : ReplyIndex) → Some one ≡ Some other → one ≡ other
one_index one other is = cc

-- the marks of what was kept, beside an area with the same ones whose change was counted
pub kept_counted : (old : Inside) (changed now : Loaded) (live : ℕ) (replies : ReplyIndex) → IsKeptWhole old → now ≡ loaded_counted changed
    → live ≡ live_messages changed → changed.marks ≡ old.loaded.marks → IsIndexOf replies changed → IsPowerOfTwo (length changed.slots + replies.room)
    → IsKeptWhole (record { loaded = now; live = live; mark_index = old.mark_index; replies = replies })
kept_counted old changed now live replies kept is count marks index room = record {
  live = count ∙ sym (ap live_messages is);
  marks = subst (λ (m : List Mark). IsOrdered m old.mark_index.order) (sym (ap (λ (l : Loaded). l.marks) is ∙ marks)) kept.marks;
  mark_room = kept.mark_room;
  replies = subst (IsIndexOf replies) (sym is) (counted_index replies changed index);
  reply_room = subst IsPowerOfTwo (sym (ap (λ (l : Loaded). length l.slots + replies.room) is)) room;
}
