-- The index of the replies after each change.
use Rattle.std.proofs.Common.{◌≡◌, ℕ, ◌+◌, ◌-◌, ◌≤◌, List, Option, None, Some, refl, sym, subst, ap, arith}
use Rattle.jb_bytes.specs.declared.subfield.TheConstants.{MSGID, REPLYID}
use Rattle.jb_link.proofs.LawLemmas.{rests_on_slots, stays_under_heads, stays_under_relink}
use Rattle.jb_link.specs.IdLists.{IsIdList}
use Rattle.jb_link.specs.Index.{HasSameLists, IsIndexOf, ReplyIndex}
use Rattle.jb_link.specs.IndexLaws.{IsIndexAfterKill, IsIndexBefore}
use Rattle.jb_link.specs.Kept.{IsKeptList}
use Rattle.jb_state.specs.Change.{IsNeighbourOf, IsReadingOf, headed, headed_where, loaded_counted}
use Rattle.jb_state.specs.Linked.{with_links_of}
use Rattle.jb_state.specs.LiveSlots.{linkables_from}
use Rattle.jb_state.specs.Loaded.{IsMessageAt, with_message_behind, with_slot_at}
use Rattle.jb_state.specs.Plan.{plan_of}
use Rattle.jb_state.specs.declared.change.HeadAt.{HeadAt}
use Rattle.jb_state.specs.declared.links.Links.{Links}
use Rattle.jb_state.specs.declared.loaded.Loaded.{Loaded}
use Rattle.jb_state.specs.declared.loaded.LoadedMessage.{LoadedMessage}
use Rattle.jb_state.specs.declared.loaded.LoadedSlot.TheVariants.{Killed, Live}
use Rattle.jb_state.specs.declared.message.Head.{Head}
use Rattle.jb_state.proofs.PlaceLaws.{headed_is}
use Rattle.jb_state.proofs.LinkedLaws.{base_of, links_of_state}

-- the same lists are the same index
pub same_lists : (old new : ReplyIndex) (loaded : Loaded) → HasSameLists old new → IsIndexOf old loaded → IsIndexOf new loaded
same_lists old new loaded same is = record {
  ids = subst (IsIdList MSGID loaded) (sym same.ids) is.ids;
  answers = subst (IsIdList REPLYID loaded) (sym same.answers) is.answers;
  kept = subst (IsKeptList loaded) (sym same.kept) is.kept;
}

-- the counts do not matter
pub counted_index : (replies : ReplyIndex) (loaded : Loaded) → IsIndexOf replies loaded → IsIndexOf replies (loaded_counted loaded)
counted_index replies loaded is = rests_on_slots replies loaded (loaded_counted loaded) refl refl is

-- a header with the same ReplyTo leaves the index as it is
pub header_index : (replies : ReplyIndex) (at : HeadAt) (message : LoadedMessage) (loaded : Loaded) → IsMessageAt loaded at.place message
    → at.head.reply_to ≡ message.head.reply_to → IsIndexOf replies loaded → IsIndexOf replies (headed at loaded)
header_index replies at message loaded here same is =
    subst (IsIndexOf replies) (sym (headed_is at message loaded here)) (stays_under_heads replies loaded at.place message at.head here same is)

-- so does that of a neighbour, where there is one
pub neighbour_index : (replies : ReplyIndex) (neighbour : Option HeadAt) (loaded : Loaded) → IsNeighbourOf neighbour loaded → IsIndexOf replies loaded
    → IsIndexOf replies (headed_where neighbour loaded)
neighbour_index replies None loaded fits is = is
neighbour_index replies (Some at) loaded fits is = header_index replies at fits.message loaded fits.here (ap (λ (h : Head). h.reply_to) fits.same) is

-- before a post it is the index of the area without the message
pub index_before_post : (replies : ReplyIndex) (message : LoadedMessage) (neighbour : Option HeadAt) (loaded : Loaded) → IsNeighbourOf neighbour loaded
    → IsIndexOf replies loaded → IsIndexBefore replies (with_message_behind message (headed_where neighbour loaded))
index_before_post replies message neighbour loaded fits is = record {
  before = headed_where neighbour loaded;
  more = record { base = refl; slot = Live message; slots = refl };
  index = neighbour_index replies neighbour loaded fits is;
}

-- the index after a reading, before it is counted
pub headed_index : (replies : ReplyIndex) (at : HeadAt) (loaded : Loaded) → IsReadingOf at loaded → IsIndexOf replies loaded → IsIndexOf replies (headed at loaded)
headed_index replies at loaded fits is = header_index replies at fits.message loaded fits.here (ap (λ (h : Head). h.reply_to) fits.same) is

-- the index out of which a message was taken, by the place of the message
pub index_there : (replies : ReplyIndex) (loaded : Loaded) (place header_at : ℕ) → IsIndexAfterKill replies loaded (loaded.base + place)
    → IsIndexOf replies (with_slot_at place (Killed header_at) loaded)
index_there replies loaded place header_at gone =
    let same : loaded.base + place - loaded.base ≡ place = omega arith in
    subst (λ (n : ℕ). IsIndexOf replies (with_slot_at n (Killed header_at) loaded)) same (gone header_at)

-- the links of all messages leave the index as it is
pub linked_index : (replies : ReplyIndex) (plan : List Links) (loaded : Loaded) → 1 ≤ loaded.base → plan ≡ plan_of (linkables_from loaded.base loaded.slots)
    → IsIndexOf replies loaded → IsIndexOf replies (with_links_of plan loaded)
linked_index replies plan loaded one is index =
    stays_under_relink replies loaded (with_links_of plan loaded) one (base_of plan loaded) (links_of_state loaded plan is) index
