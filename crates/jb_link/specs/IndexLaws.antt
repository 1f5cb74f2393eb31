-- How the index of an area goes with its changes.
use Rattle.std.specs.Prelude.{◌≡◌, ℕ, ◌≤◌, ◌++◌, ◌∷◌, ◌-◌, [], map}
use Rattle.jb_state.specs.Loaded.{IsMessageAt, with_head_at, with_slot_at}
use Rattle.jb_state.specs.Relinked.{relinked_slots}
use Rattle.jb_state.specs.State.{slot_state, state_of}
use Rattle.jb_state.specs.declared.loaded.Loaded.{Loaded}
use Rattle.jb_state.specs.declared.loaded.LoadedMessage.{LoadedMessage}
use Rattle.jb_state.specs.declared.loaded.LoadedSlot.{LoadedSlot}
use Rattle.jb_state.specs.declared.loaded.LoadedSlot.TheVariants.{Killed}
use Rattle.jb_state.specs.declared.message.Head.{Head}
use Rattle.jb_link.specs.Index.{IsIndexOf, ReplyIndex}

-- the second area has one slot more than the first, behind the others
pub record HasOneMore (before after : Loaded) : Type 0 where
  pub base : after.base ≡ before.base
  pub slot : LoadedSlot
  pub slots : after.slots ≡ before.slots ++ slot ∷ []

-- it is the index of the area as it was before its last slot came
pub record IsIndexBefore (replies : ReplyIndex) (loaded : Loaded) : Type 0 where
  pub before : Loaded
  pub more : HasOneMore before loaded
  pub index : IsIndexOf replies before

-- it is the index of the area as it will be when the message with this number is killed
abbrev pub IsIndexAfterKill : ReplyIndex → Loaded → ℕ → Type 0
IsIndexAfterKill replies loaded number = (header_at : ℕ) → IsIndexOf replies (with_slot_at (number - loaded.base) (Killed header_at) loaded)

-- it rests on nothing but the number of the first slot and on the slots
abbrev pub RestsOnSlots : Type 0
RestsOnSlots = (replies : ReplyIndex) (before after : Loaded) → after.base ≡ before.base → after.slots ≡ before.slots
    → IsIndexOf replies before → IsIndexOf replies after

-- other fields in the header of a message, with the same ReplyTo, leave the index as it is
abbrev pub StaysUnderHeads : Type 0
StaysUnderHeads = (replies : ReplyIndex) (loaded : Loaded) (place : ℕ) (message : LoadedMessage) (head : Head)
    → IsMessageAt loaded place message → head.reply_to ≡ message.head.reply_to → IsIndexOf replies loaded
    → IsIndexOf replies (with_head_at place head message loaded)

-- the links of all messages, computed anew, leave it as it is
abbrev pub StaysUnderRelink : Type 0
StaysUnderRelink = (replies : ReplyIndex) (before after : Loaded) → 1 ≤ before.base → after.base ≡ before.base
    → map (slot_state []) after.slots ≡ relinked_slots (state_of [] before) → IsIndexOf replies before → IsIndexOf replies after
