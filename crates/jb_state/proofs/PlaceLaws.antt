-- What a change puts in the place of a live message.
use Rattle.std.proofs.Common.{◌≡◌, ℕ, ◌-◌, Bool, true, false, cond, nat_lt, get_or, length, slice_get, Option, Some, None, refl, ◌∙◌, ap}
use Rattle.std.proofs.lemmas.List.{length-set}
use Rattle.std.proofs.lemmas.Option.{get_or_from_slice_get}
use Rattle.jb_state.specs.Change.{headed, headed_where, killed_slot, with_slot_changed}
use Rattle.jb_state.specs.LiveSlots.{message_in}
use Rattle.jb_state.specs.Loaded.{IsMessageAt, slot_with_head, with_head_at, with_killed_at, with_slot_at}
use Rattle.jb_state.specs.Plan.{loaded_at}
use Rattle.jb_state.specs.declared.change.HeadAt.{HeadAt}
use Rattle.jb_state.specs.declared.loaded.Loaded.{Loaded}
use Rattle.jb_state.specs.declared.loaded.LoadedMessage.{LoadedMessage}
use Rattle.jb_state.specs.declared.loaded.LoadedSlot.{LoadedSlot}
use Rattle.jb_state.specs.declared.loaded.LoadedSlot.TheVariants.{Empty, Killed, Live}

-- the slot at the place of a message holds it
pub slot_is : (loaded : Loaded) (place : ℕ) (message : LoadedMessage) (d : LoadedSlot) → IsMessageAt loaded place message → get_or loaded.slots place d ≡ Live message
slot_is loaded place message d here = get_or_from_slice_get loaded.slots place (Live message) d here

-- other fields in the header of the message that stands there
pub headed_is : (at : HeadAt) (message : LoadedMessage) (loaded : Loaded) → IsMessageAt loaded at.place message
    → headed at loaded ≡ with_head_at at.place at.head message loaded
headed_is at message loaded here =
    ap (λ (one : LoadedSlot). with_slot_at at.place (slot_with_head at.head one) loaded) (slot_is loaded at.place message Empty here)

-- the message that stands there is killed
pub killed_is : (place : ℕ) (message : LoadedMessage) (loaded : Loaded) → IsMessageAt loaded place message
    → with_slot_changed place killed_slot loaded ≡ with_killed_at place message loaded
killed_is place message loaded here =
    ap (λ (one : LoadedSlot). with_slot_at place (killed_slot one) loaded) (slot_is loaded place message Empty here)

-- there are as many slots
pub length_changed : (place : ℕ) (change : LoadedSlot → LoadedSlot) (loaded : Loaded) → length (with_slot_changed place change loaded).slots ≡ length loaded.slots
length_changed place change loaded = length-set loaded.slots place _

-- the header of a neighbour leaves the marks
pub marks_beside : (neighbour : Option HeadAt) (loaded : Loaded) → (headed_where neighbour loaded).marks ≡ loaded.marks
marks_beside None loaded = refl
marks_beside (Some at) loaded = refl

-- a message that a number names stands at its place
pub named_at_place : (loaded : Loaded) (number : ℕ) (message : LoadedMessage) → loaded_at loaded number ≡ Some message
    → IsMessageAt loaded (number - loaded.base) message
named_at_place loaded number message is = by_order (nat_lt number loaded.base) (slice_get loaded.slots (number - loaded.base)) refl is
  where
    by_order : (below : Bool) (slot : Option LoadedSlot) → slice_get loaded.slots (number - loaded.base) ≡ slot
        → cond below None (message_in slot) ≡ Some message → IsMessageAt loaded (number - loaded.base) message
    by_order true slot at h = absurd (cc)
    by_order false None at h = absurd (cc)
    by_order false (Some Empty) at h = absurd (cc)
    by_order false (Some (Killed header_at)) at h = absurd (cc)
    by_order false (Some (Live other)) at h =
        let same : other ≡ message = cc in
        at ∙ ap (λ m. Some (Live m)) same
