-- How many messages are live, before and after a change of one slot.
use Rattle.std.proofs.Common.{◌≡◌, ℕ, ◌+◌, ◌<◌, cond, List, [], ◌∷◌, map, set, get_or, length, ◌∙◌, ap, arith}
use Rattle.std.proofs.lemmas.List.{get_or-map, length-map, map-append, map-set}
use Rattle.std.proofs.lemmas.List.Sums.{sum_by-set, sum_by_push}
use Rattle.std.proofs.lemmas.Option.{get_or_from_slice_get, slice_get_within}
use Rattle.jb_state.specs.Change.{live_messages}
use Rattle.jb_state.specs.Live.{is_live, live_count}
use Rattle.jb_state.specs.Loaded.{IsMessageAt, with_head_at, with_killed_at, with_message_behind, with_slot_at}
use Rattle.jb_state.specs.State.{SlotState, no_message, slot_state}
use Rattle.jb_state.specs.declared.loaded.Loaded.{Loaded}
use Rattle.jb_state.specs.declared.loaded.LoadedMessage.{LoadedMessage}
use Rattle.jb_state.specs.declared.loaded.LoadedSlot.{LoadedSlot}
use Rattle.jb_state.specs.declared.loaded.LoadedSlot.TheVariants.{Empty, Killed, Live}
use Rattle.jb_state.specs.declared.message.Head.{Head}

-- one where the slot is live
abbrev pub live_one : SlotState → ℕ
live_one slot = cond (is_live slot) 1 0

-- the count after another slot is put in the place of a live one
pub live_after_set : (loaded : Loaded) (place : ℕ) (message : LoadedMessage) (slot : LoadedSlot) → IsMessageAt loaded place message
    → live_messages (with_slot_at place slot loaded) + 1 ≡ live_messages loaded + live_one (slot_state [] slot)
live_after_set loaded place message slot here =
    let states : List SlotState = map (slot_state []) loaded.slots in
    let within : place < length loaded.slots = slice_get_within loaded.slots place (Live message) here in
    let inside : place < length states = omega (arith, length-map loaded.slots (slot_state [])) in
    let old : live_one (get_or states place no_message) ≡ 1 =
    ap live_one (get_or-map (slot_state []) loaded.slots place Empty no_message within ∙ ap (slot_state []) (get_or_from_slice_get loaded.slots place (Live message) Empty here)) in
    let moved : live_messages (with_slot_at place slot loaded) ≡ live_count (set states place (slot_state [] slot)) =
    ap live_count (map-set (slot_state []) loaded.slots place slot) in
    let summed : live_count (set states place (slot_state [] slot)) + live_one (get_or states place no_message) ≡ live_count states + live_one (slot_state [] slot) =
    sum_by-set live_one states place (slot_state [] slot) no_message inside in
    omega arith

-- as many after other fields in the header of a message
pub live_read : (loaded : Loaded) (place : ℕ) (head : Head) (message : LoadedMessage) → IsMessageAt loaded place message
    → live_messages (with_head_at place head message loaded) ≡ live_messages loaded
live_read loaded place head message here =
    let counts : live_messages (with_slot_at place (Live (record message { head = head })) loaded) + 1 ≡ live_messages loaded + 1 =
    live_after_set loaded place message (Live (record message { head = head })) here in
    omega arith

-- one less after a kill
pub live_without : (loaded : Loaded) (place : ℕ) (message : LoadedMessage) → IsMessageAt loaded place message
    → live_messages (with_killed_at place message loaded) + 1 ≡ live_messages loaded
live_without loaded place message here =
    let counts : live_messages (with_slot_at place (Killed message.header_at) loaded) + 1 ≡ live_messages loaded + 0 =
    live_after_set loaded place message (Killed message.header_at) here in
    omega arith

-- one more with a message behind the others
pub live_behind : (loaded : Loaded) (message : LoadedMessage) → live_messages (with_message_behind message loaded) ≡ live_messages loaded + 1
live_behind loaded message =
    ap live_count (map-append (slot_state []) loaded.slots (Live message ∷ []))
    ∙ sum_by_push live_one (map (slot_state []) loaded.slots) (slot_state [] (Live message))
