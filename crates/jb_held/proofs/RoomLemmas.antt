-- The room that a change brings, and what it comes to with the room that is there.
use Rattle.std.proofs.Common.{◌≡◌, ℕ, zero, suc, ◌+◌, ◌<◌, Bool, true, false, Option, Some, None, [], ◌∷◌, length, length-append, refl, sym, ap, subst, arith}
use Rattle.std.specs.Prelude.{unwrap_or}
use Rattle.std.specs.Int.{IsPowerOfTwo, is_power_of_two}
use Rattle.jb_link.specs.Index.{IsIndexOf, ReplyIndex}
use Rattle.jb_state.proofs.PlaceLaws.{length_changed}
use Rattle.jb_state.proofs.RoomLaws.{power_told}
use Rattle.jb_state.specs.Change.{headed_where}
use Rattle.jb_state.specs.Loaded.{slot_with_head, with_message_behind}
use Rattle.jb_state.specs.Room.{HasPlaceBeside}
use Rattle.jb_state.specs.declared.change.HeadAt.{HeadAt}
use Rattle.jb_state.specs.declared.loaded.Loaded.{Loaded}
use Rattle.jb_state.specs.declared.loaded.LoadedMessage.{LoadedMessage}
use Rattle.jb_state.specs.declared.loaded.LoadedSlot.TheVariants.{Live}
use Rattle.jb_held.specs.Pending.{BringsWhere}
use Rattle.jb_held.specs.declared.pending.Room.{Room}

-- an index of the area's replies with room for one message more, and a place for one slot more
pub record HasRoomForOne (index : ReplyIndex) (slots : Option ℕ) (loaded : Loaded) : Type 0 where
  pub is : IsIndexOf index loaded
  pub more : 0 < index.room
  pub power : IsPowerOfTwo (length loaded.slots + index.room)
  pub place : HasPlaceBeside (length loaded.slots) slots

-- a neighbour's header changes no slot's place
headed_length : (neighbour : Option HeadAt) (loaded : Loaded) → length (headed_where neighbour loaded).slots ≡ length loaded.slots
headed_length None loaded = refl
headed_length (Some at) loaded = length_changed at.place (slot_with_head at.head) loaded

-- slots and room together stay after a post
pub posted_power : (message : LoadedMessage) (neighbour : Option HeadAt) (loaded now : Loaded) → now ≡ with_message_behind message (headed_where neighbour loaded)
    → (room before : ℕ) → room + 1 ≡ before → IsPowerOfTwo (length loaded.slots + before) → IsPowerOfTwo (length now.slots + room)
posted_power message neighbour loaded now is room before one power =
    subst IsPowerOfTwo (omega (
      arith,
      one,
      ap (λ (l : Loaded). length l.slots) is,
      length-append (headed_where neighbour loaded).slots (Live message ∷ []),
      headed_length neighbour loaded,
    )) power

module _ (held : ReplyIndex) (loaded : Loaded) (is : IsIndexOf held loaded) (power : IsPowerOfTwo (length loaded.slots + held.room)) where
  -- where there are not as many slots as a power of two, there is room
  room_left : is_power_of_two (length loaded.slots) ≡ false → (room : ℕ) → room ≡ held.room → 0 < room
  room_left told zero none =
      let same : length loaded.slots + held.room ≡ length loaded.slots = omega (arith, none) in
      let but : is_power_of_two (length loaded.slots) ≡ true = power_told (length loaded.slots) (subst IsPowerOfTwo same power) in
      absurd (cc)
  room_left told (suc room) some = omega arith

  -- the index that a post goes on with has it
  pub room_for_one : (room : Room) → BringsWhere (is_power_of_two (length loaded.slots)) room loaded → HasRoomForOne (unwrap_or room.replies held) room.slots loaded
  room_for_one room brings = by (is_power_of_two (length loaded.slots)) refl brings
    where
      by : (told : Bool) → is_power_of_two (length loaded.slots) ≡ told → BringsWhere told room loaded → HasRoomForOne (unwrap_or room.replies held) room.slots loaded
      by false told none = subst (λ (r : Room). HasRoomForOne (unwrap_or r.replies held) r.slots loaded) (sym none) (record {
        is = is;
        more = room_left told held.room refl;
        power = power;
        place = λ full. absurd (cc);
      })
      by true told wider = subst (λ (r : Room). HasRoomForOne (unwrap_or r.replies held) r.slots loaded) (sym wider.brought) (record {
        is = wider.is;
        more = omega (arith, wider.index_room.more);
        power = wider.index_room.power;
        place = λ full. (wider.places, refl, wider.slot_room);
      })
