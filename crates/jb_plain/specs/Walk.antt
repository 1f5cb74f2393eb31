-- Walks over the slots of an area.
use Rattle.std.specs.Prelude.{ℕ, ◌+◌, Bool, false, not, List, [], ◌∷◌, Option, Some, None, count_by, find, map, if◌then◌else◌}
use Rattle.jb_state.specs.Links.{Linkable, linkable, number_or_0}
use Rattle.jb_state.specs.Live.{Numbered, live_from}
use Rattle.jb_state.specs.Relinked.{has_its_links, relinked}
use Rattle.jb_state.specs.Tight.{owned, owned_slot}
use Rattle.jb_state.specs.declared.area.Message.{Message}
use Rattle.jb_state.specs.declared.area.Slot.{Slot}
use Rattle.jb_state.specs.declared.area.Slot.TheVariants.{Empty, Killed, Live}
use Rattle.jb_state.specs.declared.message.Head.{Head}

-- the live messages of slots of which the first has this number
abbrev pub live_of_slots : ℕ → List Slot → List Numbered
live_of_slots number slots = live_from number (map owned_slot slots)

-- what the links of slots rest on, of which the first has this number
abbrev pub linkables_from : ℕ → List Slot → List Linkable
linkables_from number slots = map linkable (live_of_slots number slots)

-- a message of the area under a number
abbrev pub numbered : ℕ → Message → Numbered
numbered number message = record { number = number; message = owned message }

-- the slot is live under this number and passes the test
abbrev pub slot_passes : (Linkable → Bool) → ℕ → Slot → Bool
slot_passes test number Empty = false
slot_passes test number Killed = false
slot_passes test number (Live message) = test (linkable (numbered number message))

-- the number of the first slot that passes, or 0
abbrev pub found_in : (Linkable → Bool) → ℕ → List Slot → ℕ
found_in test number slots = number_or_0 (find test (linkables_from number slots))

-- the number of the last slot that passes, or the one before them
abbrev pub last_from : (Linkable → Bool) → ℕ → ℕ → List Slot → ℕ
last_from test last number [] = last
last_from test last number (slot ∷ slots) = last_from test (if slot_passes test number slot then number else last) (number + 1) slots

-- the slot is live and has a link that is another than these live messages give
abbrev pub slot_wrong : List Linkable → ℕ → Slot → Bool
slot_wrong live number Empty = false
slot_wrong live number Killed = false
slot_wrong live number (Live message) = not (has_its_links live (numbered number message))

-- so many messages have a link that is another
abbrev pub wrong_from : List Linkable → ℕ → List Slot → ℕ
wrong_from live number slots = count_by (λ one. not (has_its_links live one)) (live_of_slots number slots)

-- the slot with other fields in its message's header
abbrev pub slot_with_head : Head → Slot → Slot
slot_with_head head Empty = Empty
slot_with_head head Killed = Killed
slot_with_head head (Live message) = Live (record message { head = head })

-- the header's fields of a slot's message with the links that these live messages give
abbrev pub slot_head : List Linkable → ℕ → Slot → Option Head
slot_head live number Empty = None
slot_head live number Killed = None
slot_head live number (Live message) = Some (relinked live (numbered number message)).head

-- the same of each slot
abbrev pub heads_from : List Linkable → ℕ → List Slot → List (Option Head)
heads_from live number [] = []
heads_from live number (slot ∷ slots) = slot_head live number slot ∷ heads_from live (number + 1) slots

-- the slot with these fields, where there are some
abbrev pub with_some_head : Option Head → Slot → Slot
with_some_head None slot = slot
with_some_head (Some head) slot = slot_with_head head slot

-- each slot with its fields
abbrev pub with_heads : List (Option Head) → List Slot → List Slot
with_heads [] slots = slots
with_heads (head ∷ heads) [] = []
with_heads (head ∷ heads) (slot ∷ slots) = with_some_head head slot ∷ with_heads heads slots

-- the slot, where it is not killed
abbrev pub without_killed : Slot → Slot
without_killed Empty = Empty
without_killed Killed = Empty
without_killed (Live message) = Live message

-- how many slots stand in front of the first live one
abbrev pub front_of : List Slot → ℕ
front_of [] = 0
front_of (Empty ∷ slots) = 1 + front_of slots
front_of (Killed ∷ slots) = 1 + front_of slots
front_of (Live message ∷ slots) = 0
