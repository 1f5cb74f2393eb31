-- Numbers by ids.
use Rattle.std.specs.Prelude.{◌≡◌, ℕ, ◌<◌, ◌-◌, ◌%◌, nat_lt, ◌&&◌, ◌||◌, ◌==◌, List, Option, None, bytes_eq, find, length, option_map, slice_get, slice_index, unwrap_or, if◌then◌else◌}
use Rattle.std.specs.Borrow.{Bor}
use Rattle.std.specs.BTreeMap.{BTreeMap, get_by}
use Rattle.std.specs.Cmp.Lexicographic.{slice_cmp}
use Rattle.std.specs.Hash.FoldHasher as folding
use Rattle.std.specs.Ordering.{nat_cmp, ordering_then}
use Rattle.jb_state.specs.Links.{Linkable, is_id, number_or_0}
use Rattle.jb_state.specs.declared.loaded.LoadedSlot.{LoadedSlot}
use Rattle.jb_link.specs.declared.ids.Ids.{Ids}
use Rattle.jb_state.specs.LiveSlots.{msgid_in}

-- a number that ids with the same bytes share, and others hardly ever
unfoldable pub hash_of : List ℕ → ℕ
hash_of id = folding.finish (folding.write folding.initial id)

-- the number at the seat of an id
abbrev pub at_seat : List ℕ → List ℕ → ℕ
at_seat seats id = slice_index seats (hash_of id % length seats)

-- the number that the others have for an id, or 0
abbrev pub number_among : BTreeMap (ℕ × Bor (List ℕ)) ℕ → List ℕ → ℕ
number_among others id =
    unwrap_or (get_by (λ key. ordering_then (nat_cmp (hash_of id) key.0) (slice_cmp nat_cmp id key.1.now)) others) 0

-- the MSGID of the live message with this number, where it has one; the first slot has the number `base`
abbrev pub msgid_at : ℕ → List LoadedSlot → ℕ → Option (List ℕ)
msgid_at base slots number = if nat_lt number base then None else msgid_in (slice_get slots (number - base))

-- the number of an id, or 0: that of its seat, where this is of its message or of none, else what the others have
abbrev pub number_of : ℕ → List LoadedSlot → Ids → List ℕ → ℕ
number_of base slots ids id =
    if (at_seat ids.seats.items id == 0) || is_id id (msgid_at base slots (at_seat ids.seats.items id)) then at_seat ids.seats.items id
    else number_among ids.others.numbers id

-- there are seats, and an id whose seat is free is not among the others
pub record IsSettled (ids : Ids) : Type 0 where
  pub seats : 0 < length ids.seats.items
  pub free : (id : List ℕ) → at_seat ids.seats.items id ≡ 0 → number_among ids.others.numbers id ≡ 0

-- for each id it has the lowest number of these live messages that have it, or 0
abbrev pub HasLowest : (List ℕ → ℕ) → List Linkable → Type 0
HasLowest numbers live = (id : List ℕ) → numbers id ≡ number_or_0 (find (λ one. is_id id one.msgid) live)

-- the bytes of an id that is lent, where there is one
abbrev pub lent : Option (Bor (List ℕ)) → Option (List ℕ)
lent id = option_map (λ bytes. bytes.now) id

-- this id has this number now, where it had none; the others are as before
abbrev pub IsNumberedNow : (List ℕ → ℕ) → (List ℕ → ℕ) → List ℕ → ℕ → Type 0
IsNumberedNow old new id number = (other : List ℕ) → new other ≡ (if bytes_eq id other && (old id == 0) then number else old other)

-- the MSGID of a slot with this number has that number now, where it had none
abbrev pub KeepsLowest : (List ℕ → ℕ) → (List ℕ → ℕ) → ℕ → Option LoadedSlot → Type 0
KeepsLowest old new number slot = (id : List ℕ) → new id ≡ (if is_id id (msgid_in slot) && (old id == 0) then number else old id)
