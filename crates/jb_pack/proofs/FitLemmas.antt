-- The headers of a sound area lie apart below their ceiling, so that together they are no longer than it.
use Rattle.std.proofs.Common.{◌≡◌, ◌⊎◌, inl, inr, ℕ, cond, zero, suc, ◌+◌, ◌-◌, ◌*◌, ◌≤◌, min, List, [], ◌∷◌, All, refl, ap, arith}
use Rattle.std.specs.Prelude.{AllPairs, sum_by}
use Rattle.std.proofs.lemmas.Bool.{cases_lt}
use Rattle.std.proofs.lemmas.List.Sums.{sum_by-cons}
use Rattle.std.proofs.lemmas.List.Elements.{All-head, All-tail}
use Rattle.jb_limits.specs.declared.limits.TheConstants.{HEADERS_CEILING}
use Rattle.jb_state.specs.Loaded.{header_size}
use Rattle.jb_state.specs.Sound.{AreApart, Covers, IsSlotWithin, IsSound}
use Rattle.jb_state.specs.declared.loaded.Loaded.{Loaded}
use Rattle.jb_state.specs.declared.loaded.LoadedSlot.{LoadedSlot}
use Rattle.jb_state.specs.declared.loaded.LoadedSlot.TheVariants.{Empty, Killed, Live}
use Rattle.jb_state.specs.Packed.{headers_size, is_live_slot, kept_slots, live_slots, slot_header_size}
use Rattle.jb_pack.proofs.StateLemmas.{sum_of_kept}

-- how many bytes of a live message's header lie below this place
abbrev below : ℕ → LoadedSlot → ℕ
below i Empty = 0
below i (Killed at) = 0
below i (Live message) = min i (message.header_at + header_size message) - min i message.header_at

-- one place further there is one byte more, which is the slot's, or none
one_more : (i : ℕ) (slot : LoadedSlot) → (below (i + 1) slot ≡ below i slot) ⊎ ((below (i + 1) slot ≡ below i slot + 1) × Covers slot i)
one_more i Empty = inl refl
one_more i (Killed at) = inl refl
one_more i (Live message) = elim (cases_lt i message.header_at) [
  | inl before ↦ inl (omega arith)
  | inr from ↦ elim (cases_lt i (message.header_at + header_size message)) [
    | inl inside ↦ inr (omega arith, (from, omega arith))
    | inr behind ↦ inl (omega arith)
  ]
]

-- where no slot has the byte there is none more of all
none_more : (i : ℕ) (slots : List LoadedSlot) → All (λ slot. Covers slot i → ⊥) slots → sum_by (below (i + 1)) slots ≡ sum_by (below i) slots
none_more i [] none = refl
none_more i (slot ∷ slots) none =
    let rest = none_more i slots (All-tail (λ slot. Covers slot i → ⊥) slot slots none) in
    elim (one_more i slot) [
      | inl same ↦ omega (arith, sum_by-cons (below (i + 1)) slot slots, sum_by-cons (below i) slot slots)
      | inr more ↦ absurd (All-head (λ slot. Covers slot i → ⊥) slot slots none more.1)
    ]

-- the later slots are apart too
rest_apart : (slot : LoadedSlot) (slots : List LoadedSlot) → AllPairs AreApart (slot ∷ slots) → AllPairs AreApart slots
rest_apart slot slots apart i j d order low = apart (suc i) (suc j) d (omega arith) (omega (arith, low))

-- and the first one is apart from each
first_apart : (slot : LoadedSlot) (slots : List LoadedSlot) → AllPairs AreApart (slot ∷ slots) → All (AreApart slot) slots
first_apart slot slots apart k d low = apart 0 (suc k) d (omega arith) (omega (arith, low))

-- one byte belongs to one slot at most
one_of_all : (i : ℕ) (slots : List LoadedSlot) → AllPairs AreApart slots → sum_by (below (i + 1)) slots ≤ sum_by (below i) slots + 1
one_of_all i [] apart = omega arith
one_of_all i (slot ∷ slots) apart =
    let rest = one_of_all i slots (rest_apart slot slots apart) in
    elim (one_more i slot) [
      | inl same ↦ omega (arith, sum_by-cons (below (i + 1)) slot slots, sum_by-cons (below i) slot slots)
      | inr more ↦
          let others = none_more i slots (λ k d low covered. first_apart slot slots apart k d low i more.1 covered) in
          omega (arith, more.0, sum_by-cons (below (i + 1)) slot slots, sum_by-cons (below i) slot slots)
    ]

-- in front of all slots there is none
none_in_front : (headers_len texts_len : ℕ) (slots : List LoadedSlot) → All (IsSlotWithin headers_len texts_len) slots → sum_by (below 1024) slots ≡ 0
none_in_front headers_len texts_len [] within = refl
none_in_front headers_len texts_len (Empty ∷ slots) within =
    let rest = none_in_front headers_len texts_len slots (All-tail (IsSlotWithin headers_len texts_len) Empty slots within) in
    omega (arith, sum_by-cons (below 1024) Empty slots)
none_in_front headers_len texts_len (Killed at ∷ slots) within =
    let rest = none_in_front headers_len texts_len slots (All-tail (IsSlotWithin headers_len texts_len) (Killed at) slots within) in
    omega (arith, sum_by-cons (below 1024) (Killed at) slots)
none_in_front headers_len texts_len (Live message ∷ slots) within =
    let rest = none_in_front headers_len texts_len slots (All-tail (IsSlotWithin headers_len texts_len) (Live message) slots within) in
    let here = All-head (IsSlotWithin headers_len texts_len) (Live message) slots within in
    let from = here.header.after in
    omega (arith, sum_by-cons (below 1024) (Live message) slots)

-- so below each place there are no more than the places
few_below : (headers_len texts_len n : ℕ) (slots : List LoadedSlot) → All (IsSlotWithin headers_len texts_len) slots → AllPairs AreApart slots → sum_by (below (1024 + n)) slots ≤ n
few_below headers_len texts_len zero slots within apart =
    let same : 1024 + 0 ≡ 1024 = refl in
    omega (arith, none_in_front headers_len texts_len slots within)
few_below headers_len texts_len (suc n) slots within apart =
    let before = few_below headers_len texts_len n slots within apart in
    let next : 1024 + suc n ≡ 1024 + n + 1 = omega arith in
    omega (arith, ap (λ i. sum_by (below i) slots) next, one_of_all (1024 + n) slots apart)

-- all bytes of a slot lie below the ceiling
all_below : (headers_len texts_len : ℕ) (slots : List LoadedSlot) → All (IsSlotWithin headers_len texts_len) slots → sum_by (below HEADERS_CEILING) slots ≡ headers_size slots
all_below headers_len texts_len [] within = refl
all_below headers_len texts_len (Empty ∷ slots) within =
    let rest = all_below headers_len texts_len slots (All-tail (IsSlotWithin headers_len texts_len) Empty slots within) in
    omega (arith, sum_by-cons (below HEADERS_CEILING) Empty slots, sum_by-cons slot_header_size Empty slots)
all_below headers_len texts_len (Killed at ∷ slots) within =
    let rest = all_below headers_len texts_len slots (All-tail (IsSlotWithin headers_len texts_len) (Killed at) slots within) in
    omega (arith, sum_by-cons (below HEADERS_CEILING) (Killed at) slots, sum_by-cons slot_header_size (Killed at) slots)
all_below headers_len texts_len (Live message ∷ slots) within =
    let rest = all_below headers_len texts_len slots (All-tail (IsSlotWithin headers_len texts_len) (Live message) slots within) in
    let here = All-head (IsSlotWithin headers_len texts_len) (Live message) slots within in
    let under = here.header.below in
    omega (arith, sum_by-cons (below HEADERS_CEILING) (Live message) slots, sum_by-cons slot_header_size (Live message) slots)

-- the headers of a sound area fit behind the fixed header below the ceiling of .JHR
pub headers_fit : (limit : ℕ) (loaded : Loaded) → IsSound limit loaded → 1024 + headers_size loaded.slots ≤ HEADERS_CEILING
headers_fit limit loaded sound =
    let few = few_below loaded.headers_len loaded.texts_len 536869888 loaded.slots sound.within sound.apart in
    omega (arith, few, all_below loaded.headers_len loaded.texts_len loaded.slots sound.within)

-- and so do those that a pack keeps
pub headers_fit_kept : (limit : ℕ) (loaded : Loaded) → IsSound limit loaded → 1024 + headers_size (kept_slots loaded) ≤ HEADERS_CEILING
headers_fit_kept limit loaded sound = omega (arith, headers_fit limit loaded sound, sum_of_kept slot_header_size refl (λ at. refl) loaded)

-- a header takes 76 bytes at least
pub headers_long : (slots : List LoadedSlot) → 76 * live_slots slots ≤ headers_size slots
headers_long [] = omega arith
headers_long (Empty ∷ slots) =
    omega (arith, headers_long slots, sum_by-cons slot_header_size Empty slots, sum_by-cons (λ (slot : LoadedSlot). cond (is_live_slot slot) 1 0) Empty slots)
headers_long (Killed at ∷ slots) =
    omega (arith, headers_long slots, sum_by-cons slot_header_size (Killed at) slots, sum_by-cons (λ (slot : LoadedSlot). cond (is_live_slot slot) 1 0) (Killed at) slots)
headers_long (Live message ∷ slots) =
    omega (arith, headers_long slots, sum_by-cons slot_header_size (Live message) slots, sum_by-cons (λ (slot : LoadedSlot). cond (is_live_slot slot) 1 0) (Live message) slots)
