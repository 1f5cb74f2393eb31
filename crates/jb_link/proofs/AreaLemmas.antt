-- Which live messages a loaded area has, and which after a change.
use Rattle.std.proofs.Common.{◌≡◌, ◌≢◌, ◌<◌, ◌≤◌, ◌+◌, ◌-◌, inl, inr, ℕ, zero, suc, cond, List, [], ◌∷◌, ◌++◌, length, refl, sym, ◌∙◌, ap, arith}
use Rattle.std.specs.Prelude.{Contains, Option, Some, None, IsSome, slice_get, slice_set}
use Rattle.std.proofs.lemmas.Bool.{cases_lt, le-ltb, lt-ltb}
use Rattle.std.proofs.lemmas.Option.{slice_get_within}
use Rattle.jb_state.specs.Plan.{loaded_at}
use Rattle.jb_state.specs.LiveSlots.{linkables, linkables_from, loaded_linkable, message_in}
use Rattle.jb_state.specs.Links.{Linkable}
use Rattle.jb_state.specs.Loaded.{with_slot_at}
use Rattle.jb_state.specs.declared.loaded.Loaded.{Loaded}
use Rattle.jb_state.specs.declared.loaded.LoadedMessage.{LoadedMessage}
use Rattle.jb_state.specs.declared.loaded.LoadedSlot.{LoadedSlot}
use Rattle.jb_state.specs.declared.loaded.LoadedSlot.TheVariants.{Empty, Killed, Live}
use Rattle.jb_link.proofs.MemberLemmas.{cons_cases, cons_first, cons_rest}
use Rattle.jb_link.specs.IndexLaws.{HasOneMore}

-- a live message in a slot is what stands there
slot_of : (slot : Option LoadedSlot) (message : LoadedMessage) → message_in slot ≡ Some message → slot ≡ Some (Live message)
slot_of None message h = cc
slot_of (Some Empty) message h = cc
slot_of (Some (Killed at)) message h = cc
slot_of (Some (Live one)) message h = let same : one ≡ message = cc in ap (λ m. Some (Live m)) same

-- what a number at or above the base names, by its place
pub by_place : (loaded : Loaded) (number : ℕ) → loaded.base ≤ number → loaded_at loaded number ≡ message_in (slice_get loaded.slots (number - loaded.base))
by_place loaded number h =
    ap (λ b. cond b None (message_in (slice_get loaded.slots (number - loaded.base)))) (le-ltb number loaded.base h)

-- one below it names nothing
pub below_base : (loaded : Loaded) (number : ℕ) → number < loaded.base → loaded_at loaded number ≡ None
below_base loaded number h = ap (λ b. cond b None (message_in (slice_get loaded.slots (number - loaded.base)))) (lt-ltb number loaded.base h)

-- a number that names a message stands in the area
pub record IsIn (loaded : Loaded) (number : ℕ) (message : LoadedMessage) : Type 0 where
  pub low : loaded.base ≤ number
  pub high : number < loaded.base + length loaded.slots
  pub at : slice_get loaded.slots (number - loaded.base) ≡ Some (Live message)

pub named_is_in : (loaded : Loaded) (number : ℕ) (message : LoadedMessage) → loaded_at loaded number ≡ Some message → IsIn loaded number message
named_is_in loaded number message h =
    elim (cases_lt number loaded.base) [
      | inl below ↦ absurd (let none = below_base loaded number below in cc)
      | inr from ↦
          (let at : slice_get loaded.slots (number - loaded.base) ≡ Some (Live message) = slot_of _ message (sym (by_place loaded number from) ∙ h) in
          let within : number - loaded.base < length loaded.slots = slice_get_within loaded.slots (number - loaded.base) (Live message) at in
          record { low = from; high = omega arith; at = at })
    ]

-- where something is named, it is some message
pub some_named : (found : Option LoadedMessage) → IsSome found → (message : LoadedMessage) × (found ≡ Some message)
some_named None h = cc
some_named (Some message) h = (message, refl)

-- a live message is among those on which the links rest
placed_listed : (k base number : ℕ) (slots : List LoadedSlot) (message : LoadedMessage) → number ≡ base + k → slice_get slots k ≡ Some (Live message)
    → Contains (linkables_from base slots) (loaded_linkable number message)
placed_listed k base number [] message e at = cc
placed_listed zero base number (Empty ∷ slots) message e at = cc
placed_listed zero base number (Killed header_at ∷ slots) message e at = cc
placed_listed zero base number (Live one ∷ slots) message e at =
    let same : one ≡ message = cc in
    let first : base ≡ number = omega arith in
    cons_first (loaded_linkable base one) (linkables_from (base + 1) slots) (loaded_linkable number message)
    (ap (λ m. loaded_linkable base m) same ∙ ap (λ n. loaded_linkable n message) first)
placed_listed (suc k) base number (Empty ∷ slots) message e at = placed_listed k (base + 1) number slots message (omega arith) at
placed_listed (suc k) base number (Killed header_at ∷ slots) message e at = placed_listed k (base + 1) number slots message (omega arith) at
placed_listed (suc k) base number (Live one ∷ slots) message e at =
    cons_rest (loaded_linkable base one) (linkables_from (base + 1) slots) (loaded_linkable number message) (placed_listed k (base + 1) number slots message (omega arith) at)

pub named_listed : (loaded : Loaded) (number : ℕ) (message : LoadedMessage) → loaded_at loaded number ≡ Some message
    → Contains (linkables [] loaded) (loaded_linkable number message)
named_listed loaded number message h =
    let here = named_is_in loaded number message h in
    placed_listed (number - loaded.base) loaded.base number loaded.slots message (omega (arith, here.low)) here.at

-- and each of those is a live message
pub record IsOf (base : ℕ) (slots : List LoadedSlot) (one : Linkable) : Type 0 where
  pub place : ℕ
  pub message : LoadedMessage
  pub at : slice_get slots place ≡ Some (Live message)
  pub is : one ≡ loaded_linkable (base + place) message

-- behind one more slot it is one too
pub behind : (base : ℕ) (slot : LoadedSlot) (slots : List LoadedSlot) (one : Linkable) → IsOf (base + 1) slots one → IsOf base (slot ∷ slots) one
behind base slot slots one h = record {
  place = suc h.place;
  message = h.message;
  at = h.at;
  is = h.is ∙ ap (λ n. loaded_linkable n h.message) (let same : base + 1 + h.place ≡ base + suc h.place = omega arith in same);
}

listed_placed : (base : ℕ) (slots : List LoadedSlot) (one : Linkable) → Contains (linkables_from base slots) one → IsOf base slots one
listed_placed base [] one h = absurd (omega (arith, h.1))
listed_placed base (Empty ∷ slots) one h = behind base Empty slots one (listed_placed (base + 1) slots one h)
listed_placed base (Killed header_at ∷ slots) one h = behind base (Killed header_at) slots one (listed_placed (base + 1) slots one h)
listed_placed base (Live message ∷ slots) one h =
    elim (cons_cases (loaded_linkable base message) (linkables_from (base + 1) slots) one h) [
      | inl first ↦
          record {
            place = 0;
            message = message;
            at = refl;
            is = sym first ∙ ap (λ n. loaded_linkable n message) (let same : base ≡ base + 0 = omega arith in same);
          }
      | inr rest ↦ behind base (Live message) slots one (listed_placed (base + 1) slots one rest)
    ]

pub record IsNamed (loaded : Loaded) (one : Linkable) : Type 0 where
  pub message : LoadedMessage
  pub live : loaded_at loaded one.number ≡ Some message
  pub is : one ≡ loaded_linkable one.number message

pub listed_named : (loaded : Loaded) (one : Linkable) → Contains (linkables [] loaded) one → IsNamed loaded one
listed_named loaded one h =
    let there = listed_placed loaded.base loaded.slots one h in
    let number : one.number ≡ loaded.base + there.place = ap (λ (x : Linkable). x.number) there.is in
    let place : one.number - loaded.base ≡ there.place = omega arith in
    record {
      message = there.message;
      live = by_place loaded one.number (omega arith) ∙ ap (λ k. message_in (slice_get loaded.slots k)) place ∙ ap message_in there.at;
      is = there.is ∙ ap (λ n. loaded_linkable n there.message) (sym number);
    }

-- with one slot more, a place that is not its own has what it had
get_before_last : (xs : List LoadedSlot) (y : LoadedSlot) (k : ℕ) → k ≢ length xs → slice_get (xs ++ y ∷ []) k ≡ slice_get xs k
get_before_last [] y zero h = absurd (h refl)
get_before_last [] y (suc k) h = refl
get_before_last (x ∷ xs) y zero h = refl
get_before_last (x ∷ xs) y (suc k) h = get_before_last xs y k (λ e. h (ap suc e))

-- and so each number but the new one names what it named
pub named_before : (before after : Loaded) (number : ℕ) → HasOneMore before after → number ≢ before.base + length before.slots
    → loaded_at after number ≡ loaded_at before number
named_before before after number more other =
    elim (cases_lt number before.base) [
      | inl below ↦ below_base after number (omega (arith, more.base)) ∙ sym (below_base before number below)
      | inr from ↦
          (let base = more.base in
          let place : number - after.base ≡ number - before.base = omega arith in
          by_place after number (omega arith) ∙ ap (λ k. message_in (slice_get after.slots k)) place
          ∙ ap (λ xs. message_in (slice_get xs (number - before.base))) more.slots
          ∙ ap message_in (get_before_last before.slots more.slot (number - before.base) (λ e. other (omega arith)))
          ∙ sym (by_place before number from))
    ]

-- another slot at one place leaves the others
get_beside : (xs : List LoadedSlot) (j : ℕ) (y : LoadedSlot) (k : ℕ) → k ≢ j → slice_get (slice_set xs j y) k ≡ slice_get xs k
get_beside [] j y k h = refl
get_beside (x ∷ xs) zero y zero h = absurd (h refl)
get_beside (x ∷ xs) zero y (suc k) h = refl
get_beside (x ∷ xs) (suc j) y zero h = refl
get_beside (x ∷ xs) (suc j) y (suc k) h = get_beside xs j y k (λ e. h (ap suc e))

-- and so each other number names what it named
pub named_beside : (loaded : Loaded) (one : ℕ) (slot : LoadedSlot) (number : ℕ) → loaded.base ≤ one → number ≢ one
    → loaded_at (with_slot_at (one - loaded.base) slot loaded) number ≡ loaded_at loaded number
named_beside loaded one slot number from other =
    elim (cases_lt number loaded.base) [
      | inl below ↦ below_base (with_slot_at (one - loaded.base) slot loaded) number below ∙ sym (below_base loaded number below)
      | inr reached ↦
          by_place (with_slot_at (one - loaded.base) slot loaded) number reached
          ∙ ap message_in (get_beside loaded.slots (one - loaded.base) slot (number - loaded.base) (λ e. other (omega arith)))
          ∙ sym (by_place loaded number reached)
    ]

-- where a message is killed none is live
get_killed : (xs : List LoadedSlot) (j header_at : ℕ) → message_in (slice_get (slice_set xs j (Killed header_at)) j) ≡ None
get_killed [] j header_at = refl
get_killed (x ∷ xs) zero header_at = refl
get_killed (x ∷ xs) (suc j) header_at = get_killed xs j header_at

pub killed_names_none : (loaded : Loaded) (number header_at : ℕ) → loaded.base ≤ number
    → loaded_at (with_slot_at (number - loaded.base) (Killed header_at) loaded) number ≡ None
killed_names_none loaded number header_at from =
    by_place (with_slot_at (number - loaded.base) (Killed header_at) loaded) number from ∙ get_killed loaded.slots (number - loaded.base) header_at

-- a message that is put at a place stands there
pub get_put : (xs : List LoadedSlot) (j : ℕ) (y : LoadedSlot) → j < length xs → slice_get (slice_set xs j y) j ≡ Some y
get_put [] j y h = absurd (omega arith)
get_put (x ∷ xs) zero y h = refl
get_put (x ∷ xs) (suc j) y h = get_put xs j y (omega arith)
