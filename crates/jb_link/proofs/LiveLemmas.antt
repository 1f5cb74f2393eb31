-- What finding among the live messages of slots gives.
use Rattle.std.proofs.Common.{◌≡◌, ℕ, zero, suc, ◌+◌, ◌-◌, ◌<◌, ◌≤◌, nat_lt, Bool, true, false, ◌&&◌, ◌==◌, cond, ◌⊎◌, inl, inr, slice_get, ltb-true, ltb-false, List, [], ◌∷◌, ◌++◌, Option, Some, None, find, map, length, take, refl, sym, ◌∙◌, ap, arith, add-zero, lt-ltb, le-ltb, ne_eqb, eq-eqb}
use Rattle.std.proofs.lemmas.Bool.{false≢true}
use Rattle.std.proofs.lemmas.Option.{slice_get-map}
use Rattle.std.specs.Option.{is_some, option_map}
use Rattle.jb_state.specs.Links.{Linkable, linkable, number_or_0}
use Rattle.jb_state.specs.Live.{live_from, live_of, message_at}
use Rattle.jb_state.specs.State.{slot_state, state_of}
use Rattle.jb_state.specs.declared.loaded.Loaded.{Loaded}
use Rattle.jb_state.specs.declared.loaded.LoadedMessage.{LoadedMessage}
use Rattle.jb_state.specs.declared.loaded.LoadedSlot.{LoadedSlot}
use Rattle.jb_state.specs.declared.loaded.LoadedSlot.TheVariants.{Empty, Killed, Live}
use Rattle.jb_state.specs.LiveSlots.{IsLive, linkables_from, loaded_linkable, message_in}

-- no text bears on the links
pub linkables_with_texts : (texts : List ℕ) (number : ℕ) (slots : List LoadedSlot) → map linkable (live_from number (map (slot_state texts) slots)) ≡ linkables_from number slots
linkables_with_texts texts number [] = refl
linkables_with_texts texts number (Empty ∷ slots) = linkables_with_texts texts (number + 1) slots
linkables_with_texts texts number (Killed at ∷ slots) = linkables_with_texts texts (number + 1) slots
linkables_with_texts texts number (Live message ∷ slots) = ap (λ rest. loaded_linkable number message ∷ rest) (linkables_with_texts texts (number + 1) slots)

-- the first slots and then the others
pub linkables_from-append : (number : ℕ) (xs ys : List LoadedSlot) → linkables_from number (xs ++ ys) ≡ linkables_from number xs ++ linkables_from (number + length xs) ys
linkables_from-append number [] ys = ap (λ n. linkables_from n ys) (sym (add-zero number))
linkables_from-append number (Empty ∷ xs) ys =
    let e : number + 1 + length xs ≡ number + suc (length xs) = omega arith in
    linkables_from-append (number + 1) xs ys ∙ ap (λ n. linkables_from (number + 1) xs ++ linkables_from n ys) e
linkables_from-append number (Killed at ∷ xs) ys =
    let e : number + 1 + length xs ≡ number + suc (length xs) = omega arith in
    linkables_from-append (number + 1) xs ys ∙ ap (λ n. linkables_from (number + 1) xs ++ linkables_from n ys) e
linkables_from-append number (Live message ∷ xs) ys =
    let e : number + 1 + length xs ≡ number + suc (length xs) = omega arith in
    ap (λ rest. loaded_linkable number message ∷ rest) (linkables_from-append (number + 1) xs ys ∙ ap (λ n. linkables_from (number + 1) xs ++ linkables_from n ys) e)

-- none of them is below the number of the first
pub none_below : (r : Linkable → Bool) (m number : ℕ) (slots : List LoadedSlot) → m ≤ number
    → find (λ one. nat_lt one.number m && r one) (linkables_from number slots) ≡ None
none_below r m number [] h = refl
none_below r m number (Empty ∷ slots) h = none_below r m (number + 1) slots (omega arith)
none_below r m number (Killed at ∷ slots) h = none_below r m (number + 1) slots (omega arith)
none_below r m number (Live message ∷ slots) h =
    let e : nat_lt number m ≡ false = le-ltb number m h in
    rw e (none_below r m (number + 1) slots (omega arith))

-- to find one below a number is to find one in the slots below it
pub find_below : (r : Linkable → Bool) (k number m : ℕ) (slots : List LoadedSlot) → m ≡ number + k
    → find (λ one. nat_lt one.number m && r one) (linkables_from number slots) ≡ find r (linkables_from number (take k slots))
find_below r zero number m slots e = none_below r m number slots (omega arith)
find_below r (suc k) number m [] e = refl
find_below r (suc k) number m (Empty ∷ slots) e = find_below r k (number + 1) m slots (omega arith)
find_below r (suc k) number m (Killed at ∷ slots) e = find_below r k (number + 1) m slots (omega arith)
find_below r (suc k) number m (Live message ∷ slots) e =
    let t : nat_lt number m ≡ true = lt-ltb number m (omega arith) in
    rw t (ap (λ rest. cond (r (loaded_linkable number message)) (Some (loaded_linkable number message)) rest) (find_below r k (number + 1) m slots (omega arith)))

-- the live message of a slot with this number, where it has one
abbrev pub linkable_in : ℕ → Option LoadedSlot → Option Linkable
linkable_in number None = None
linkable_in number (Some Empty) = None
linkable_in number (Some (Killed at)) = None
linkable_in number (Some (Live message)) = Some (loaded_linkable number message)

-- none has a number below that of the first
pub none_numbered : (m number : ℕ) (slots : List LoadedSlot) → m < number → find (λ one. one.number == m) (linkables_from number slots) ≡ None
none_numbered m number [] h = refl
none_numbered m number (Empty ∷ slots) h = none_numbered m (number + 1) slots (omega arith)
none_numbered m number (Killed at ∷ slots) h = none_numbered m (number + 1) slots (omega arith)
none_numbered m number (Live message ∷ slots) h =
    let e : (number == m) ≡ false = ne_eqb number m (λ same. omega arith) in
    rw e (none_numbered m (number + 1) slots (omega arith))

-- the one with this number stands at its place
pub find_numbered : (k number m : ℕ) (slots : List LoadedSlot) → m ≡ number + k
    → find (λ one. one.number == m) (linkables_from number slots) ≡ linkable_in m (slice_get slots k)
find_numbered k number m [] e = refl
find_numbered zero number m (Empty ∷ slots) e = none_numbered m (number + 1) slots (omega arith)
find_numbered zero number m (Killed at ∷ slots) e = none_numbered m (number + 1) slots (omega arith)
find_numbered zero number m (Live message ∷ slots) e =
    let same : m ≡ number = omega arith in
    let t : (number == m) ≡ true = eq-eqb number m (sym same) in
    rw t (ap (λ n. Some (loaded_linkable n message)) (sym same))
find_numbered (suc k) number m (Empty ∷ slots) e = find_numbered k (number + 1) m slots (omega arith)
find_numbered (suc k) number m (Killed at ∷ slots) e = find_numbered k (number + 1) m slots (omega arith)
find_numbered (suc k) number m (Live message ∷ slots) e =
    let t : (number == m) ≡ false = ne_eqb number m (λ same. omega arith) in
    rw t (find_numbered k (number + 1) m slots (omega arith))

-- a live message at a place has its number
pub live_here : (k number m : ℕ) (slots : List LoadedSlot) → m ≡ number + k → is_some (message_in (slice_get slots k)) ≡ true
    → m ≡ number_or_0 (find (λ one. one.number == m) (linkables_from number slots))
live_here k number m slots e live = here (slice_get slots k) refl live
  where
    here : (slot : Option LoadedSlot) → slice_get slots k ≡ slot → is_some (message_in slot) ≡ true → m ≡ number_or_0 (find (λ one. one.number == m) (linkables_from number slots))
    here None at h = cc
    here (Some Empty) at h = cc
    here (Some (Killed header_at)) at h = cc
    here (Some (Live message)) at h = sym (ap number_or_0 (find_numbered k number m slots e ∙ ap (linkable_in m) at))

-- a place without a live message gives no number
pub not_live_here : (k number m : ℕ) (slots : List LoadedSlot) → m ≡ number + k → is_some (message_in (slice_get slots k)) ≡ false
    → 0 ≡ number_or_0 (find (λ one. one.number == m) (linkables_from number slots))
not_live_here k number m slots e live = not_here (slice_get slots k) refl live
  where
    not_here : (slot : Option LoadedSlot) → slice_get slots k ≡ slot → is_some (message_in slot) ≡ false → 0 ≡ number_or_0 (find (λ one. one.number == m) (linkables_from number slots))
    not_here None at h = sym (ap number_or_0 (find_numbered k number m slots e ∙ ap (linkable_in m) at))
    not_here (Some Empty) at h = sym (ap number_or_0 (find_numbered k number m slots e ∙ ap (linkable_in m) at))
    not_here (Some (Killed header_at)) at h = sym (ap number_or_0 (find_numbered k number m slots e ∙ ap (linkable_in m) at))
    not_here (Some (Live message)) at h = cc

-- a live message stands at a place of these slots and has this number; the first slot has the number `base`
pub record StandsAt (base number : ℕ) (slots : List LoadedSlot) : Type 0 where
  pub place : ℕ
  pub message : LoadedMessage
  pub numbered : number ≡ base + place
  pub at : slice_get slots place ≡ Some (Live message)

-- a place further on, behind one more slot
behind : (base number : ℕ) (slot : LoadedSlot) (slots : List LoadedSlot) → StandsAt (base + 1) number slots → StandsAt base number (slot ∷ slots)
behind base number slot slots h = record { place = suc h.place; message = h.message; numbered = omega arith; at = h.at }

-- what is found stands there, or nothing is
pub found_stands : (f : Linkable → Bool) (base : ℕ) (slots : List LoadedSlot)
    → (number_or_0 (find f (linkables_from base slots)) ≡ 0) ⊎ StandsAt base (number_or_0 (find f (linkables_from base slots))) slots
found_stands f base [] = inl refl
found_stands f base (Empty ∷ slots) = elim (found_stands f (base + 1) slots) [ inl z ↦ inl z | inr h ↦ inr (behind base _ Empty slots h) ]
found_stands f base (Killed at ∷ slots) = elim (found_stands f (base + 1) slots) [ inl z ↦ inl z | inr h ↦ inr (behind base _ (Killed at) slots h) ]
found_stands f base (Live message ∷ slots) =
    live_case (f (loaded_linkable base message)) (find f (linkables_from (base + 1) slots)) (found_stands f (base + 1) slots)
  where
    live_case : (b : Bool) (found : Option Linkable) → (number_or_0 found ≡ 0) ⊎ StandsAt (base + 1) (number_or_0 found) slots
        → (number_or_0 (cond b (Some (loaded_linkable base message)) found) ≡ 0) ⊎ StandsAt base (number_or_0 (cond b (Some (loaded_linkable base message)) found)) (Live message ∷ slots)
    live_case true found h = inr (record { place = 0; message = message; numbered = sym (add-zero base); at = refl })
    live_case false found h = elim h [ inl z ↦ inl z | inr s ↦ inr (behind base (number_or_0 found) (Live message) slots s) ]

-- whether a number names a live message, by its place
pub live_at_place : (texts : List ℕ) (loaded : Loaded) (number : ℕ) → loaded.base ≤ number
    → is_some (message_in (slice_get loaded.slots (number - loaded.base))) ≡ is_some (message_at (state_of texts loaded) number)
live_at_place texts loaded number h =
    let above : nat_lt number loaded.base ≡ false = le-ltb number loaded.base h in
    let mapped : slice_get (map (slot_state texts) loaded.slots) (number - loaded.base) ≡ option_map (slot_state texts) (slice_get loaded.slots (number - loaded.base))
    = slice_get-map (slot_state texts) loaded.slots (number - loaded.base) in
    rw (above, mapped) (same_live (slice_get loaded.slots (number - loaded.base)))
  where
    same_live : (slot : Option LoadedSlot) → is_some (message_in slot) ≡ is_some (live_of (option_map (slot_state texts) slot))
    same_live None = refl
    same_live (Some Empty) = refl
    same_live (Some (Killed header_at)) = refl
    same_live (Some (Live message)) = refl

-- below the base nothing is live
pub not_live_below : (texts : List ℕ) (loaded : Loaded) (number : ℕ) → number < loaded.base → false ≡ is_some (message_at (state_of texts loaded) number)
not_live_below texts loaded number h = let below : nat_lt number loaded.base ≡ true = lt-ltb number loaded.base h in rw below refl

-- what stands at a place is live
pub live_from_stands : (loaded : Loaded) (number : ℕ) → StandsAt loaded.base number loaded.slots → IsLive loaded number
live_from_stands loaded number h =
    let place : number - loaded.base ≡ h.place = omega arith in
    sym (live_at_place [] loaded number (omega arith)) ∙ rw place (ap (λ slot. is_some (message_in slot)) h.at)

-- what is live stands at a place
pub stands_from_live : (loaded : Loaded) (number : ℕ) → IsLive loaded number → StandsAt loaded.base number loaded.slots
stands_from_live loaded number h = by_order (nat_lt number loaded.base) refl
  where
    message_there : (slot : Option LoadedSlot) → slice_get loaded.slots (number - loaded.base) ≡ slot → is_some (message_in slot) ≡ true → loaded.base ≤ number → StandsAt loaded.base number loaded.slots
    message_there None at h from = absurd (false≢true h)
    message_there (Some Empty) at h from = absurd (false≢true h)
    message_there (Some (Killed header_at)) at h from = absurd (false≢true h)
    message_there (Some (Live message)) at h from = record { place = number - loaded.base; message = message; numbered = omega arith; at = at }

    by_order : (b : Bool) → nat_lt number loaded.base ≡ b → StandsAt loaded.base number loaded.slots
    by_order true t = absurd (false≢true (not_live_below [] loaded number (ltb-true number loaded.base t) ∙ h))
    by_order false t =
        let from : loaded.base ≤ number = ltb-false number loaded.base t in
        message_there (slice_get loaded.slots (number - loaded.base)) refl (live_at_place [] loaded number from ∙ h) from
