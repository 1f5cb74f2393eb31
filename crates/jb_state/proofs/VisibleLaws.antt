-- The message that a number names, where a user sees it, is the one that the user sees under that number.
use Rattle.std.proofs.Common.{◌≡◌, ℕ, zero, suc, ◌+◌, ◌-◌, ◌<◌, inl, inr, Bool, true, false, cond, ◌==◌, List, [], ◌∷◌, length, get_or, Option, Some, None, find, refl, sym, ◌∙◌, ap, subst, arith}
use Rattle.std.specs.Prelude.{filter, option_map, slice_get, nat_lt, Contains, IsSome, is_some, ◌↔◌, if◌then◌else◌}
use Rattle.std.proofs.lemmas.Bool.{cases_order, cond_both, cond-false, cond-true, eq-eqb, eqb-false, eqb-true, le-ltb, lt-ltb, ne_eqb}
use Rattle.jb_base.specs.declared.area.AreaRules.{AreaRules}
use Rattle.jb_base.specs.declared.user.User.{User}
use Rattle.jb_state.specs.Live.{Numbered, live_from, live_in, live_of, message_at, numbers_of}
use Rattle.jb_state.specs.State.{AreaState, LiveMessage, SlotState, no_message, killed_message, live_message}
use Rattle.jb_state.specs.Visible.{IsVisible, if_shown, is_shown, shown_to, unlinked, visible_at, visible_to}
use Rattle.jb_state.proofs.LinkLaws.{contains_rest, true_not_false}
use Rattle.jb_state.proofs.RelinkLaws.{map-map}

-- the message of the first of these with this number
abbrev pub message_of : ℕ → List Numbered → Option LiveMessage
message_of wanted messages = option_map (λ (one : Numbered). one.message) (find (λ (one : Numbered). one.number == wanted) messages)

-- the live message at the place of a number in slots of which the first has this number
abbrev pub live_at : ℕ → List SlotState → ℕ → Option LiveMessage
live_at number slots wanted = if nat_lt wanted number then None else live_of (slice_get slots (wanted - number))

-- below the first number there is none
live_at-below : (number : ℕ) (slots : List SlotState) (wanted : ℕ) → wanted < number → live_at number slots wanted ≡ None
live_at-below number slots wanted below =
    cond-true (nat_lt wanted number) None (live_of (slice_get slots (wanted - number))) (lt-ltb wanted number below)

-- behind the first number it is that of the rest
live_at-rest : (number : ℕ) (slot : SlotState) (slots : List SlotState) (wanted : ℕ) → number < wanted → live_at number (slot ∷ slots) wanted ≡ live_at (number + 1) slots wanted
live_at-rest number slot slots wanted behind =
    let place : wanted - number ≡ suc (wanted - (number + 1)) = omega arith in
    cond-false (nat_lt wanted number) None (live_of (slice_get (slot ∷ slots) (wanted - number))) (le-ltb wanted number (omega arith))
    ∙ ap (λ k. live_of (slice_get (slot ∷ slots) k)) place
    ∙ sym (cond-false (nat_lt wanted (number + 1)) None (live_of (slice_get slots (wanted - (number + 1)))) (le-ltb wanted (number + 1) (omega arith)))

-- at the first number it is the first slot's
live_at-first : (number : ℕ) (slot : SlotState) (slots : List SlotState) (wanted : ℕ) → wanted ≡ number → live_at number (slot ∷ slots) wanted ≡ live_of (Some slot)
live_at-first number slot slots wanted same =
    let place : wanted - number ≡ 0 = omega arith in
    cond-false (nat_lt wanted number) None (live_of (slice_get (slot ∷ slots) (wanted - number))) (le-ltb wanted number (omega arith))
    ∙ ap (λ k. live_of (slice_get (slot ∷ slots) k)) place

-- a slot that is not live is passed over
passed_over : (number : ℕ) (slot : SlotState) (slots : List SlotState) (wanted : ℕ) → live_of (Some slot) ≡ None → live_at number (slot ∷ slots) wanted ≡ live_at (number + 1) slots wanted
passed_over number slot slots wanted dead =
    elim (cases_order wanted number) [
      | inl same ↦ live_at-first number slot slots wanted same ∙ dead ∙ sym (live_at-below (number + 1) slots wanted (omega arith))
      | inr (inl below) ↦ live_at-below number (slot ∷ slots) wanted below ∙ sym (live_at-below (number + 1) slots wanted (omega arith))
      | inr (inr behind) ↦ live_at-rest number slot slots wanted behind
    ]

-- the first live message of slots
abbrev pub first : ℕ → LiveMessage → Numbered
first number message = record { number = number; message = message }

-- what is found in the rest
abbrev pub later : ℕ → List SlotState → ℕ → Option Numbered
later number slots wanted = find (λ (one : Numbered). one.number == wanted) (live_from (number + 1) slots)

-- the message at the place of a number is that of the live one with that number
pub live_at-number : (number : ℕ) (slots : List SlotState) (wanted : ℕ) → live_at number slots wanted ≡ message_of wanted (live_from number slots)
live_at-number number [] wanted = cond_both (nat_lt wanted number) None None (λ (found : Option LiveMessage). found ≡ None) (λ below. refl) (λ within. refl)
live_at-number number (no_message ∷ slots) wanted = passed_over number no_message slots wanted refl ∙ live_at-number (number + 1) slots wanted
live_at-number number (killed_message ∷ slots) wanted = passed_over number killed_message slots wanted refl ∙ live_at-number (number + 1) slots wanted
live_at-number number (live_message message ∷ slots) wanted =
    elim (cases_order wanted number) [
      | inl same ↦
          live_at-first number (live_message message) slots wanted same
          ∙ sym (ap (option_map (λ (one : Numbered). one.message)) (cond-true (number == wanted) (Some (first number message)) (later number slots wanted) (eq-eqb number wanted (sym same))))
      | inr (inl below) ↦
          live_at-below number (live_message message ∷ slots) wanted below
          ∙ sym (live_at-below (number + 1) slots wanted (omega arith))
          ∙ live_at-number (number + 1) slots wanted
          ∙ sym (ap (option_map (λ (one : Numbered). one.message)) (cond-false (number == wanted) (Some (first number message)) (later number slots wanted) (ne_eqb number wanted (λ e. omega arith))))
      | inr (inr behind) ↦
          live_at-rest number (live_message message) slots wanted behind
          ∙ live_at-number (number + 1) slots wanted
          ∙ sym (ap (option_map (λ (one : Numbered). one.message)) (cond-false (number == wanted) (Some (first number message)) (later number slots wanted) (ne_eqb number wanted (λ e. omega arith))))
    ]

-- the message that a number names is the live one with that number
pub message_at-number : (state : AreaState) (number : ℕ) → message_at state number ≡ message_of number (live_in state)
message_at-number state number = live_at-number state.base state.slots number

-- the test of a message that a user may see
abbrev pub shows : AreaRules → User → Numbered → Bool
shows rules user one = is_shown rules user one.message

-- below the first number nothing is shown
none_shown : (rules : AreaRules) (user : User) (number : ℕ) (slots : List SlotState) (wanted : ℕ) → wanted < number → message_of wanted (filter (shows rules user) (live_from number slots)) ≡ None
none_shown rules user number [] wanted below = refl
none_shown rules user number (no_message ∷ slots) wanted below = none_shown rules user (number + 1) slots wanted (omega arith)
none_shown rules user number (killed_message ∷ slots) wanted below = none_shown rules user (number + 1) slots wanted (omega arith)
none_shown rules user number (live_message message ∷ slots) wanted below =
    cond_both (is_shown rules user message) (first number message ∷ filter (shows rules user) (live_from (number + 1) slots)) (filter (shows rules user) (live_from (number + 1) slots))
    (λ kept. message_of wanted kept ≡ None)
    (λ shown.
    ap (option_map (λ (one : Numbered). one.message))
    (cond-false (number == wanted) (Some (first number message)) (find (λ (one : Numbered). one.number == wanted) (filter (shows rules user) (live_from (number + 1) slots))) (ne_eqb number wanted (λ e. omega arith)))
    ∙ none_shown rules user (number + 1) slots wanted (omega arith))
    (λ hidden. none_shown rules user (number + 1) slots wanted (omega arith))

-- at the number of a live message it is that one, where it is shown
shown_first : (rules : AreaRules) (user : User) (number : ℕ) (message : LiveMessage) (slots : List SlotState) (wanted : ℕ) → number ≡ wanted → if_shown rules user (Some message) ≡ message_of wanted (filter (shows rules user) (live_from number (live_message message ∷ slots)))
shown_first rules user number message slots wanted same =
    cond_both (is_shown rules user message) (first number message ∷ filter (shows rules user) (live_from (number + 1) slots)) (filter (shows rules user) (live_from (number + 1) slots))
    (λ kept. if_shown rules user (Some message) ≡ message_of wanted kept)
    (λ shown.
    cond-true (is_shown rules user message) (Some message) None shown
    ∙ sym (ap (option_map (λ (one : Numbered). one.message))
    (cond-true (number == wanted) (Some (first number message)) (find (λ (one : Numbered). one.number == wanted) (filter (shows rules user) (live_from (number + 1) slots))) (eq-eqb number wanted same))))
    (λ hidden.
    cond-false (is_shown rules user message) (Some message) None hidden
    ∙ sym (none_shown rules user (number + 1) slots wanted (omega arith)))

-- at another number it is that of the rest
shown_rest : (rules : AreaRules) (user : User) (number : ℕ) (message : LiveMessage) (slots : List SlotState) (wanted : ℕ) → (number ≡ wanted → ⊥) → message_of wanted (filter (shows rules user) (live_from number (live_message message ∷ slots))) ≡ message_of wanted (filter (shows rules user) (live_from (number + 1) slots))
shown_rest rules user number message slots wanted other =
    cond_both (is_shown rules user message) (first number message ∷ filter (shows rules user) (live_from (number + 1) slots)) (filter (shows rules user) (live_from (number + 1) slots))
    (λ kept. message_of wanted kept ≡ message_of wanted (filter (shows rules user) (live_from (number + 1) slots)))
    (λ shown.
    ap (option_map (λ (one : Numbered). one.message))
    (cond-false (number == wanted) (Some (first number message)) (find (λ (one : Numbered). one.number == wanted) (filter (shows rules user) (live_from (number + 1) slots))) (ne_eqb number wanted other)))
    (λ hidden. refl)

-- the live message of a number, where it is shown, is the shown one of that number
pub shown_of-number : (rules : AreaRules) (user : User) (number : ℕ) (slots : List SlotState) (wanted : ℕ) → if_shown rules user (message_of wanted (live_from number slots)) ≡ message_of wanted (filter (shows rules user) (live_from number slots))
shown_of-number rules user number [] wanted = refl
shown_of-number rules user number (no_message ∷ slots) wanted = shown_of-number rules user (number + 1) slots wanted
shown_of-number rules user number (killed_message ∷ slots) wanted = shown_of-number rules user (number + 1) slots wanted
shown_of-number rules user number (live_message message ∷ slots) wanted =
    cond_both (number == wanted) (Some (first number message)) (later number slots wanted)
    (λ found. if_shown rules user (option_map (λ (one : Numbered). one.message) found) ≡ message_of wanted (filter (shows rules user) (live_from number (live_message message ∷ slots))))
    (λ same. shown_first rules user number message slots wanted (eqb-true number wanted same))
    (λ other. shown_of-number rules user (number + 1) slots wanted ∙ sym (shown_rest rules user number message slots wanted (eqb-false number wanted other)))

-- the message that a number names, where the user sees it, is the one that the user sees under that number
pub visible_at-shown : (rules : AreaRules) (user : User) (state : AreaState) (number : ℕ) → visible_at rules user state number ≡ message_of number (shown_to rules user state)
visible_at-shown rules user state number =
    ap (if_shown rules user) (message_at-number state number) ∙ shown_of-number rules user state.base state.slots number

-- a number is among those of these messages where one with that number is found
found_among : (wanted : ℕ) (messages : List Numbered) → IsSome (message_of wanted messages) → Contains (numbers_of messages) wanted
found_among wanted [] found = absurd (true_not_false (sym found))
found_among wanted (one ∷ rest) found = among_by (one.number == wanted) refl found (λ later. found_among wanted rest later)
  where
    -- it is the first, or among the rest
    among_by : (b : Bool) → (one.number == wanted) ≡ b → IsSome (option_map (λ (x : Numbered). x.message) (cond b (Some one) (find (λ (x : Numbered). x.number == wanted) rest))) → (IsSome (message_of wanted rest) → Contains (numbers_of rest) wanted) → Contains (numbers_of (one ∷ rest)) wanted
    among_by true same found deeper = (0, omega arith, eqb-true one.number wanted same)
    among_by false other found deeper = contains_rest one.number wanted (numbers_of rest) (deeper found)

-- where a number is among those of these messages, one with that number is found
among_found : (wanted : ℕ) (messages : List Numbered) (k : ℕ) → k < length (numbers_of messages) → get_or (numbers_of messages) k wanted ≡ wanted → IsSome (message_of wanted messages)
among_found wanted [] k within is = absurd (omega arith)
among_found wanted (one ∷ rest) zero within is =
    ap (λ (b : Bool). is_some (option_map (λ (x : Numbered). x.message) (cond b (Some one) (find (λ (x : Numbered). x.number == wanted) rest)))) (eq-eqb one.number wanted is)
among_found wanted (one ∷ rest) (suc k) within is =
    cond_both (one.number == wanted) (Some one) (find (λ (x : Numbered). x.number == wanted) rest)
    (λ found. IsSome (option_map (λ (x : Numbered). x.message) found)) (λ same. refl) (λ other. among_found wanted rest k (omega arith) is)

-- a number names a message that the user sees exactly where there is one for the user at it
pub visible_exactly : (rules : AreaRules) (user : User) (state : AreaState) (number : ℕ) → IsVisible rules user state number ↔ IsSome (visible_at rules user state number)
visible_exactly rules user state number = (there, back)
  where
    -- the numbers of what the user sees
    same_numbers : numbers_of (visible_to rules user state) ≡ numbers_of (shown_to rules user state)
    same_numbers = map-map unlinked (λ (one : Numbered). one.number) (shown_to rules user state)

    -- what the user sees is there
    there : IsVisible rules user state number → IsSome (visible_at rules user state number)
    there (k, within, is) =
        let P : List ℕ → Type 0 = λ numbers. k < length numbers in
        let Q : List ℕ → Type 0 = λ numbers. get_or numbers k number ≡ number in
        let R : Option LiveMessage → Type 0 = λ found. IsSome found in
        subst R (sym (visible_at-shown rules user state number))
        (among_found number (shown_to rules user state) k (subst P same_numbers within) (subst Q same_numbers is))

    -- what is there the user sees
    back : IsSome (visible_at rules user state number) → IsVisible rules user state number
    back found =
        let R : Option LiveMessage → Type 0 = λ o. IsSome o in
        let S : List ℕ → Type 0 = λ numbers. Contains numbers number in
        subst S (sym same_numbers) (found_among number (shown_to rules user state) (subst R (visible_at-shown rules user state number) found))
