-- A pack keeps the next number, all numbers, what each user sees and what each has not read; it links the area.
use Rattle.std.proofs.Common.{◌≡◌, ℕ, zero, suc, ◌+◌, ◌-◌, ◌≤◌, Bool, false, List, [], ◌∷◌, length, map, drop, All, refl, sym, ◌∙◌, ap, subst, arith, length-drop}
use Rattle.std.specs.Prelude.{filter, nat_lt}
use Rattle.std.proofs.lemmas.Bool.{cond_both, cond-false, cond-true}
use Rattle.std.proofs.lemmas.List.{length-map}
use Rattle.jb_base.specs.declared.area.AreaRules.{AreaRules}
use Rattle.jb_base.specs.declared.user.User.{User}
use Rattle.jb_state.specs.Links.{HasItsLinks, IsLinked, linkable, linkables_of}
use Rattle.jb_state.specs.Live.{Numbered, change_live_from, is_killed, killed_count, live_from, live_in}
use Rattle.jb_state.specs.PackedState.{emptied, first_number_or, packed_base, packed_slots, packed_state}
use Rattle.jb_state.specs.Relinked.{relinked_slots}
use Rattle.jb_state.specs.State.{AreaState, LiveMessage, SlotState, next_number, no_message, killed_message, live_message}
use Rattle.jb_state.specs.Visible.{is_shown, last_read_by, shown_to, unlinked, unread_by, visible_to}
use Rattle.jb_state.proofs.RelinkLaws.{all_linked, all_map, live_in-relinked, map-map, none_counted, relinked_one}

-- emptied slots have the same live messages
pub live_from-emptied : (number : ℕ) (slots : List SlotState) → live_from number (map emptied slots) ≡ live_from number slots
live_from-emptied number [] = refl
live_from-emptied number (no_message ∷ slots) = live_from-emptied (number + 1) slots
live_from-emptied number (killed_message ∷ slots) = live_from-emptied (number + 1) slots
live_from-emptied number (live_message message ∷ slots) = ap (λ (rest : List Numbered). record { number = number; message = message } ∷ rest) (live_from-emptied (number + 1) slots)

-- the first live number of slots, or the number behind them
abbrev pub first_live : ℕ → List SlotState → ℕ
first_live number slots = first_number_or (number + length slots) (live_from number slots)

-- behind a slot that is not live, the first live number is that of the rest
first_live-rest : (number : ℕ) (slots : List SlotState) → first_number_or (number + suc (length slots)) (live_from (number + 1) slots) ≡ first_live (number + 1) slots
first_live-rest number slots =
    let behind : number + suc (length slots) ≡ number + 1 + length slots = omega arith in
    ap (λ n. first_number_or n (live_from (number + 1) slots)) behind

-- what lies among those of the rest lies among those of all
within_rest : (number : ℕ) (slots : List SlotState) → (number + 1 ≤ first_live (number + 1) slots) × (first_live (number + 1) slots ≤ number + 1 + length slots) → (number ≤ first_number_or (number + suc (length slots)) (live_from (number + 1) slots)) × (first_number_or (number + suc (length slots)) (live_from (number + 1) slots) ≤ number + suc (length slots))
within_rest number slots (above, below) = let same : _ = first_live-rest number slots in (omega (arith, same), omega (arith, same))

-- the first live number lies among those of the slots, or right behind
pub first_live-within : (number : ℕ) (slots : List SlotState) → (number ≤ first_live number slots) × (first_live number slots ≤ number + length slots)
first_live-within number [] = (omega arith, omega arith)
first_live-within number (no_message ∷ slots) = within_rest number slots (first_live-within (number + 1) slots)
first_live-within number (killed_message ∷ slots) = within_rest number slots (first_live-within (number + 1) slots)
first_live-within number (live_message message ∷ slots) = (omega arith, omega arith)

-- without slots there is no live message
live_from-nothing : (number n : ℕ) → live_from number (drop n []) ≡ []
live_from-nothing number zero = refl
live_from-nothing number (suc n) = refl

-- behind a slot that is not live, from the first live number of the rest on
from_rest : (number : ℕ) (slot : SlotState) (slots : List SlotState) → live_from (first_live (number + 1) slots) (drop (first_live (number + 1) slots - (number + 1)) slots) ≡ live_from (number + 1) slots → live_from (first_number_or (number + suc (length slots)) (live_from (number + 1) slots)) (drop (first_number_or (number + suc (length slots)) (live_from (number + 1) slots) - number) (slot ∷ slots)) ≡ live_from (number + 1) slots
from_rest number slot slots later =
    let above : number + 1 ≤ first_live (number + 1) slots = (first_live-within (number + 1) slots).0 in
    let one : first_live (number + 1) slots - number ≡ suc (first_live (number + 1) slots - (number + 1)) = omega arith in
    ap (λ n. live_from n (drop (n - number) (slot ∷ slots))) (first_live-rest number slots)
    ∙ ap (λ n. live_from (first_live (number + 1) slots) (drop n (slot ∷ slots))) one
    ∙ later

-- from the first live number on there are all live messages of the slots
pub live_from-first : (number : ℕ) (slots : List SlotState) → live_from (first_live number slots) (drop (first_live number slots - number) slots) ≡ live_from number slots
live_from-first number [] = live_from-nothing (number + 0) (number + 0 - number)
live_from-first number (no_message ∷ slots) = from_rest number no_message slots (live_from-first (number + 1) slots)
live_from-first number (killed_message ∷ slots) = from_rest number killed_message slots (live_from-first (number + 1) slots)
live_from-first number (live_message message ∷ slots) =
    let none : number - number ≡ 0 = omega arith in
    ap (λ n. live_from number (drop n (live_message message ∷ slots))) none

-- changed messages take as many slots
pub length-change_live_from : (change : ℕ → LiveMessage → LiveMessage) (number : ℕ) (slots : List SlotState) → length (change_live_from change number slots) ≡ length slots
length-change_live_from change number [] = refl
length-change_live_from change number (no_message ∷ slots) = ap suc (length-change_live_from change (number + 1) slots)
length-change_live_from change number (killed_message ∷ slots) = ap suc (length-change_live_from change (number + 1) slots)
length-change_live_from change number (live_message message ∷ slots) = ap suc (length-change_live_from change (number + 1) slots)

-- a relinked area has as many slots
pub length-relinked : (state : AreaState) → length (relinked_slots state) ≡ length state.slots
length-relinked state = length-change_live_from _ state.base state.slots

-- the first number is the same where messages change and keep theirs
first_number-map : (change : Numbered → Numbered) → ((one : Numbered) → (change one).number ≡ one.number) → (number : ℕ) (messages : List Numbered) → first_number_or number (map change messages) ≡ first_number_or number messages
first_number-map change same number [] = refl
first_number-map change same number (one ∷ rest) = same one

-- the new base is the first live number of the relinked slots
packed_base-relinked : (state : AreaState) → first_live state.base (relinked_slots state) ≡ packed_base state
packed_base-relinked state =
    ap (λ n. first_number_or (state.base + n) (live_from state.base (relinked_slots state))) (length-relinked state)
    ∙ ap (first_number_or (next_number state)) (live_in-relinked state)
    ∙ first_number-map (relinked_one (linkables_of state)) (λ one. refl) (next_number state) (live_in state)

-- the new base lies from the old one to the next number
pub packed_base-within : (state : AreaState) → (state.base ≤ packed_base state) × (packed_base state ≤ next_number state)
packed_base-within state = first_live-within state.base state.slots

-- the live messages of a packed area are those of the area, relinked, under their numbers
pub live_in-packed : (state : AreaState) → live_in (packed_state state) ≡ map (relinked_one (linkables_of state)) (live_in state)
live_in-packed state =
    live_from-emptied (packed_base state) (drop (packed_base state - state.base) (relinked_slots state))
    ∙ ap (λ n. live_from n (drop (n - state.base) (relinked_slots state))) (sym (packed_base-relinked state))
    ∙ live_from-first state.base (relinked_slots state)
    ∙ live_in-relinked state

-- the next number stays
pub packed_next : (state : AreaState) → next_number (packed_state state) ≡ next_number state
packed_next state =
    let within : _ = packed_base-within state in
    omega (
      arith,
      within.0,
      within.1,
      length-map (drop (packed_base state - state.base) (relinked_slots state)) emptied,
      length-drop (packed_base state - state.base) (relinked_slots state),
      length-relinked state,
    )

-- a packed area is linked
pub packed_is_linked : (state : AreaState) → IsLinked (packed_state state)
packed_is_linked state =
    let P : List Numbered → Type 0 = λ messages. All (HasItsLinks (map linkable messages)) messages in
    subst P (sym (live_in-packed state)) (all_linked (linkables_of state) (live_in state) refl)

-- what passes among changed elements, where the test is the same before the change
pub filter-map : {X Y : Type 0} (test : Y → Bool) (other : X → Bool) (change : X → Y) → ((x : X) → test (change x) ≡ other x) → (xs : List X) → filter test (map change xs) ≡ map change (filter other xs)
filter-map test other change same [] = refl
filter-map {X} {Y} test other change same (x ∷ xs) =
    let P : List X → Type 0 = λ kept. filter test (map change (x ∷ xs)) ≡ map change kept in
    cond_both (other x) (x ∷ filter other xs) (filter other xs) P
    (λ passes. cond-true (test (change x)) (change x ∷ filter test (map change xs)) (filter test (map change xs)) (same x ∙ passes)
    ∙ ap (λ l. change x ∷ l) (filter-map test other change same xs))
    (λ fails. cond-false (test (change x)) (change x ∷ filter test (map change xs)) (filter test (map change xs)) (same x ∙ fails)
    ∙ filter-map test other change same xs)

-- each user sees the same messages under the same numbers
pub packed_visible : (rules : AreaRules) (user : User) (state : AreaState) → visible_to rules user (packed_state state) ≡ visible_to rules user state
packed_visible rules user state =
    ap (λ messages. map unlinked (filter (λ (one : Numbered). is_shown rules user one.message) messages)) (live_in-packed state)
    ∙ ap (map unlinked) (filter-map (λ (one : Numbered). is_shown rules user one.message) (λ (one : Numbered). is_shown rules user one.message) (relinked_one (linkables_of state)) (λ one. refl) (live_in state))
    ∙ map-map (relinked_one (linkables_of state)) unlinked (shown_to rules user state)

-- each user has the same messages left to read
pub packed_unread : (rules : AreaRules) (user : User) (state : AreaState) → unread_by rules user (packed_state state) ≡ unread_by rules user state
packed_unread rules user state = ap (filter (λ (one : Numbered). nat_lt (last_read_by user state) one.number)) (packed_visible rules user state)

-- no killed message is left among emptied slots
none_killed : (slots : List SlotState) → All (λ slot. is_killed slot ≡ false) (map emptied slots)
none_killed slots = all_map (λ slot. is_killed slot ≡ false) emptied slots not_killed
  where
    -- what is emptied is not killed
    not_killed : (slot : SlotState) → is_killed (emptied slot) ≡ false
    not_killed no_message = refl
    not_killed killed_message = refl
    not_killed (live_message message) = refl

-- no killed message is left
pub packed_killed : (state : AreaState) → killed_count (packed_state state).slots ≡ 0
packed_killed state = none_counted is_killed (packed_slots state) (none_killed (drop (packed_base state - state.base) (relinked_slots state)))

-- changed messages from a place on
pub drop-change : (change : ℕ → LiveMessage → LiveMessage) (n number : ℕ) (slots : List SlotState)
    → drop n (change_live_from change number slots) ≡ change_live_from change (number + n) (drop n slots)
drop-change change zero number slots = ap (λ k. change_live_from change k slots) (omega arith)
drop-change change (suc n) number [] = refl
drop-change change (suc n) number (no_message ∷ slots) =
    drop-change change n (number + 1) slots ∙ ap (λ k. change_live_from change k (drop n slots)) (omega arith)
drop-change change (suc n) number (killed_message ∷ slots) =
    drop-change change n (number + 1) slots ∙ ap (λ k. change_live_from change k (drop n slots)) (omega arith)
drop-change change (suc n) number (live_message message ∷ slots) =
    drop-change change n (number + 1) slots ∙ ap (λ k. change_live_from change k (drop n slots)) (omega arith)
