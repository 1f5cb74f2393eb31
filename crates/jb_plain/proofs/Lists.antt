-- Lists of which the front is changed and the rest is not yet, and lists of slots as the definitions see them.
use Rattle.std.proofs.Common.{◌≡◌, ℕ, zero, suc, ◌+◌, ◌-◌, ◌<◌, ◌≤◌, List, [], ◌∷◌, ◌++◌, length, get_or, set, take, drop, map, refl, sym, ◌∙◌, ap, arith, length-take, append_assoc}
use Rattle.std.specs.Prelude.{Option}
use Rattle.std.proofs.lemmas.List.{drop_more, get_or-append_right, set_at, take_more, take_all, drop_all, append-nil}
use Rattle.jb_state.specs.Links.{Linkable}
use Rattle.jb_state.specs.Live.{change_live_from, live_from}
use Rattle.jb_state.specs.PackedState.{emptied, first_number_or}
use Rattle.jb_state.specs.Relinked.{relinked}
use Rattle.jb_model.specs.Run.{plain_slot}
use Rattle.jb_state.specs.State.{no_message, killed_message, live_message}
use Rattle.jb_state.specs.declared.message.Head.{Head}
use Rattle.jb_plain.specs.Walk.{front_of, heads_from, numbered, with_heads, with_some_head, without_killed}
use Rattle.jb_state.specs.Tight.{owned_slot}
use Rattle.jb_state.specs.declared.area.Slot.{Slot}
use Rattle.jb_state.specs.declared.area.Slot.TheVariants.{Empty, Killed, Live}

-- one more element is changed
pub mixed_step : {X : Type 0} (changed old : List X) (p : ℕ) (x d : X) → length changed ≡ length old → p < length old → x ≡ get_or changed p d → set (take p changed ++ drop p old) p x ≡ take (p + 1) changed ++ drop (p + 1) old
mixed_step {X} changed old p x d same within is =
    let front : length (take p changed) ≡ p = omega (arith, length-take p changed) in
    ap (λ l. set (take p changed ++ l) p x) (drop_more old p d within)
    ∙ set_at (take p changed) (get_or old p d) (drop (p + 1) old) x p front
    ∙ sym (append_assoc (take p changed) (x ∷ []) (drop (p + 1) old))
    ∙ ap (λ y. (take p changed ++ y ∷ []) ++ drop (p + 1) old) is
    ∙ ap (λ l. l ++ drop (p + 1) old) (sym (take_more changed p d (omega arith)))

-- all are changed
pub mixed_end : {X : Type 0} (changed old : List X) (p : ℕ) → length changed ≡ length old → length old ≤ p → take p changed ++ drop p old ≡ changed
mixed_end changed old p same past =
    ap (λ l. take p changed ++ l) (drop_all p old past) ∙ append-nil (take p changed) ∙ take_all p changed (omega arith)

-- slots that are seen with their owners and then without are the slots
pub plain_owned : (slots : List Slot) → map plain_slot (map owned_slot slots) ≡ slots
plain_owned [] = refl
plain_owned (Empty ∷ slots) = ap (λ l. Empty ∷ l) (plain_owned slots)
plain_owned (Killed ∷ slots) = ap (λ l. Killed ∷ l) (plain_owned slots)
plain_owned (Live message ∷ slots) = ap (λ l. Live message ∷ l) (plain_owned slots)

-- the element at the border is not yet changed
pub mixed_here : {X : Type 0} (changed old : List X) (p : ℕ) (d : X) → length changed ≡ length old → p < length old → get_or (take p changed ++ drop p old) p d ≡ get_or old p d
mixed_here changed old p d same within =
    let front : length (take p changed) ≡ p = omega (arith, length-take p changed) in
    let none : p - p ≡ 0 = omega arith in
    get_or-append_right (take p changed) (drop p old) p p d front (omega arith)
    ∙ ap (λ n. get_or (drop p old) n d) none
    ∙ ap (λ l. get_or l 0 d) (drop_more old p d within)

-- the element at the border is changed, as one of all
pub mixed_next : {X : Type 0} (changed old : List X) (p : ℕ) (d : X) (change : X → X) → length changed ≡ length old → p < length old → get_or changed p d ≡ change (get_or old p d) → set (take p changed ++ drop p old) p (change (get_or (take p changed ++ drop p old) p d)) ≡ take (p + 1) changed ++ drop (p + 1) old
mixed_next changed old p d change same within is =
    mixed_step changed old p (change (get_or (take p changed ++ drop p old) p d)) d same within
    (ap change (mixed_here changed old p d same within) ∙ sym is)

-- as many slots with heads
pub length-with_heads : (heads : List (Option Head)) (slots : List Slot) → length (with_heads heads slots) ≡ length slots
length-with_heads [] slots = refl
length-with_heads (head ∷ heads) [] = refl
length-with_heads (head ∷ heads) (slot ∷ slots) = ap suc (length-with_heads heads slots)

-- the slot at a place with its head
pub get_or-with_heads : (heads : List (Option Head)) (slots : List Slot) (p : ℕ) (d : Slot) (e : Option Head) → p < length heads → p < length slots → get_or (with_heads heads slots) p d ≡ with_some_head (get_or heads p e) (get_or slots p d)
get_or-with_heads [] slots p d e low within = absurd (omega arith)
get_or-with_heads (head ∷ heads) [] p d e low within = absurd (omega arith)
get_or-with_heads (head ∷ heads) (slot ∷ slots) zero d e low within = refl
get_or-with_heads (head ∷ heads) (slot ∷ slots) (suc p) d e low within = get_or-with_heads heads slots p d e (omega arith) (omega arith)

-- as many heads as slots
pub length-heads_from : (live : List Linkable) (number : ℕ) (slots : List Slot) → length (heads_from live number slots) ≡ length slots
length-heads_from live number [] = refl
length-heads_from live number (slot ∷ slots) = ap suc (length-heads_from live (number + 1) slots)

-- slots with the heads of their links are the relinked slots
pub with_heads-relinked : (live : List Linkable) (number : ℕ) (slots : List Slot) → map owned_slot (with_heads (heads_from live number slots) slots) ≡ change_live_from (λ n message. relinked live (record { number = n; message = message })) number (map owned_slot slots)
with_heads-relinked live number [] = refl
with_heads-relinked live number (Empty ∷ slots) = ap (λ l. no_message ∷ l) (with_heads-relinked live (number + 1) slots)
with_heads-relinked live number (Killed ∷ slots) = ap (λ l. killed_message ∷ l) (with_heads-relinked live (number + 1) slots)
with_heads-relinked live number (Live message ∷ slots) = ap (λ l. live_message (relinked live (numbered number message)) ∷ l) (with_heads-relinked live (number + 1) slots)

-- emptied slots, seen before or after
pub emptied-owned : (slots : List Slot) → map owned_slot (map without_killed slots) ≡ map emptied (map owned_slot slots)
emptied-owned [] = refl
emptied-owned (Empty ∷ slots) = ap (λ l. no_message ∷ l) (emptied-owned slots)
emptied-owned (Killed ∷ slots) = ap (λ l. no_message ∷ l) (emptied-owned slots)
emptied-owned (Live message ∷ slots) = ap (λ l. owned_slot (Live message) ∷ l) (emptied-owned slots)

-- behind a slot that is not live
front_behind : (number : ℕ) (slots : List Slot) → number + 1 + front_of slots ≡ first_number_or (number + 1 + length (map owned_slot slots)) (live_from (number + 1) (map owned_slot slots)) → number + (1 + front_of slots) ≡ first_number_or (number + suc (length (map owned_slot slots))) (live_from (number + 1) (map owned_slot slots))
front_behind number slots later =
    let behind : number + suc (length (map owned_slot slots)) ≡ number + 1 + length (map owned_slot slots) = omega arith in
    let sum : number + (1 + front_of slots) ≡ number + 1 + front_of slots = omega arith in
    sum ∙ later ∙ ap (λ n. first_number_or n (live_from (number + 1) (map owned_slot slots))) (sym behind)

-- the first live number is the number of slots in front behind the base
pub front_of-first : (number : ℕ) (slots : List Slot) → number + front_of slots ≡ first_number_or (number + length (map owned_slot slots)) (live_from number (map owned_slot slots))
front_of-first number [] = refl
front_of-first number (Empty ∷ slots) = front_behind number slots (front_of-first (number + 1) slots)
front_of-first number (Killed ∷ slots) = front_behind number slots (front_of-first (number + 1) slots)
front_of-first number (Live message ∷ slots) = omega arith
