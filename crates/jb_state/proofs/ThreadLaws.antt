-- A parent has a lower number, and from parent to parent a thread comes to a message without one.
use Rattle.std.proofs.Common.{◌≡◌, ℕ, zero, suc, ◌<◌, ◌≤◌, ◌⊎◌, inl, inr, Bool, true, ◌==◌, List, [], ◌∷◌, Option, Some, None, find, refl, sym, ◌∙◌, subst, arith}
use Rattle.std.specs.Prelude.{IfSome, if◌then◌else◌}
use Rattle.std.proofs.lemmas.Bool.{and_parts, cond_both, cond-false, cond-true, eq-eqb, eqb-true, eqb-false, ltb-true}
use Rattle.jb_state.specs.Links.{Linkable, is_answered_by, is_kept_by, number_or_0, parent_at, parent_for, parent_of, parent_or_0, root_within, thread_root}

-- what is found passes the test
pub find_passes : {X : Type 0} (test : X → Bool) (xs : List X) → IfSome (find test xs) (λ x. test x ≡ true)
find_passes {X} test [] = tt
find_passes {X} test (x ∷ xs) =
    cond_both (test x) (Some x) (find test xs) (λ (found : Option X). IfSome found (λ y. test y ≡ true)) (λ passes. passes) (λ fails. find_passes test xs)

-- a number that is found below this one lies below it
below_from : (test : Linkable → Bool) (number : ℕ) (found : Option Linkable) → ((one : Linkable) → test one ≡ true → one.number < number) → IfSome found (λ x. test x ≡ true) → (number_or_0 found ≡ 0) ⊎ (number_or_0 found < number)
below_from test number None below passes = inl refl
below_from test number (Some one) below passes = inr (below one passes)

-- a parent has a lower number, or there is none
pub parent_is_lower : (live : List Linkable) (number : ℕ) (id : Option (List ℕ)) (kept : ℕ) → (parent_for live number id kept ≡ 0) ⊎ (parent_for live number id kept < number)
parent_is_lower live number (Some bytes) kept =
    below_from (is_answered_by number bytes) number (find (is_answered_by number bytes) live)
    (λ one passes. ltb-true one.number number (and_parts _ _ passes).0) (find_passes (is_answered_by number bytes) live)
parent_is_lower live number None kept =
    below_from (is_kept_by number kept) number (find (is_kept_by number kept) live)
    (λ one passes. ltb-true one.number number (and_parts _ _ passes).0) (find_passes (is_kept_by number kept) live)

-- the parent of what was found under a number
parent_of_found : (live : List Linkable) (number : ℕ) (found : Option Linkable) → IfSome found (λ one. (one.number == number) ≡ true) → (parent_or_0 live found ≡ 0) ⊎ (parent_or_0 live found < number)
parent_of_found live number None is = inl refl
parent_of_found live number (Some one) is =
    let P : ℕ → Type 0 = λ n. (parent_of live one ≡ 0) ⊎ (parent_of live one < n) in
    subst P (eqb-true one.number number is) (parent_is_lower live one.number one.replyid one.kept)

-- the parent of a number is lower, or there is none
pub parent_at_is_lower : (live : List Linkable) (number : ℕ) → (parent_at live number ≡ 0) ⊎ (parent_at live number < number)
parent_at_is_lower live number =
    parent_of_found live number (find (λ one. one.number == number) live) (find_passes (λ (one : Linkable). one.number == number) live)

-- 0 has no parent
parent_at_0 : (live : List Linkable) → parent_at live 0 ≡ 0
parent_at_0 live = elim (parent_at_is_lower live 0) [ inl none ↦ none | inr below ↦ absurd (omega arith) ]

-- no number has no parent
parent_at_none : (live : List Linkable) (number : ℕ) → number ≡ 0 → parent_at live number ≡ 0
parent_at_none live number none = let P : ℕ → Type 0 = λ n. parent_at live n ≡ 0 in subst P (sym none) (parent_at_0 live)

-- a parent, where there is one, is lower
parent_below : (live : List Linkable) (number : ℕ) → (parent_at live number ≡ 0 → ⊥) → parent_at live number < number
parent_below live number some = elim (parent_at_is_lower live number) [ inl none ↦ absurd (some none) | inr below ↦ below ]

-- with as many steps as the number, the way up ends at a message without a parent
root_within-parent : (steps : ℕ) (live : List Linkable) (number : ℕ) → number ≤ steps → parent_at live (root_within steps live number) ≡ 0
root_within-parent zero live number enough =
    let none : number ≡ 0 = omega arith in
    let P : ℕ → Type 0 = λ n. parent_at live n ≡ 0 in
    subst P (sym none) (parent_at_0 live)
root_within-parent (suc steps) live number enough =
    let P : ℕ → Type 0 = λ root. parent_at live root ≡ 0 in
    cond_both (parent_at live number == 0) number (root_within steps live (parent_at live number)) P
    (λ none. eqb-true (parent_at live number) 0 none)
    (λ some.
    let below : parent_at live number < number = parent_below live number (eqb-false (parent_at live number) 0 some) in
    root_within-parent steps live (parent_at live number) (omega arith))

-- a thread begins with a message that has no parent
pub root_has_no_parent : (live : List Linkable) (number : ℕ) → parent_at live (thread_root live number) ≡ 0
root_has_no_parent live number = root_within-parent number live number (omega arith)

-- more steps than the number change nothing
root_within-enough : (some more : ℕ) (live : List Linkable) (number : ℕ) → number ≤ some → number ≤ more → root_within some live number ≡ root_within more live number
root_within-enough zero zero live number few many = refl
root_within-enough zero (suc more) live number few many =
    let none : number ≡ 0 = omega arith in
    sym (cond-true (parent_at live number == 0) number (root_within more live (parent_at live number)) (eq-eqb (parent_at live number) 0 (parent_at_none live number none)))
root_within-enough (suc some) zero live number few many =
    let none : number ≡ 0 = omega arith in
    cond-true (parent_at live number == 0) number (root_within some live (parent_at live number)) (eq-eqb (parent_at live number) 0 (parent_at_none live number none))
root_within-enough (suc some) (suc more) live number few many =
    let P : ℕ → Type 0 = λ root. root ≡ root_within (suc more) live number in
    cond_both (parent_at live number == 0) number (root_within some live (parent_at live number)) P
    (λ none. sym (cond-true (parent_at live number == 0) number (root_within more live (parent_at live number)) none))
    (λ parent.
    let below : parent_at live number < number = parent_below live number (eqb-false (parent_at live number) 0 parent) in
    root_within-enough some more live (parent_at live number) (omega arith) (omega arith)
    ∙ sym (cond-false (parent_at live number == 0) number (root_within more live (parent_at live number)) parent))

-- the first message of a thread is that of the parent's, and a message without a parent begins its own
pub root_is_that_of_parent : (live : List Linkable) (number : ℕ) → thread_root live number ≡ (if parent_at live number == 0 then number else thread_root live (parent_at live number))
root_is_that_of_parent live number =
    let P : ℕ → Type 0 = λ root. thread_root live number ≡ root in
    cond_both (parent_at live number == 0) number (thread_root live (parent_at live number)) P
    (λ none.
    root_within-enough number (suc number) live number (omega arith) (omega arith)
    ∙ cond-true (parent_at live number == 0) number (root_within number live (parent_at live number)) none)
    (λ parent.
    let below : parent_at live number < number = parent_below live number (eqb-false (parent_at live number) 0 parent) in
    root_within-enough number (suc number) live number (omega arith) (omega arith)
    ∙ cond-false (parent_at live number == 0) number (root_within number live (parent_at live number)) parent
    ∙ root_within-enough number (parent_at live number) live (parent_at live number) (omega arith) (omega arith))
