-- What holds of each live message, and what that says of those that are found.
use Rattle.std.proofs.Common.{◌≡◌, ℕ, zero, suc, ◌+◌, ◌≤◌, Bool, true, false, cond, List, [], ◌∷◌, ◌++◌, reverse, Option, Some, None, find, slice_get, refl, sym, ◌∙◌, ap, arith, subst}
use Rattle.std.proofs.lemmas.Bool.{false≢true}
use Rattle.std.proofs.lemmas.List.{reverse-append, reverse-reverse}
use Rattle.std.proofs.lemmas.List.Folds.{find-append}
use Rattle.std.specs.Option.{option_or}
use Rattle.jb_state.specs.Links.{Linkable}
use Rattle.jb_state.specs.declared.loaded.LoadedMessage.{LoadedMessage}
use Rattle.jb_state.specs.declared.loaded.LoadedSlot.{LoadedSlot}
use Rattle.jb_state.specs.declared.loaded.LoadedSlot.TheVariants.{Empty, Killed, Live}
use Rattle.jb_state.specs.LiveSlots.{linkables_from, loaded_linkable}
use Rattle.jb_link.proofs.AreaLemmas.{IsOf, behind}

-- it holds of each
abbrev pub Each : (Linkable → Type 0) → List Linkable → Type 0
Each P [] = Unit {0}
Each P (x ∷ xs) = P x × Each P xs

-- it holds of each of the first ones, and of the others
each_front : (P : Linkable → Type 0) (xs ys : List Linkable) → Each P (xs ++ ys) → Each P xs
each_front P [] ys h = tt
each_front P (x ∷ xs) ys h = (h.0, each_front P xs ys h.1)

each_rest : (P : Linkable → Type 0) (xs ys : List Linkable) → Each P (xs ++ ys) → Each P ys
each_rest P [] ys h = h
each_rest P (x ∷ xs) ys h = each_rest P xs ys h.1

-- what holds of each from the end holds of each
pub each_of_reverse : (P : Linkable → Type 0) (xs : List Linkable) → Each P (reverse xs) → Each P xs
each_of_reverse P [] h = tt
each_of_reverse P (x ∷ xs) h =
    let both : Each P (reverse xs ++ x ∷ []) = subst (Each P) (reverse-append (x ∷ []) xs) h in
    ((each_rest P (reverse xs) (x ∷ []) both).0, each_of_reverse P xs (each_front P (reverse xs) (x ∷ []) both))

-- and the other way round
pub each_reversed : (P : Linkable → Type 0) (xs : List Linkable) → Each P xs → Each P (reverse xs)
each_reversed P xs h = each_of_reverse P (reverse xs) (subst (Each P) (sym (reverse-reverse xs)) h)

-- what holds of each holds of what is found, which passes
pub found_each : (P : Linkable → Type 0) (f : Linkable → Bool) (xs : List Linkable) (x : Linkable) → Each P xs → find f xs ≡ Some x → P x × (f x ≡ true)
found_each P f [] x h e = absurd (none_is_some e)
  where
    none_is_some : {x : Linkable} → None ≡ Some x → ⊥
    none_is_some e = cc
found_each P f (y ∷ xs) x h e = by_first (f y) refl e (found_each P f xs x h.1)
  where
    by_first : (b : Bool) → f y ≡ b → cond b (Some y) (find f xs) ≡ Some x → (find f xs ≡ Some x → P x × (f x ≡ true)) → P x × (f x ≡ true)
    by_first true t e rest = let is : y ≡ x = cc in (subst P is h.0, subst (λ (z : Linkable). f z ≡ true) is t)
    by_first false t e rest = rest e

-- where nothing is found none passes
pub none_passes : (f : Linkable → Bool) (xs : List Linkable) → find f xs ≡ None → Each (λ x. f x ≡ false) xs
none_passes f [] e = tt
none_passes f (y ∷ xs) e = by_first (f y) refl e (none_passes f xs)
  where
    by_first : (b : Bool) → f y ≡ b → cond b (Some y) (find f xs) ≡ None → (find f xs ≡ None → Each (λ x. f x ≡ false) xs) → (f y ≡ false) × Each (λ x. f x ≡ false) xs
    by_first true t e rest = cc
    by_first false t e rest = (t, rest e)

-- where none passes nothing is found
pub nothing_found : (f : Linkable → Bool) (xs : List Linkable) → Each (λ x. f x ≡ false) xs → find f xs ≡ None
nothing_found f [] h = refl
nothing_found f (y ∷ xs) h = ap (λ b. cond b (Some y) (find f xs)) h.0 ∙ nothing_found f xs h.1

-- what follows of each
pub each_then : (P Q : Linkable → Type 0) → ((x : Linkable) → P x → Q x) → (xs : List Linkable) → Each P xs → Each Q xs
each_then P Q f [] h = tt
each_then P Q f (x ∷ xs) h = (f x h.0, each_then P Q f xs h.1)

-- what holds of each holds of the live message at a place
pub each_at : (P : Linkable → Type 0) (k base : ℕ) (slots : List LoadedSlot) (message : LoadedMessage) → Each P (linkables_from base slots) → slice_get slots k ≡ Some (Live message)
    → P (loaded_linkable (base + k) message)
each_at P k base [] message h at = cc
each_at P zero base (Empty ∷ slots) message h at = cc
each_at P zero base (Killed header_at ∷ slots) message h at = cc
each_at P zero base (Live other ∷ slots) message h at =
    let is : other ≡ message = cc in
    let same : base ≡ base + 0 = omega arith in
    subst (λ (n : ℕ). P (loaded_linkable n message)) same (subst (λ (m : LoadedMessage). P (loaded_linkable base m)) is h.0)
each_at P (suc k) base (Empty ∷ slots) message h at =
    let same : base + 1 + k ≡ base + suc k = omega arith in
    subst (λ (n : ℕ). P (loaded_linkable n message)) same (each_at P k (base + 1) slots message h at)
each_at P (suc k) base (Killed header_at ∷ slots) message h at =
    let same : base + 1 + k ≡ base + suc k = omega arith in
    subst (λ (n : ℕ). P (loaded_linkable n message)) same (each_at P k (base + 1) slots message h at)
each_at P (suc k) base (Live other ∷ slots) message h at =
    let same : base + 1 + k ≡ base + suc k = omega arith in
    subst (λ (n : ℕ). P (loaded_linkable n message)) same (each_at P k (base + 1) slots message h.1 at)

-- each is a live message of the slots
pub each_is_one : (base : ℕ) (slots : List LoadedSlot) → Each (IsOf base slots) (linkables_from base slots)
each_is_one base [] = tt
each_is_one base (Empty ∷ slots) = each_then (IsOf (base + 1) slots) (IsOf base (Empty ∷ slots)) (behind base Empty slots) (linkables_from (base + 1) slots) (each_is_one (base + 1) slots)
each_is_one base (Killed at ∷ slots) =
    each_then (IsOf (base + 1) slots) (IsOf base (Killed at ∷ slots)) (behind base (Killed at) slots) (linkables_from (base + 1) slots) (each_is_one (base + 1) slots)
each_is_one base (Live message ∷ slots) =
    let same : base ≡ base + 0 = omega arith in (
      record { place = 0; message = message; at = refl; is = ap (λ n. loaded_linkable n message) same },
      each_then (IsOf (base + 1) slots) (IsOf base (Live message ∷ slots)) (behind base (Live message) slots) (linkables_from (base + 1) slots) (each_is_one (base + 1) slots),
    )

-- each has a number from that of the first slot on
pub each_from : (base : ℕ) (slots : List LoadedSlot) → Each (λ one. base ≤ one.number) (linkables_from base slots)
each_from base slots =
    each_then (IsOf base slots) (λ one. base ≤ one.number)
    (λ one h. let numbered : one.number ≡ base + h.place = ap (λ (l : Linkable). l.number) h.is in omega arith)
    (linkables_from base slots) (each_is_one base slots)

-- so has what is found
pub found_from : (f : Linkable → Bool) (base : ℕ) (slots : List LoadedSlot) (x : Linkable) → find f (linkables_from base slots) ≡ Some x → base ≤ x.number
found_from f base slots x found = (found_each (λ one. base ≤ one.number) f (linkables_from base slots) x (each_from base slots) found).0

-- of those that pass, the one found from the end has the greatest number
pub greatest_found : (f : Linkable → Bool) (base : ℕ) (slots : List LoadedSlot) (last : Linkable) → find f (reverse (linkables_from base slots)) ≡ Some last
    → Each (λ one. f one ≡ true → one.number ≤ last.number) (linkables_from base slots)
greatest_found f base [] last e = tt
greatest_found f base (Empty ∷ slots) last e = greatest_found f (base + 1) slots last e
greatest_found f base (Killed at ∷ slots) last e = greatest_found f (base + 1) slots last e
greatest_found f base (Live message ∷ slots) last e =
    by_rest (find f (reverse rest)) refl (sym (ap (find f) (reverse-append (one ∷ []) rest) ∙ find-append f (reverse rest) (one ∷ [])) ∙ e) (greatest_found f (base + 1) slots last)
  where
    one : Linkable
    one = loaded_linkable base message

    rest : List Linkable
    rest = linkables_from (base + 1) slots

    by_rest : (found : Option Linkable) → find f (reverse rest) ≡ found → option_or (find f (reverse rest)) (cond (f one) (Some one) None) ≡ Some last
        → (find f (reverse rest) ≡ Some last → Each (λ x. f x ≡ true → x.number ≤ last.number) rest)
        → (f one ≡ true → one.number ≤ last.number) × Each (λ x. f x ≡ true → x.number ≤ last.number) rest
    by_rest None t h later = (
      λ passes.
          let only : Some one ≡ Some last
          = sym (ap (λ b. cond b (Some one) None) passes) ∙ sym (ap (λ o. option_or o (cond (f one) (Some one) None)) t) ∙ h in
          let is : one ≡ last = cc in
          let same : one.number ≡ last.number = ap (λ (l : Linkable). l.number) is in
          omega arith,
      each_then (λ x. f x ≡ false) (λ x. f x ≡ true → x.number ≤ last.number) (λ x fails passes. absurd (false≢true (sym fails ∙ passes))) rest
          (each_of_reverse (λ x. f x ≡ false) rest (none_passes f (reverse rest) t)),
    )
    by_rest (Some x) t h later =
        let found : Some x ≡ Some last = sym (ap (λ o. option_or o (cond (f one) (Some one) None)) t) ∙ h in
        let is : x ≡ last = cc in
        let known : find f (reverse rest) ≡ Some last = t ∙ ap Some is in
        let above : base + 1 ≤ last.number
        = (found_each (λ y. base + 1 ≤ y.number) f (reverse rest) last (each_reversed (λ y. base + 1 ≤ y.number) rest (each_from (base + 1) slots)) known).0 in
        (λ passes. omega arith, later known)
