-- What holds at each place of several lists, as they grow by one at an end.
use Rattle.std.proofs.Common.{◌≡◌, ℕ, zero, suc, ◌<◌, List, [], ◌∷◌, ◌++◌, length, refl, arith}
use Rattle.std.specs.Prelude.{All, Some, slice_index_or}
use Rattle.std.proofs.lemmas.List.Elements.{All-head, All-pop, All-tail}

-- it holds at each place of three lists
abbrev pub Each : {A B C : Type 0} → (A → B → C → Type 0) → List A → List B → List C → Type 0
Each {A} {B} {C} P xs ys zs = (k : ℕ) (x : A) (y : B) (z : C) → k < length xs → P (slice_index_or xs k x) (slice_index_or ys k y) (slice_index_or zs k z)

-- it holds of the first, and of all behind them
pub each_first : {A B C : Type 0} (P : A → B → C → Type 0) (x : A) (xs : List A) (y : B) (ys : List B) (z : C) (zs : List C) → P x y z → Each P xs ys zs → Each P (x ∷ xs) (y ∷ ys) (z ∷ zs)
each_first P x xs y ys z zs first each zero d e f within = first
each_first P x xs y ys z zs first each (suc k) d e f within = each k d e f (omega arith)

-- it holds of all but the first
pub each_rest : {A B C : Type 0} (P : A → B → C → Type 0) (x : A) (xs : List A) (y : B) (ys : List B) (z : C) (zs : List C) → Each P (x ∷ xs) (y ∷ ys) (z ∷ zs) → Each P xs ys zs
each_rest P x xs y ys z zs each k d e f within = each (suc k) d e f (omega arith)

-- it holds of all, and of the last
pub each_last : {A B C : Type 0} (P : A → B → C → Type 0) (xs : List A) (x : A) (ys : List B) (y : B) (zs : List C) (z : C) → length ys ≡ length xs → length zs ≡ length xs → Each P xs ys zs → P x y z
    → Each P (xs ++ x ∷ []) (ys ++ y ∷ []) (zs ++ z ∷ [])
each_last P [] x [] y [] z same_y same_z each last = each_first P x [] y [] z [] last each
each_last P [] x [] y (other_z ∷ zs) z same_y same_z each last = absurd (omega arith)
each_last P [] x (other_y ∷ ys) y zs z same_y same_z each last = absurd (omega arith)
each_last P (other ∷ xs) x [] y zs z same_y same_z each last = absurd (omega arith)
each_last P (other ∷ xs) x (other_y ∷ ys) y [] z same_y same_z each last = absurd (omega arith)
each_last P (other ∷ xs) x (other_y ∷ ys) y (other_z ∷ zs) z same_y same_z each last =
    each_first P other (xs ++ x ∷ []) other_y (ys ++ y ∷ []) other_z (zs ++ z ∷ []) (each 0 other other_y other_z (omega arith))
    (each_last P xs x ys y zs z (omega arith) (omega arith) (each_rest P other xs other_y ys other_z zs each) last)

-- it holds at each place of two lists
abbrev pub EachPair : {A B : Type 0} → (A → B → Type 0) → List A → List B → Type 0
EachPair {A} {B} P xs ys = (k : ℕ) (x : A) (y : B) → k < length xs → P (slice_index_or xs k x) (slice_index_or ys k y)

-- it holds of all, and of the last
pub each_pair_last : {A B : Type 0} (P : A → B → Type 0) (xs : List A) (x : A) (ys : List B) (y : B) → length ys ≡ length xs → EachPair P xs ys → P x y → EachPair P (xs ++ x ∷ []) (ys ++ y ∷ [])
each_pair_last P xs x ys y same each last = λ k d e within.
    each_last (λ a b _. P a b) xs x ys y ys y same same (λ j a b _ low. each j a b low) last k d e e within

-- it holds of all but the last
pub each_pair_most : {A B : Type 0} (P : A → B → Type 0) (xs : List A) (x : A) (ys : List B) (y : B) → length ys ≡ length xs → EachPair P (xs ++ x ∷ []) (ys ++ y ∷ []) → EachPair P xs ys
each_pair_most P [] x ys y same each k d e within = absurd (omega arith)
each_pair_most P (other ∷ xs) x [] y same each k d e within = absurd (omega arith)
each_pair_most P (other ∷ xs) x (other_y ∷ ys) y same each zero d e within = each 0 d e (omega arith)
each_pair_most P (other ∷ xs) x (other_y ∷ ys) y same each (suc k) d e within =
    each_pair_most P xs x ys y (omega arith) (λ j f g low. each (suc j) f g (omega arith)) k d e (omega arith)

-- it holds of the last
pub each_pair_end : {A B : Type 0} (P : A → B → Type 0) (xs : List A) (x : A) (ys : List B) (y : B) → length ys ≡ length xs → EachPair P (xs ++ x ∷ []) (ys ++ y ∷ []) → P x y
each_pair_end P [] x [] y same each = each 0 x y (omega arith)
each_pair_end P [] x (other_y ∷ ys) y same each = absurd (omega arith)
each_pair_end P (other ∷ xs) x [] y same each = absurd (omega arith)
each_pair_end P (other ∷ xs) x (other_y ∷ ys) y same each = each_pair_end P xs x ys y (omega arith) (λ j f g low. each (suc j) f g (omega arith))

-- it holds of the last of one list
pub all_end : {A : Type 0} (P : A → Type 0) (xs : List A) (x : A) → All P (xs ++ x ∷ []) → P x
all_end P [] x all = All-head P x [] all
all_end P (other ∷ xs) x all = all_end P xs x (All-tail P other (xs ++ x ∷ []) all)

-- and of all but the last
pub all_most : {A : Type 0} (P : A → Type 0) (xs : List A) (x : A) → All P (xs ++ x ∷ []) → All P xs
all_most P xs x all = (All-pop P (xs ++ x ∷ []) xs (Some x) refl all).0

-- an element of a list that reaches so far
pub one_of : {A : Type 0} (xs : List A) (k : ℕ) → k < length xs → A
one_of [] k within = absurd (omega arith)
one_of (x ∷ xs) k within = x
