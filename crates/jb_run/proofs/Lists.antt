-- Lists that grow or shrink at their end.
use Rattle.std.proofs.Common.{◌≡◌, ℕ, ◌+◌, ◌<◌, Bool, false, ◌||◌, List, [], ◌∷◌, ◌++◌, drop, length, map, take, refl, sym, ap, ◌∙◌, arith}
use Rattle.std.proofs.lemmas.List.{map_push, take_at}
use Rattle.std.proofs.lemmas.List.Sums.{fold-append}
use Rattle.jb_run.specs.All.{any}

-- a list that is not empty ends with its last
pub last_of : {A : Type 0} (xs : List A) (n : ℕ) → length xs ≡ n + 1 → (front : List A) × (last : A) × (xs ≡ front ++ last ∷ []) × (length front ≡ n)
last_of [] n many = absurd (omega (arith, many))
last_of (x ∷ []) n many = ([], x, refl, omega (arith, many))
last_of {A} (x ∷ y ∷ ys) n many =
    let rest = last_of (y ∷ ys) (length ys) (omega arith) in (
      x ∷ rest.0,
      rest.1,
      ap (λ (l : List A). x ∷ l) rest.2,
      omega (arith, rest.3, many),
    )

-- an element of a list that reaches so far
pub one_of : {A : Type 0} (xs : List A) (k : ℕ) → k < length xs → A
one_of [] k within = absurd (omega (arith, within))
one_of (x ∷ xs) k within = x

-- one bit more
pub any_push : {A : Type 0} (of : A → Bool) (xs : List A) (x : A) → any (map of (xs ++ x ∷ [])) ≡ (any (map of xs) || of x)
any_push of xs x = ap any (map_push of xs x) ∙ fold-append (λ so_far bit. so_far || bit) false (map of xs) (of x ∷ [])

-- what was lent as a slice is back
pub lent_back : {A : Type 0} (items slice after : List A) (len : ℕ) → slice ≡ items → length after ≡ length slice → len ≡ length items → take len (after ++ drop (length after) items) ≡ after
lent_back items slice after len lent many is = take_at after (drop (length after) items) len (many ∙ ap length lent ∙ sym is)
