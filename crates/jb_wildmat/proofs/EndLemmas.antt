-- The ends of a name that a pattern takes.
use Rattle.std.proofs.Common.{◌≡◌, ℕ, ◌||◌, ◌&&◌, inl, inr, Bool, true, false, List, [], ◌∷◌, refl, ap, ◌∙◌, eq-eqb}
use Rattle.std.proofs.lemmas.Bool.{and_parts, cond-false, cond-true, false≢true, ne_eqb, or_cases, or_left, or_right}
use Rattle.jb_wildmat.specs.Wildmats.{pattern_takes, rest_passes, sign_takes, some_end}

-- what a pattern takes behind its first sign
pub pattern_takes-star : (sign : ℕ) (signs name : List ℕ) → sign ≡ 42 → pattern_takes (sign ∷ signs) name ≡ some_end (pattern_takes signs) name
pattern_takes-star sign signs name star = cond-true _ _ _ (eq-eqb sign 42 star)

pub pattern_takes-sign : (sign : ℕ) (signs name : List ℕ) → (sign ≡ 42 → ⊥) → pattern_takes (sign ∷ signs) name ≡ rest_passes sign (pattern_takes signs) name
pattern_takes-sign sign signs name other = cond-false _ _ _ (ne_eqb sign 42 other)

-- two tests that answer alike have the same ends
pub some_end-same : (one two : List ℕ → Bool) → ((name : List ℕ) → one name ≡ two name) → (name : List ℕ) → some_end one name ≡ some_end two name
some_end-same one two same [] = same []
some_end-same one two same (byte ∷ rest) =
    let here = same (byte ∷ rest) in
    let behind = some_end-same one two same rest in
    cc

-- the whole name is one of its ends
pub some_end-whole : (test : List ℕ → Bool) (name : List ℕ) → test name ≡ true → some_end test name ≡ true
some_end-whole test [] passes = passes
some_end-whole test (byte ∷ rest) passes = or_left _ _ passes

-- an end of an end is an end
pub some_end-twice : (test : List ℕ → Bool) (name : List ℕ) → some_end (some_end test) name ≡ some_end test name
some_end-twice test [] = refl
some_end-twice test (byte ∷ rest) =
    ap (λ (b : Bool). (test (byte ∷ rest) || some_end test rest) || b) (some_end-twice test rest) ∙ again (test (byte ∷ rest)) (some_end test rest)
  where
    again : (a b : Bool) → ((a || b) || b) ≡ (a || b)
    again true b = refl
    again false true = refl
    again false false = refl

-- where a sign and the rest take an end of a name, the rest takes an end of what stands behind the first byte
pub some_end-behind : (sign : ℕ) (test : List ℕ → Bool) (byte : ℕ) (rest : List ℕ) → some_end (rest_passes sign test) (byte ∷ rest) ≡ true → some_end test rest ≡ true
some_end-behind sign test byte [] passes = elim (or_cases (sign_takes sign byte && test []) false passes) [
  | inl here ↦ (and_parts (sign_takes sign byte) (test []) here).1
  | inr later ↦ absurd (false≢true later)
]
some_end-behind sign test byte (next ∷ rest) passes =
    elim (or_cases (sign_takes sign byte && test (next ∷ rest)) (some_end (rest_passes sign test) (next ∷ rest)) passes) [
      | inl here ↦ or_left (test (next ∷ rest)) (some_end test rest) (and_parts (sign_takes sign byte) (test (next ∷ rest)) here).1
      | inr later ↦ or_right (test (next ∷ rest)) (some_end test rest) (some_end-behind sign test next rest later)
    ]
