-- Two texts of one length are the same where the bits that differ, taken together, are none.
use Rattle.std.proofs.Common.{◌≡◌, ℕ, zero, suc, ◌<◌, ◌+◌, Bool, true, false, ◌&&◌, ◌==◌, List, [], ◌∷◌, ◌++◌, length, get_or, take, take-suc, length-take, bit_or, bit_xor, bytes_eq, refl, ap, ap₂, sym, ◌∙◌, arith}
use Rattle.std.specs.Int.Bits.{xor_self, xor_zero_r, xor_assoc}
use Rattle.std.proofs.lemmas.Bool.{ne_eqb}
use Rattle.std.proofs.lemmas.Bool.Decides.{same_from_decides, Decides-eqb, Decides-like}
use Rattle.std.proofs.lemmas.Nat.{le_or_l}

-- no bit stands in either of two numbers where none stands in both together
none_of_two : (one other : ℕ) → (bit_or one other == 0) ≡ ((one == 0) && (other == 0))
none_of_two zero other = refl
none_of_two (suc one) other =
    ne_eqb (bit_or (suc one) other) 0 (λ e. omega (arith, le_or_l (suc one) other, e)) ∙ ap (λ t. t && (other == 0)) (sym (ne_eqb (suc one) 0 (λ e. omega (arith, e))))

same_of_none : (one other : ℕ) → bit_xor one other ≡ 0 → one ≡ other
same_of_none one other e =
    sym (xor_zero_r one) ∙ ap (bit_xor one) (sym (xor_self other)) ∙ sym (xor_assoc one other other) ∙ ap (λ n. bit_xor n other) e

-- no bit differs where two numbers are the same
none_of_same : (one other : ℕ) → (bit_xor one other == 0) ≡ (one == other)
none_of_same one other =
    same_from_decides (bit_xor one other == 0) (one == other)
    (Decides-like (bit_xor one other == 0) (same_of_none one other) (λ e. ap (bit_xor one) (sym e) ∙ xor_self one) (Decides-eqb (bit_xor one other) 0))
    (Decides-eqb one other)

and_apart : (a b c : Bool) → ((a && b) && c) ≡ (a && (b && c))
and_apart true b c = refl
and_apart false b c = refl

pushed : (one other : List ℕ) (a b : ℕ) → length one ≡ length other → bytes_eq (one ++ a ∷ []) (other ++ b ∷ []) ≡ (bytes_eq one other && (a == b))
pushed [] [] a b long = alone (a == b)
  where
    alone : (t : Bool) → (t && true) ≡ t
    alone true = refl
    alone false = refl
pushed [] (y ∷ other) a b long = absurd (omega (arith, long))
pushed (x ∷ one) [] a b long = absurd (omega (arith, long))
pushed (x ∷ one) (y ∷ other) a b long =
    ap (λ t. (x == y) && t) (pushed one other a b (omega (arith, long))) ∙ sym (and_apart (x == y) (bytes_eq one other) (a == b))

-- with the bits that differ in one byte more
pub differing_step : (one other : List ℕ) (at bits a b : ℕ) → at < length one → at < length other → a ≡ get_or one at 0 → b ≡ get_or other at 0
    → (bits == 0) ≡ bytes_eq (take at one) (take at other) → (bit_or bits (bit_xor a b) == 0) ≡ bytes_eq (take (at + 1) one) (take (at + 1) other)
differing_step one other at bits a b in_one in_other is_a is_b before =
    let more : (xs : List ℕ) (x : ℕ) → at < length xs → x ≡ get_or xs at 0 → take (at + 1) xs ≡ take at xs ++ x ∷ [] = λ xs x within is. grind (arith, take-suc xs at 0 within) in
    let long : length (take at one) ≡ length (take at other) = grind (arith, length-take) in
    none_of_two bits (bit_xor a b)
    ∙ ap₂ (λ s t. s && t) before (none_of_same a b)
    ∙ sym (pushed (take at one) (take at other) a b long)
    ∙ ap₂ bytes_eq (sym (more one a in_one is_a)) (sym (more other b in_other is_b))
