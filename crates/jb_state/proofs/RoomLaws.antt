-- Powers of two, of which room is made.
use Rattle.std.proofs.Common.{◌≡◌, ℕ, ◌+◌, ◌*◌, ◌^◌, ◌≤◌, inl, inr, true, false, ◌==◌, count_ones, sym, ◌∙◌, ap, subst, arith}
use Rattle.std.specs.Int.{IsPowerOfTwo, is_power_of_two}
use Rattle.std.proofs.lemmas.Bool.{cases_lt}
use Rattle.std.proofs.lemmas.Nat.{ones_cat, pow_pos}
use Rattle.jb_state.specs.Room.{HasPlaces}

-- one bit of it is set
one_of_power : (k : ℕ) → count_ones (2 ^ k) ≡ 1
unfolding lib.Count.ones
one_of_power k =
    let is : 1 * 2 ^ k + 0 ≡ 2 ^ k = omega arith in
    ap count_ones (sym is) ∙ ones_cat k 1 0 (pow_pos k)

-- it is told by its bits
pub power_told : (n : ℕ) → IsPowerOfTwo n → is_power_of_two n ≡ true
power_told n power = ap (λ (one : ℕ). one == 1) (ap count_ones power.1 ∙ one_of_power power.0)

-- where not as many are taken as a power of two, a place is left
pub place_left : (taken places : ℕ) → HasPlaces taken places → is_power_of_two taken ≡ false → HasPlaces (taken + 1) places
place_left taken places has told = record { most = has.most; power = has.power; within = below; room = has.room }
  where
    below : taken + 1 ≤ has.most
    below = elim (cases_lt taken has.most) [
      | inl less ↦ omega (arith, less)
      | inr all ↦
          (let same : has.most ≡ taken = omega (arith, all, has.within) in
          let full : is_power_of_two taken ≡ true = power_told taken (subst IsPowerOfTwo same has.power) in
          absurd (cc))
    ]
