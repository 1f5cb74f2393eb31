use Rattle.std.proofs.Common.{inl, inr, subst, ◌≡◌, ◌+◌, ◌<◌, ℕ, AllPairs, take, length, arith, List}
use Rattle.std.proofs.lemmas.List.{take_all}
use Rattle.std.proofs.lemmas.Bool.{cases_lt}
use Rattle.jb_image.specs.declared.extent.Extent.{Extent}
use Rattle.jb_image.specs.Extents.{AreDisjoint}
use Rattle.jb_image.proofs.overlapping.lowest_other.Goals as goal

-- of no extents all pairs are disjoint
some_extents : (xs : List Extent) → (AllPairs AreDisjoint xs → ⊥) → 0 < length xs
some_extents xs shared = elim (cases_lt 0 (length xs)) [
  | inl some ↦ some
  | inr none ↦ absurd (shared (λ i j d below low. absurd (omega arith)))
]

pub loop-shared-init : goal.loop-shared-init
loop-shared-init c = record {
  ordered = some_extents c.args.extents.now c.requires;
  within = omega arith;
  below = λ i j d below low. absurd (omega arith);
  above = λ pairs. c.requires (subst (AllPairs AreDisjoint) (take_all (length c.args.extents.now) c.args.extents.now (omega arith)) pairs);
}

pub returns : goal.returns
returns c =
    let loop = c.loop-shared in
    let next : loop.shared ≡ loop.disjoint + 1 = omega (arith, c.loop-shared-test.false, loop.invariant.ordered) in
    record {
      placed = omega (arith, loop.invariant.ordered, loop.invariant.within);
      before = loop.invariant.below;
      with_it = subst (λ (n : ℕ). AllPairs AreDisjoint (take n c.args.extents.now) → ⊥) next loop.invariant.above;
    }
