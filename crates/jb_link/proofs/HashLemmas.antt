-- Ids with their hashes: how they stand to one another.
use Rattle.std.proofs.Common.{◌≡◌, ℕ, List, refl, sym}
use Rattle.std.specs.Ordering.{nat_cmp, ordering_then}
use Rattle.std.specs.declared.cmp.Ordering.{Ordering}
use Rattle.std.specs.declared.cmp.Ordering.TheVariants.{Less, Equal, Greater}
use Rattle.jb_link.specs.Ids.{hash_of}
use Rattle.jb_link.specs.Order.{hashed_order, id_order}

-- an order, then another, then a third
thens : (one other third : Ordering) → ordering_then (ordering_then one other) third ≡ ordering_then one (ordering_then other third)
thens Less other third = refl
thens Equal other third = refl
thens Greater other third = refl

-- ids with their own hashes stand as they do without
pub by_own_hashes : (one other : List ℕ × ℕ) → hashed_order (hash_of one.0, one) (hash_of other.0, other) ≡ id_order one other
by_own_hashes one other = sym (thens _ _ (nat_cmp one.1 other.1))
