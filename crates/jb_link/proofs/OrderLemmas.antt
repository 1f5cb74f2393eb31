-- The orders of ids, of ids with numbers and of pairs of numbers are total, and equal keys are one.
use Rattle.std.proofs.Common.{◌≡◌, ℕ, List}
use Rattle.std.specs.Cmp.{IsTotalOrder}
use Rattle.std.specs.Cmp.Lexicographic.{slice_cmp, nat_list_cmp_total}
use Rattle.std.specs.declared.cmp.Ordering.{Ordering}
use Rattle.std.specs.declared.cmp.Ordering.TheVariants.{Less, Equal, Greater}
use Rattle.std.specs.FinMap.{nat_cmp-IsAntisymmetric, slice_cmp-IsAntisymmetric}
use Rattle.std.specs.Ordering.{nat_cmp, ordering_then}
use Rattle.std.proofs.lemmas.Cmp.{nat_cmp_total, on_total, then_total}
use Rattle.jb_link.specs.Ids.{hash_of}
use Rattle.jb_link.specs.Order.{bytes_order, hash_order, hashed_order, id_order, key_order, pair_order}

-- the orders are total
pub hash_order_total : IsTotalOrder hash_order
hash_order_total = then_total (on_total hash_of nat_cmp_total) nat_list_cmp_total

pub id_order_total : IsTotalOrder id_order
id_order_total = then_total (on_total (λ (one : List ℕ × ℕ). one.0) hash_order_total) (on_total (λ (one : List ℕ × ℕ). one.1) nat_cmp_total)

pub bytes_order_total : IsTotalOrder bytes_order
bytes_order_total = then_total (on_total (λ (one : List ℕ × ℕ). one.0) nat_list_cmp_total) (on_total (λ (one : List ℕ × ℕ). one.1) nat_cmp_total)

pub hashed_order_total : IsTotalOrder hashed_order
hashed_order_total = then_total (on_total (λ (one : ℕ × (List ℕ × ℕ)). one.0) nat_cmp_total) (on_total (λ (one : ℕ × (List ℕ × ℕ)). one.1) bytes_order_total)

pub key_order_total : IsTotalOrder key_order
key_order_total = then_total (on_total (λ (one : ℕ × (List ℕ × ℕ)). one.0) nat_cmp_total) (on_total (λ (one : ℕ × (List ℕ × ℕ)). one.1) id_order_total)

pub pair_order_total : IsTotalOrder pair_order
pair_order_total = then_total (on_total (λ (one : ℕ × ℕ). one.0) nat_cmp_total) (on_total (λ (one : ℕ × ℕ). one.1) nat_cmp_total)

-- ids that stand alike have the same bytes
pub same_ids : (a b : List ℕ) → hash_order a b ≡ Equal → a ≡ b
same_ids a b h = by (nat_cmp (hash_of a) (hash_of b)) h
  where
    by : (r : Ordering) → ordering_then r (slice_cmp nat_cmp a b) ≡ Equal → a ≡ b
    by Less e = cc
    by Equal e = slice_cmp-IsAntisymmetric nat_cmp-IsAntisymmetric a b e
    by Greater e = cc

-- numbers that stand alike are one
pub same_numbers : (a b : ℕ) → nat_cmp a b ≡ Equal → a ≡ b
same_numbers a b e = nat_cmp-IsAntisymmetric a b e
