use Rattle.std.proofs.Common.{◌≡◌, ℕ, List, get_or, sym, ◌∙◌, ap, rules, arith}
use Rattle.std.proofs.lemmas.List.Sorted.{IsPartitionPoint-from_clause}
use Rattle.std.specs.Ordering.{is_lt}
use Rattle.jb_link.specs.IdLists.{hash_at, id_place}
use Rattle.jb_link.specs.Order.{IsRising, hashed_order, id_order}
use Rattle.jb_link.proofs.HashLemmas.{by_own_hashes}
use Rattle.jb_link.proofs.OrderLemmas.{hashed_order_total}
use Rattle.jb_link.proofs.RisingLemmas.{cut_in_two, lt_from}
use Rattle.jb_link.proofs.id_lists.place_of.Goals as goal

pub returns : goal.returns
returns c =
    let place : ℕ → List ℕ × ℕ = id_place c.args.kind c.args.loaded.now in
    let key : ℕ → ℕ × (List ℕ × ℕ) = λ one. (hash_at c.args.kind c.args.loaded.now one, place one) in
    let asked : ℕ × (List ℕ × ℕ) = (c.hash_of-hash.result, (c.args.id.now, c.args.number)) in
    let same : (one : ℕ) → hashed_order (key one) asked ≡ id_order (place one) (c.args.id.now, c.args.number)
    = λ one. ap (λ hash. hashed_order (key one) (hash, (c.args.id.now, c.args.number))) c.hash_of-hash.ensures ∙ by_own_hashes (place one) (c.args.id.now, c.args.number) in
    let rising : IsRising hashed_order key c.args.numbers.now.items =
    λ i j d before within. by_own_hashes (place (get_or c.args.numbers.now.items i d)) (place (get_or c.args.numbers.now.items j d)) ∙ c.requires i j d before within in
    let parts = IsPartitionPoint-from_clause (λ one. is_lt (hashed_order (key one) asked)) c.args.numbers.now.items c.partition_point.result
    c.partition_point.ensures.partitioned
    (cut_in_two hashed_order_total key c.args.numbers.now.items asked rising) (λ a r f called. search rules) in
    record {
      within = c.partition_point.ensures.bound;
      lower = λ k d below. sym (same (get_or c.args.numbers.now.items k d)) ∙ lt_from _ (parts.0 k d (omega arith) below);
      rest = λ k d from below. sym (ap is_lt (same (get_or c.args.numbers.now.items k d))) ∙ parts.1 k d from below;
    }
