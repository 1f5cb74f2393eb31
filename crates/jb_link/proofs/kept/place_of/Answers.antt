use Rattle.std.proofs.Common.{rules, arith, ℕ}
use Rattle.std.proofs.lemmas.List.Sorted.{IsPartitionPoint-from_clause}
use Rattle.std.specs.Ordering.{is_lt}
use Rattle.jb_link.specs.Order.{pair_order}
use Rattle.jb_link.proofs.OrderLemmas.{pair_order_total}
use Rattle.jb_link.proofs.RisingLemmas.{cut_in_two, lt_from}
use Rattle.jb_link.proofs.kept.place_of.Goals as goal

pub returns : goal.returns
returns c =
    let key = λ (pair : ℕ × ℕ). pair in
    let parts = IsPartitionPoint-from_clause (λ one. is_lt (pair_order (key one) c.args.asked)) c.args.pairs.now.items c.partition_point.result
    c.partition_point.ensures.partitioned
    (cut_in_two pair_order_total key c.args.pairs.now.items c.args.asked c.requires) (λ a r f called. search rules) in
    record {
      within = c.partition_point.ensures.bound;
      lower = λ k d below. lt_from _ (parts.0 k d (omega arith) below);
      rest = λ k d from below. parts.1 k d from below;
    }
