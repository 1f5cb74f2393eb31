use Rattle.std.proofs.Common.{◌*◌, arith, ltb, rules}
use Rattle.std.proofs.lemmas.Bool.{ltb-true, ltb-false}
use Rattle.std.proofs.lemmas.List.Sorted.{IsPartitionPoint-from_clause, IsPartitionedBy-ltb}
use Rattle.jb_marks.specs.Order.{pair_number, place_number}
use Rattle.jb_marks.proofs.order.count_before.Goals as goal

pub returns : goal.returns
returns c =
    let least = pair_number c.args.user_crc c.args.user_id * 4294967296 in
    let parts = IsPartitionPoint-from_clause (λ place. ltb (place_number c.args.items.now place) least) c.args.order.now c.partition_point.result c.partition_point.ensures.partitioned
    (IsPartitionedBy-ltb (place_number c.args.items.now) c.args.order.now least c.requires.rising) (λ a r f called. search rules) in
    record {
      within = c.partition_point.ensures.bound;
      lower = λ k d below. ltb-true _ _ (parts.0 k d (omega arith) below);
      higher = λ k d from below. ltb-false _ _ (parts.1 k d from below);
    }
