use Rattle.std.proofs.Common.{◌≡◌, ◌<◌, inl, inr, get_or, nat_lt, arith, rules}
use Rattle.std.proofs.lemmas.Bool.{cases_lt, lt-ltb, ltb-false, ltb-true}
use Rattle.std.proofs.lemmas.List.Sorted.{IsPartitionPoint-from_clause}
use Rattle.std.specs.List.Sorted.{IsPartitionedBy}
use Rattle.jb_state.specs.declared.summary.Summary.{Summary}
use Rattle.jb_index.proofs.listing.place_of.Goals as goal

pub returns : goal.returns
returns c =
    let below = λ (one : Summary). nat_lt one.number c.args.number in
    let parted : IsPartitionedBy below c.args.summaries.now.items =
    λ i j d upto within passes. elim (cases_lt i j) [
      | inl before ↦
          let rises : (get_or c.args.summaries.now.items i d).number < (get_or c.args.summaries.now.items j d).number = c.requires i j d before within in
          let low : (get_or c.args.summaries.now.items j d).number < c.args.number = ltb-true _ _ passes in
          lt-ltb _ _ (omega arith)
      | inr back ↦ (let same : i ≡ j = omega arith in rw same passes)
    ] in
    let parts = IsPartitionPoint-from_clause below c.args.summaries.now.items c.partition_point.result c.partition_point.ensures.partitioned parted (λ a r f called. search rules) in
    record {
      within = c.partition_point.ensures.bound;
      lower = λ k d low. ltb-true _ _ (parts.0 k d (omega arith) low);
      rest = λ k d from within. ltb-false _ _ (parts.1 k d from within);
    }
