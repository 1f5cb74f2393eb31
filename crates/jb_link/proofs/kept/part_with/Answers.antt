use Rattle.std.proofs.Common.{ℕ, arith}
use Rattle.std.proofs.lemmas.Cmp.{nat_cmp_total}
use Rattle.jb_link.proofs.OrderLemmas.{same_numbers}
use Rattle.jb_link.proofs.SearchLemmas.{part_among}
use Rattle.jb_link.proofs.kept.part_with.Goals as goal

pub returns : goal.returns
returns c =
    part_among nat_cmp_total same_numbers (λ (pair : ℕ × ℕ). pair) c.args.pairs.now.items c.args.kept 0 4294967295 _ _ (omega arith)
    c.place_of-start.ensures c.place_of-end.ensures
