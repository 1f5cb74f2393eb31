use Rattle.std.proofs.Common.{inl, inr, arith}
use Rattle.std.proofs.lemmas.Bool.{cases_lt}
use Rattle.std.proofs.lemmas.List.{places}
use Rattle.jb_disk.proofs.trace.mar.Goals as goal

pub returns-clause-outside : goal.returns-clause-outside
returns-clause-outside c = λ i apart. elim (cases_lt i c.min-from.result) [
  | inl under ↦ grind (arith, places)
  | inr over ↦ elim (cases_lt i c.min-to.result) [
    | inl inside ↦ absurd (apart (omega arith) (omega arith))
    | inr past ↦ grind (arith, places)
  ]
]
