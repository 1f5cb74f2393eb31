use Rattle.std.proofs.Common.{◌∙◌, ap, ℕ}
use Rattle.std.specs.Prelude.{nat_eq}
use Rattle.jb_tool.proofs.CountLemmas.{zero_is}
use Rattle.jb_tool.proofs.checking.is_linked.Goals as goal

pub changed-requires-clause-plan : goal.changed-requires-clause-plan
changed-requires-clause-plan c = λ texts. c.as_slice.ensures ∙ c.in_ok-plan.ensures texts

pub returns : goal.returns
returns c = λ texts.
    let linked = c.changed.ensures.linked texts in
    (λ is. linked.0 (zero_is c.changed.result is), λ is. ap (λ (n : ℕ). nat_eq n 0) (linked.1 is))
