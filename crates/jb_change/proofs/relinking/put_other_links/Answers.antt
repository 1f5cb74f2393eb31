use Rattle.std.proofs.Common.{[], ◌∙◌, arith, subst, sym}
use Rattle.jb_change.specs.Headers.{Updates}
use Rattle.jb_state.specs.declared.loaded.Loaded.{Loaded}
use Rattle.jb_change.proofs.PlanLemmas.{links_there}
use Rattle.jb_change.proofs.relinking.put_other_links.Goals as goal

pub returns-else-is_changed-clause-makes : goal.returns-else-is_changed-clause-makes
returns-else-is_changed-clause-makes c = λ before left made.
    subst (λ (l : Loaded). Updates c.args.redo.now c.args.loaded.now l [])
    (links_there c.args.loaded.now before c.args.links.now (left c.args.links.now.number (omega (arith, c.if-links-last.false))) (sym c.is_changed.ensures ∙ c.if-is_changed.false)) made
