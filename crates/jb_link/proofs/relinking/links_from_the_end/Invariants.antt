use Rattle.jb_link.proofs.PlanLemmas.{IsMetFrom}
use Rattle.jb_link.proofs.relinking.links_from_the_end.Given as goal

abbrev pub invariant-loop-place : goal.invariant-loop-place
invariant-loop-place l = IsMetFrom l.base l.place l.slots l.firsts.items l.links.items
