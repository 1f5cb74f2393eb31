use Rattle.std.proofs.Common.{◌≡◌, take}
use Rattle.jb_state.specs.Linked.{with_links_of}
use Rattle.jb_held.proofs.applying.set_plan.Given as goal

abbrev pub invariant-loop-links : goal.invariant-loop-links
invariant-loop-links l = l.loaded ≡ with_links_of (take l.links-index l.plan) l.initial.loaded
