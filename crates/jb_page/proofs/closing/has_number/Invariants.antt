use Rattle.std.proofs.Common.{◌≡◌, ℕ, ◌<◌}
use mathlib.Core.Option.{some}
use lib.ListN.{get_elem?}
use Rattle.jb_page.specs.Pagers.{PagerView}
use Rattle.jb_page.proofs.closing.has_number.Given as goal

abbrev pub invariant-loop-pager : goal.invariant-loop-pager
invariant-loop-pager l = (k : ℕ) (s : PagerView) → k < l.pager-index → get_elem? l.pagers k ≡ some s → s.number ≡ l.number → ⊥
