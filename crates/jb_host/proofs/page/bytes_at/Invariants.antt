use Rattle.std.proofs.Common.{◌≡◌, ◌<◌, ℕ, false}
use Rattle.std.specs.Prelude.{bytes_eq, slice_index_or}
use Rattle.jb_host.specs.declared.page.Page.{Page}
use Rattle.jb_host.proofs.page.bytes_at.Given as goal

abbrev pub invariant-loop-k : goal.invariant-loop-k
invariant-loop-k l = (j : ℕ) (d : Page) → j < l.k → bytes_eq l.path (slice_index_or l.pages j d).path ≡ false
