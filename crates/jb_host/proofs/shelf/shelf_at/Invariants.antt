use Rattle.std.proofs.Common.{◌≡◌, ◌<◌, ℕ, false}
use Rattle.std.specs.Prelude.{slice_index_or}
use Rattle.jb_host.specs.declared.shelf.Shelf.{Shelf}
use Rattle.jb_host.specs.Shelves.{is_for}
use Rattle.jb_host.proofs.shelf.shelf_at.Given as goal

abbrev pub invariant-loop-k : goal.invariant-loop-k
invariant-loop-k l = (j : ℕ) (d : Shelf) → j < l.k → is_for l.dir l.name (slice_index_or l.shelves j d) ≡ false
