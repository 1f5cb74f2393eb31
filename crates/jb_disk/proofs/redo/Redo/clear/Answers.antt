use Rattle.std.proofs.Common.{arith, ap}
use Rattle.jb_disk.specs.RedoView.{RedoView, held_by}
use Rattle.jb_disk.proofs.KeptLemmas.{sizes}
use Rattle.jb_disk.proofs.redo.Redo.clear.Goals as goal

pub returns-clause-spare_bytes : goal.returns-clause-spare_bytes
returns-clause-spare_bytes c =
    let all = sizes c.self.inside.buffer.items c.self.inside.kept.items c.self.invariant.fits in
    let pieces = ap (λ (x : RedoView). held_by x.pieces) c.self.view_is in
    let spare = ap (λ (x : RedoView). x.spare_bytes) c.self.view_is in
    omega (arith, all, pieces, spare, c.self.invariant.total, c.clear-3.ensures.len, c.clear-3.ensures.capacity)
