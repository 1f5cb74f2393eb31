use Rattle.std.proofs.Common.{◌≡◌, drop}
use Rattle.jb_index.specs.Edit.{absorbed}
use Rattle.jb_index.proofs.index.Index.absorb.Given as goal

abbrev pub invariant-loop-edit : goal.invariant-loop-edit
invariant-loop-edit l = absorbed l.self (drop l.edit-index l.edit-items) ≡ absorbed l.initial.self l.edit-items
