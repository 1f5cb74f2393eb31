use Rattle.std.proofs.Common.{Option, subst}
use Rattle.jb_publish.specs.Accounts.{IsFresh}
use Rattle.jb_publish.specs.declared.known.PairMark.{PairMark}
use Rattle.jb_shared.specs.declared.opening.Opening.{Opening}
use Rattle.jb_shared.proofs.MakingLemmas.{kept_new}
use Rattle.jb_shared.proofs.shared.SharedArea.new.Goals as goal

pub turn_with-requires-clause-kept : goal.turn_with-requires-clause-kept
turn_with-requires-clause-kept g c =
    let made = c.in-Ok-ends.ensures in
    (kept_new g.D.Disk.device (record { area = c.args.area; shower = c.in-Ok-ends.shower; doubted = c.none.result }) c.in-Ok-indexes.first c.requires.rest c.in-Ok-indexes.ensures.first made.list made.queued made.value made.opening).0

pub turn_with-requires-clause-fresh : goal.turn_with-requires-clause-fresh
turn_with-requires-clause-fresh g c =
    let made = c.in-Ok-ends.ensures in
    let kept = kept_new g.D.Disk.device (record { area = c.args.area; shower = c.in-Ok-ends.shower; doubted = c.none.result }) c.in-Ok-indexes.first c.requires.rest c.in-Ok-indexes.ensures.first made.list made.queued made.value made.opening in
    λ k reader at. subst (λ (m : Option (PairMark Opening)). IsFresh m reader) kept.2 (made.fresh k reader at)
