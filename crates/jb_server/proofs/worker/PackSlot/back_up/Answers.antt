use Rattle.std.proofs.Common.{◌-◌, sym, ◌∙◌, arith}
use Rattle.jb_server.proofs.DueLemmas.{backs_once}
use Rattle.jb_server.proofs.worker.PackSlot.back_up.Goals as goal

-- the pass and the target that were lent are written back, and what came of the backup stands at its place
pub returns-clause-backs : goal.returns-clause-backs
returns-clause-backs g c =
    let slot = c.args.self.now in
    let came = c.back_up_onto-came in
    backs_once g.E.Disk.device (g.C.Clock.readings slot.clock) slot.passes.items slot.targets.items slot.backups.items c.args.number (c.args.number - 1)
    c.index_mut.result.now _ came.new.pass c.index_mut-2.result.now came.new.target came.result
    (omega (arith, c.requires.some)) (omega (arith, c.requires.some, c.requires.within, c.requires.ours.count))
    (sym c.is_due.ensures ∙ c.if-not-is_due.false) c.index_mut.ensures.value c.index_mut-2.ensures.value came.ensures.backs
