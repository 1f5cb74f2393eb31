use Rattle.std.proofs.Common.{◌-◌, refl, arith}
use Rattle.jb_server.proofs.RingRuns.{on_pass}
use Rattle.jb_server.proofs.worker.PackSlot.pack.Goals as goal

-- the pass that was lent is written back, and the clock has moved on
pub returns-clause-packs_area : goal.returns-clause-packs_area
returns-clause-packs_area g c = record {
  asks = on_pass _ c.args.number (c.args.number - 1) c.args.self.now.passes.items c.index_mut.result.now _ c.ask_pack-came.new.pass
      (omega (arith, c.requires.some)) (omega (arith, c.requires.some, c.requires.within, c.requires.ours.count)) c.index_mut.ensures.value c.ask_pack-came.ensures.asks;
  clock = c.ask_pack-came.ensures.clock;
  targets = refl;
  backups = refl;
}
