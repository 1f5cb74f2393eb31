use Rattle.std.proofs.Common.{ap, sym, subst, take}
use Rattle.jb_disk.specs.declared.disk.DiskFailed.{DiskFailed}
use Rattle.jb_journal.specs.Pending.{Pending, Flushes, StandsInFile, drained}
use Rattle.jb_journal.proofs.GatherLemmas.{flushed_none, flushed}
use Rattle.jb_journal.proofs.gathering.Gathering.flush.Goals as goal

pub returns-then-count-eq0 : goal.returns-then-count-eq0
returns-then-count-eq0 g c =
    let old = g.D.Disk.device c.args.disk.now in
    let view : Pending = record { file = c.self.inside.file; at = c.self.inside.at; bytes = take c.self.inside.filled c.self.inside.buffer } in
    subst (λ (p : Pending). Flushes {T = Unit {0}} {E = DiskFailed} p old (drained view) old _) c.self.view_is
    (flushed_none view old _ (ap (λ n. take n c.self.inside.buffer) c.if-count-eq0.true))

pub returns : goal.returns
returns g c =
    let old = g.D.Disk.device c.args.disk.now in
    let new = g.D.Disk.device c.write_at.new.self in
    let view : Pending = record { file = c.self.inside.file; at = c.self.inside.at; bytes = take c.self.inside.filled c.self.inside.buffer } in
    subst (λ (p : Pending). Flushes p old (drained view) new c.write_at.result) c.self.view_is
    (flushed view old new c.write_at.result (subst (λ (p : Pending). StandsInFile p old.contents) (sym c.self.view_is) c.requires) (g.met.D.Disk.told c.write_at.new.self)
    c.write_at.ensures.changed c.write_at.ensures.ok c.write_at.ensures.crash c.write_at.ensures.cause)
