use Rattle.std.proofs.Common.{[], ◌∷◌}
use Rattle.jb_disk.specs.declared.file.FileId.TheVariants.{Jnl}
use Rattle.jb_disk.specs.Files.{written}
use Rattle.jb_disk.proofs.RunLemmas.{keeps-then, keeps-write, keeps-sync}
use Rattle.jb_journal.specs.Stages.{IsAtGate}
use Rattle.jb_journal.proofs.ComingLemmas.{come_then, come_wrote, come_synced}
use Rattle.jb_journal.proofs.Touching.{gate_torn}
use Rattle.jb_journal.proofs.OpeningLemmas.{where_told, widens_torn, widens_for_err, widens_synced}
use Rattle.jb_journal.proofs.Told.{durable_at, on_ok}
use Rattle.jb_journal.proofs.gate.set_gate.Goals as goal

pub returns-in_err-write_at-clause-keeps : goal.returns-in_err-write_at-clause-keeps
returns-in_err-write_at-clause-keeps g c = λ base. keeps-write (IsAtGate base) Jnl 0 (c.args.gate ∷ []) _ _ _ (g.met.D.Disk.told c.write_at.new.self) c.write_at.ensures.changed c.write_at.ensures.ok c.write_at.ensures.cause
    (λ before after was step. gate_torn base before after was step)

pub returns-clause-durable : goal.returns-clause-durable
returns-clause-durable g c = on_ok c.sync.result _ _ (λ done. durable_at Jnl (written Jnl 0 (c.args.gate ∷ [])) _ (g.D.Disk.device c.write_at.new.self) (g.D.Disk.device c.sync.new.self) c.in_ok-write_at.ensures.ok done) c.sync.ensures.changed.done

pub returns-clause-keeps : goal.returns-clause-keeps
returns-clause-keeps g c = λ base. keeps-then (IsAtGate base) _ _ _
    (keeps-write (IsAtGate base) Jnl 0 (c.args.gate ∷ []) _ _ _ (g.met.D.Disk.told c.write_at.new.self) c.write_at.ensures.changed c.write_at.ensures.ok c.write_at.ensures.cause
    (λ before after was step. gate_torn base before after was step))
    (keeps-sync (IsAtGate base) Jnl _ _ _ (g.met.D.Disk.told c.write_at.new.self) (g.met.D.Disk.told c.sync.new.self) c.sync.ensures.changed)

pub returns-in_err-write_at-clause-wide : goal.returns-in_err-write_at-clause-wide
returns-in_err-write_at-clause-wide g c = where_told _ _ (λ now earlier is. widens_for_err c.from_residual.result _ _ c.from_residual.ensures.0 (widens_torn Jnl 0 1 _ _ c.write_at.ensures.changed.moments))

pub returns-clause-wide : goal.returns-clause-wide
returns-clause-wide g c = where_told _ _ (λ now earlier is. widens_synced Jnl 0 1 (g.D.Disk.device c.args.disk.now) (g.D.Disk.device c.write_at.new.self) (g.D.Disk.device c.sync.new.self) c.sync.result now earlier is
    (g.met.D.Disk.told c.write_at.new.self) c.in_ok-write_at.ensures.crash c.sync.ensures.changed)

pub returns-clause-come : goal.returns-clause-come
returns-clause-come g c = on_ok c.sync.result _ _ (come_then [] [] [] (Jnl ∷ []) _ _ _ (come_wrote Jnl 0 1 _ _ c.in_ok-write_at.ensures.crash))
    (come_synced Jnl (g.D.Disk.device c.write_at.new.self) (g.D.Disk.device c.sync.new.self) c.sync.result (g.met.D.Disk.told c.write_at.new.self) (g.met.D.Disk.told c.sync.new.self) c.sync.ensures.changed)
