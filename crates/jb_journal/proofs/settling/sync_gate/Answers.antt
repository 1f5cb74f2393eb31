use Rattle.std.proofs.Common.{◌≡◌, inl, inr, sym, ◌∙◌, subst}
use Rattle.jb_disk.specs.declared.file.FileId.TheVariants.{Jnl}
use Rattle.jb_disk.specs.Runs.{LeavesNow}
use Rattle.jb_disk.proofs.RunLemmas.{keeps-then, keeps-reads, keeps-sync, durable}
use Rattle.jb_journal.specs.Doubt.{IsInDoubt}
use Rattle.jb_journal.proofs.Told.{on_ok_always}
use Rattle.jb_journal.proofs.settling.sync_gate.Goals as goal

pub returns-in_err-sync-clause-keeps : goal.returns-in_err-sync-clause-keeps
returns-in_err-sync-clause-keeps g c = λ stopped number change start. keeps-sync (IsInDoubt stopped number change start) Jnl _ _ _ (g.met.D.Disk.told c.args.disk.now) (g.met.D.Disk.told c.sync.new.self) c.sync.ensures.changed

pub returns-clause-keeps : goal.returns-clause-keeps
returns-clause-keeps g c = λ stopped number change start. keeps-then (IsInDoubt stopped number change start) _ _ _
    (keeps-sync (IsInDoubt stopped number change start) Jnl _ _ _ (g.met.D.Disk.told c.args.disk.now) (g.met.D.Disk.told c.sync.new.self) c.sync.ensures.changed)
    (keeps-reads (IsInDoubt stopped number change start) _ _ c.is_gate_open.ensures.kept)

pub returns-clause-durable : goal.returns-clause-durable
returns-clause-durable g c = on_ok_always c.is_gate_open.result _ (λ files there.
    subst (LeavesNow (λ left. left Jnl ≡ files Jnl)) (sym c.is_gate_open.ensures.kept.moments)
    (durable Jnl files (g.D.Disk.device c.args.disk.now) (g.D.Disk.device c.sync.new.self) there c.in_ok-sync.ensures.changed.done))

pub returns-in_err-sync-clause-asks : goal.returns-in_err-sync-clause-asks
returns-in_err-sync-clause-asks g c = λ files there. inl c.in_err-sync.ensures.changed.failed

pub returns-clause-asks : goal.returns-clause-asks
returns-clause-asks g c = λ files there. inr (c.is_gate_open.ensures.kept.moments ∙ c.in_ok-sync.ensures.changed.done files there)
