use Rattle.std.proofs.Common.{[], ◌∷◌}
use Rattle.jb_disk.proofs.RunLemmas.{runs-then, runs-weaken}
use Rattle.jb_journal.specs.Commit.{IsBeforeOrAfter}
use Rattle.jb_journal.specs.Doubt.{IsEarly}
use Rattle.jb_journal.specs.Stages.{KeepsHead, IsAtGate, with_record}
use Rattle.jb_disk.specs.declared.file.FileId.TheVariants.{Jnl}
use Rattle.jb_journal.specs.Coming.{journal_length}
use Rattle.jb_journal.proofs.ComingLemmas.{come_then}
use Rattle.jb_journal.proofs.Told.{on_ok, on_ok_both}
use Rattle.jb_journal.proofs.SyncLemmas.{shows_map}
use Rattle.jb_journal.proofs.ReadyLemmas.{untouched_early, at_gate_early}
use Rattle.jb_journal.proofs.RecordAndOpen.{shows_start, early_before_or_after, staging_run, staging_shut, staged_shows, opened_shows, gate_opens}
use Rattle.jb_journal.proofs.committing.record_and_open.Goals as goal

pub returns-in_err-write_record-clause-early : goal.returns-in_err-write_record-clause-early
returns-in_err-write_record-clause-early g c = λ start there.
    let redo = c.args.redo.now in
    let ready = c.requires.ready start there in
    shows_map (KeepsHead start) (IsEarly c.args.change redo start) _ (untouched_early c.args.change redo start ready) ((c.write_record.ensures.keeps start).shows (shows_start c.args.change redo start ready _ there c.requires.synced))

pub returns-in_err-write_record-clause-run : goal.returns-in_err-write_record-clause-run
returns-in_err-write_record-clause-run g c = λ start there.
    let redo = c.args.redo.now in
    let ready = c.requires.ready start there in
    staging_run c.args.change redo start ready (g.D.Disk.device c.args.disk.now) (g.D.Disk.device c.write_record.new.disk) ((c.write_record.ensures.keeps start).run (shows_start c.args.change redo start ready _ there c.requires.synced))

pub returns-in_err-write_record-clause-opening : goal.returns-in_err-write_record-clause-opening
returns-in_err-write_record-clause-opening g c = λ start there.
    let redo = c.args.redo.now in
    let ready = c.requires.ready start there in
    staging_shut c.args.change redo start ready c.from_residual.result (g.D.Disk.device c.args.disk.now) (g.D.Disk.device c.write_record.new.disk) c.from_residual.ensures.0
    ((c.write_record.ensures.keeps start).run (shows_start c.args.change redo start ready _ there c.requires.synced)) (g.met.D.Disk.told c.write_record.new.disk)

pub returns-clause-early : goal.returns-clause-early
returns-clause-early g c = λ start there.
    let redo = c.args.redo.now in
    let ready = c.requires.ready start there in
    let untouched = (c.write_record.ensures.keeps start).shows (shows_start c.args.change redo start ready _ there c.requires.synced) in
    let at = staged_shows c.args.change redo start ready (g.D.Disk.device c.args.disk.now) (g.D.Disk.device c.write_record.new.disk) there c.in_ok-write_record.ensures.told untouched c.in_ok-write_record.ensures.durable in
    shows_map (IsAtGate (with_record c.args.change redo start)) (IsEarly c.args.change redo start) _ (at_gate_early c.args.change redo start ready) ((c.set_gate.ensures.keeps (with_record c.args.change redo start)).shows at)

pub returns-clause-run : goal.returns-clause-run
returns-clause-run g c = λ start there.
    let redo = c.args.redo.now in
    let ready = c.requires.ready start there in
    let first = shows_start c.args.change redo start ready _ there c.requires.synced in
    let untouched = (c.write_record.ensures.keeps start).shows first in
    let at = staged_shows c.args.change redo start ready (g.D.Disk.device c.args.disk.now) (g.D.Disk.device c.write_record.new.disk) there c.in_ok-write_record.ensures.told untouched c.in_ok-write_record.ensures.durable in
    runs-then (IsBeforeOrAfter redo start) _ _ _
    (staging_run c.args.change redo start ready (g.D.Disk.device c.args.disk.now) (g.D.Disk.device c.write_record.new.disk) ((c.write_record.ensures.keeps start).run first))
    (runs-weaken (IsAtGate (with_record c.args.change redo start)) (IsBeforeOrAfter redo start) (λ files is. early_before_or_after c.args.change redo start ready files (at_gate_early c.args.change redo start ready files is)) _ _ ((c.set_gate.ensures.keeps (with_record c.args.change redo start)).run at))

pub returns-clause-going : goal.returns-clause-going
returns-clause-going g c = on_ok_both c.set_gate.result _ _ _ (λ told durable. λ start there.
    let redo = c.args.redo.now in
    let ready = c.requires.ready start there in
    let untouched = (c.write_record.ensures.keeps start).shows (shows_start c.args.change redo start ready _ there c.requires.synced) in
    let at = staged_shows c.args.change redo start ready (g.D.Disk.device c.args.disk.now) (g.D.Disk.device c.write_record.new.disk) there c.in_ok-write_record.ensures.told untouched c.in_ok-write_record.ensures.durable in
    opened_shows c.args.change redo start ready (g.D.Disk.device c.args.disk.now) (g.D.Disk.device c.write_record.new.disk) (g.D.Disk.device c.set_gate.new.disk) there c.in_ok-write_record.ensures.told told ((c.set_gate.ensures.keeps (with_record c.args.change redo start)).shows at) durable)
    c.set_gate.ensures.told c.set_gate.ensures.durable

pub returns-clause-opening : goal.returns-clause-opening
returns-clause-opening g c = λ start there.
    let redo = c.args.redo.now in
    let ready = c.requires.ready start there in
    let first = shows_start c.args.change redo start ready _ there c.requires.synced in
    let untouched = (c.write_record.ensures.keeps start).shows first in
    let at = staged_shows c.args.change redo start ready (g.D.Disk.device c.args.disk.now) (g.D.Disk.device c.write_record.new.disk) there c.in_ok-write_record.ensures.told untouched c.in_ok-write_record.ensures.durable in
    gate_opens c.args.change redo start ready c.set_gate.result (g.D.Disk.device c.args.disk.now) (g.D.Disk.device c.write_record.new.disk) (g.D.Disk.device c.set_gate.new.disk) ((c.write_record.ensures.keeps start).run first) untouched (g.met.D.Disk.told c.write_record.new.disk) c.set_gate.ensures.wide
    (on_ok_both c.set_gate.result _ _ _ (λ told durable. opened_shows c.args.change redo start ready (g.D.Disk.device c.args.disk.now) (g.D.Disk.device c.write_record.new.disk) (g.D.Disk.device c.set_gate.new.disk) there c.in_ok-write_record.ensures.told told ((c.set_gate.ensures.keeps (with_record c.args.change redo start)).shows at) durable)
    c.set_gate.ensures.told c.set_gate.ensures.durable)

pub returns-clause-come : goal.returns-clause-come
returns-clause-come g c = on_ok c.set_gate.result _ _ (come_then (journal_length c.args.redo.now ∷ []) [] (Jnl ∷ []) (Jnl ∷ []) _ _ _ c.in_ok-write_record.ensures.come) c.set_gate.ensures.come
