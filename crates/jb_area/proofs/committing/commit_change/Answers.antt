use Rattle.std.proofs.Common.{arith}
use Rattle.jb_disk.proofs.RunLemmas.{stays_silent}
use Rattle.jb_area.proofs.CommitLemmas.{ready_as, done_as, made_as, recorded_as, stopped_as, shut_as, crash_as}
use Rattle.jb_area.proofs.Outcomes.{if_err_then, on_ok_then, on_ok_then2}
use Rattle.jb_area.proofs.committing.commit_change.Goals as goal

pub commit-requires-clause-ready : goal.commit-requires-clause-ready
commit-requires-clause-ready g c =
    let may = c.requires.may in
    ready_as c.args.number c.args.redo.now may.from may.texts may.copies may.coming (g.D.Disk.device c.args.disk.now) (omega arith) may.settled may.change

pub returns-clause-done : goal.returns-clause-done
returns-clause-done g c = on_ok_then2 c.commit.result _ _ _ c.commit.ensures.settled c.commit.ensures.durable (λ done durable from texts copies coming settled is.
    done_as c.args.redo.now (g.D.Disk.device c.args.disk.now) (g.D.Disk.device c.commit.new.disk) from texts copies coming (stays_silent _ _ c.commit.ensures.alike) done durable settled is)

pub returns-clause-made : goal.returns-clause-made
returns-clause-made g c = on_ok_then c.commit.result _ _ c.commit.ensures.settled (λ done.
    made_as c.args.redo.now (g.D.Disk.device c.args.disk.now) (g.D.Disk.device c.commit.new.disk) done)

pub returns-clause-recorded : goal.returns-clause-recorded
returns-clause-recorded g c = on_ok_then c.commit.result _ _ c.commit.ensures.done (λ done.
    let may = c.requires.may in
    recorded_as c.args.number c.args.redo.now (g.D.Disk.device c.args.disk.now) (g.D.Disk.device c.commit.new.disk) may.from may.texts may.copies done may.settled)

pub returns-clause-doubt : goal.returns-clause-doubt
returns-clause-doubt g c = if_err_then c.commit.result _ _ c.commit.ensures.in_doubt (λ stopped doubt from texts copies coming settled is.
    stopped_as c.args.number c.args.redo.now stopped (g.D.Disk.device c.args.disk.now) (g.D.Disk.device c.commit.new.disk) from texts copies (omega arith) (stays_silent _ _ c.commit.ensures.alike) doubt settled)

pub returns-clause-early : goal.returns-clause-early
returns-clause-early g c = shut_as c.args.redo.now c.commit.result (g.D.Disk.device c.args.disk.now) (g.D.Disk.device c.commit.new.disk) c.commit.ensures.opening

pub returns-clause-crash : goal.returns-clause-crash
returns-clause-crash g c = λ from texts copies coming settled is was there.
    crash_as c.args.redo.now (g.D.Disk.device c.args.disk.now) (g.D.Disk.device c.commit.new.disk) from texts copies coming was (settled.settled.rests was there) (settled.has was there) (is.brings was there) (c.commit.ensures.crash was there)
