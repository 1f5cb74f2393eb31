use Rattle.std.proofs.Common.{refl, arith}
use Rattle.std.proofs.lemmas.List.{drop_all}
use Rattle.jb_redo.specs.OnTheWay.{IsOnTheWay}
use Rattle.jb_disk.proofs.RunLemmas.{keeps-then}
use Rattle.jb_journal.proofs.Told.{fails_then, fails_as}
use Rattle.jb_journal.proofs.SettingLemmas.{setting_start, setting_on, setting_end, setting_come, keeps_set}
use Rattle.jb_journal.proofs.filing.set_lengths.Goals as goal

pub loop-entry-init : goal.loop-entry-init
loop-entry-init g c = setting_start _ c.args.lengths.now c.requires.rising

pub returns-in_err-set_len-clause-keeps : goal.returns-in_err-set_len-clause-keeps
returns-in_err-set_len-clause-keeps g c = λ pieces start. keeps-then (IsOnTheWay c.args.lengths.now pieces start) _ _ _ (c.loop-entry.invariant.keeps pieces start)
    (keeps_set c.args.lengths.now c.loop-entry.entry-index _ _ _ _ c.requires.rising c.loop-entry-test.true (g.met.D.Disk.told c.loop-entry.disk) (g.met.D.Disk.told c.set_len.new.self) c.set_len.ensures.changed pieces start)

pub returns-in_err-set_len-clause-cause : goal.returns-in_err-set_len-clause-cause
returns-in_err-set_len-clause-cause g c = fails_then _ _ _ _ c.loop-entry.invariant.counted c.loop-entry.invariant.alike (fails_as _ _ _ _ refl c.from_residual.ensures.0 c.in_err-set_len.ensures.cause)

pub loop-entry-preserved : goal.loop-entry-preserved
loop-entry-preserved g c = setting_on _ _ _ c.args.lengths.now c.loop-entry.entry-index _ _ c.loop-entry.invariant c.requires.rising c.loop-entry-test.true
    (g.met.D.Disk.told c.loop-entry.disk) (g.met.D.Disk.told c.set_len.new.self) c.in_ok-set_len.ensures.changed c.in_ok-set_len.ensures.crash c.in_ok-set_len.ensures.cause.kept c.set_len.ensures.cause.alike

pub returns-clause-told : goal.returns-clause-told
returns-clause-told g c = setting_end _ _ c.args.lengths.now _ c.loop-entry.invariant (drop_all c.loop-entry.entry-index c.args.lengths.now (omega arith))

pub returns-clause-come : goal.returns-clause-come
returns-clause-come g c = setting_come _ _ c.args.lengths.now _ c.loop-entry.invariant (drop_all c.loop-entry.entry-index c.args.lengths.now (omega arith))
