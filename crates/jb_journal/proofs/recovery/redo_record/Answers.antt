use Rattle.std.proofs.Common.{◌≡◌, inl, inr, ◌∙◌, subst, Some}
use Rattle.jb_disk.specs.Runs.{Keeps, Shows}
use Rattle.jb_disk.proofs.RunLemmas.{runs-then, runs-weaken, keeps-then, stays_silent}
use Rattle.jb_redo.specs.OnTheWay.{IsOnTheWay}
use Rattle.jb_redo.specs.Replay.{Replays}
use Rattle.jb_redo.proofs.WayLemmas.{way_start, replays_to_applied}
use Rattle.jb_journal.specs.Commit.{ReplaysTo}
use Rattle.jb_redo.specs.Changes.{changed}
use Rattle.jb_journal.specs.Recover.{ReplaysAs}
use Rattle.jb_journal.specs.Stages.{closed}
use Rattle.jb_journal.proofs.WriteAndClose.{closing_run}
use Rattle.jb_journal.proofs.RecoverLemmas.{change_of, opened, way_as, change_as, done_open, shows_way, shows_now, one_told, told_there, told_now, silent_or_told, none_told, redone_told, redone_shut, redone_synced}
use Rattle.jb_journal.proofs.recovery.redo_record.Goals as goal

pub returns-in_err-apply_record-clause-run : goal.returns-in_err-apply_record-clause-run
returns-in_err-apply_record-clause-run g c = λ was there safe.
    let has = c.requires.record was there in
    let gate = c.requires.gate was there in
    let l = has.lengths in
    let p = has.pieces in
    let way = IsOnTheWay l p was in
    let d0 = g.D.Disk.device c.args.disk.now in
    let d1 = g.D.Disk.device c.apply_record.new.disk in
    let keeps1 : Keeps way d0 d1 = c.apply_record.ensures.images l p was was there has.is (way_start l p was) in
    let way0 = shows_way was l p has.is gate d0 there c.requires.synced in
    runs-weaken way (ReplaysAs was) (way_as was l p has.is gate safe) d0.moments d1.moments (keeps1.run way0)

pub returns-in_err-sync_base-clause-run : goal.returns-in_err-sync_base-clause-run
returns-in_err-sync_base-clause-run g c = λ was there safe.
    let has = c.requires.record was there in
    let gate = c.requires.gate was there in
    let l = has.lengths in
    let p = has.pieces in
    let way = IsOnTheWay l p was in
    let d0 = g.D.Disk.device c.args.disk.now in
    let d1 = g.D.Disk.device c.apply_record.new.disk in
    let keeps1 : Keeps way d0 d1 = c.apply_record.ensures.images l p was was there has.is (way_start l p was) in
    let way0 = shows_way was l p has.is gate d0 there c.requires.synced in
    let d2 = g.D.Disk.device c.sync_base.new.disk in
    let keeps2 : Keeps way d0 d2 = keeps-then way d0 d1 d2 keeps1 (c.sync_base.ensures.way l p was) in
    runs-weaken way (ReplaysAs was) (way_as was l p has.is gate safe) d0.moments d2.moments (keeps2.run way0)

pub returns-in_err-close_gate-clause-run : goal.returns-in_err-close_gate-clause-run
returns-in_err-close_gate-clause-run g c = λ was there safe.
    let has = c.requires.record was there in
    let gate = c.requires.gate was there in
    let l = has.lengths in
    let p = has.pieces in
    let way = IsOnTheWay l p was in
    let d0 = g.D.Disk.device c.args.disk.now in
    let d1 = g.D.Disk.device c.apply_record.new.disk in
    let keeps1 : Keeps way d0 d1 = c.apply_record.ensures.images l p was was there has.is (way_start l p was) in
    let way0 = shows_way was l p has.is gate d0 there c.requires.synced in
    let d2 = g.D.Disk.device c.sync_base.new.disk in
    let keeps2 : Keeps way d0 d2 = keeps-then way d0 d1 d2 keeps1 (c.sync_base.ensures.way l p was) in
    let change = change_of was l p has.is gate safe in
    let is = opened was l p has.is gate safe in
    let d3 = g.D.Disk.device c.close_gate.new.disk in
    let at1 : d1.contents ≡ Some (changed change was) = c.in_ok-apply_record.ensures.ok was there l p has.is (safe gate l p has.is) in
    let at2 : d2.contents ≡ Some (changed change was) = c.in_ok-sync_base.ensures.kept ∙ at1 in
    let done : Shows (λ files. files ≡ changed change was) d2 = shows_now was l p has.is gate d2 (changed change was) at2 (keeps2.shows way0) (c.in_ok-sync_base.ensures.durable (changed change was) at1) in
    let tells2 = g.met.D.Disk.told c.sync_base.new.disk in
    let closing = c.close_gate.ensures.keeps (changed change was) in
    runs-then (ReplaysAs was) d0.moments d2.moments d3.moments
    (runs-weaken way (ReplaysAs was) (way_as was l p has.is gate safe) d0.moments d2.moments (keeps2.run way0))
    (runs-weaken (ReplaysTo (changed change was)) (ReplaysAs was) (change_as was l p has.is gate safe) d2.moments d3.moments (closing_run change was is d2 d3 tells2 done closing))

pub returns-clause-run : goal.returns-clause-run
returns-clause-run g c = λ was there safe.
    let has = c.requires.record was there in
    let gate = c.requires.gate was there in
    let l = has.lengths in
    let p = has.pieces in
    let way = IsOnTheWay l p was in
    let d0 = g.D.Disk.device c.args.disk.now in
    let d1 = g.D.Disk.device c.apply_record.new.disk in
    let keeps1 : Keeps way d0 d1 = c.apply_record.ensures.images l p was was there has.is (way_start l p was) in
    let way0 = shows_way was l p has.is gate d0 there c.requires.synced in
    let d2 = g.D.Disk.device c.sync_base.new.disk in
    let keeps2 : Keeps way d0 d2 = keeps-then way d0 d1 d2 keeps1 (c.sync_base.ensures.way l p was) in
    let change = change_of was l p has.is gate safe in
    let is = opened was l p has.is gate safe in
    let d3 = g.D.Disk.device c.close_gate.new.disk in
    let at1 : d1.contents ≡ Some (changed change was) = c.in_ok-apply_record.ensures.ok was there l p has.is (safe gate l p has.is) in
    let at2 : d2.contents ≡ Some (changed change was) = c.in_ok-sync_base.ensures.kept ∙ at1 in
    let done : Shows (λ files. files ≡ changed change was) d2 = shows_now was l p has.is gate d2 (changed change was) at2 (keeps2.shows way0) (c.in_ok-sync_base.ensures.durable (changed change was) at1) in
    let tells2 = g.met.D.Disk.told c.sync_base.new.disk in
    let closing = c.close_gate.ensures.keeps (changed change was) in
    runs-then (ReplaysAs was) d0.moments d2.moments d3.moments
    (runs-weaken way (ReplaysAs was) (way_as was l p has.is gate safe) d0.moments d2.moments (keeps2.run way0))
    (runs-weaken (ReplaysTo (changed change was)) (ReplaysAs was) (change_as was l p has.is gate safe) d2.moments d3.moments (closing_run change was is d2 d3 tells2 done closing))

pub returns-clause-done : goal.returns-clause-done
returns-clause-done g c = λ was there safe.
    let has = c.requires.record was there in
    let gate = c.requires.gate was there in
    let l = has.lengths in
    let p = has.pieces in
    let change = change_of was l p has.is gate safe in
    let d1 = g.D.Disk.device c.apply_record.new.disk in
    let d2 = g.D.Disk.device c.sync_base.new.disk in
    let d3 = g.D.Disk.device c.close_gate.new.disk in
    let at1 : d1.contents ≡ Some (changed change was) = c.in_ok-apply_record.ensures.ok was there l p has.is (safe gate l p has.is) in
    let at2 : d2.contents ≡ Some (changed change was) = c.in_ok-sync_base.ensures.kept ∙ at1 in
    let at3 : d3.contents ≡ Some (closed change was) = c.in_ok-close_gate.ensures.told (changed change was) at2 (done_open was l p has.is gate safe) in
    λ now now_is. subst (Replays was) (one_told d3.contents (closed change was) now at3 now_is) (replays_to_applied l p was gate has.is)

pub returns-clause-durable : goal.returns-clause-durable
returns-clause-durable g c =
    let d0 = g.D.Disk.device c.args.disk.now in
    let d1 = g.D.Disk.device c.apply_record.new.disk in
    let d2 = g.D.Disk.device c.sync_base.new.disk in
    let d3 = g.D.Disk.device c.close_gate.new.disk in
    elim (silent_or_told d0.contents) [
      | inl none ↦ none_told _ d3.contents (stays_silent _ _ c.close_gate.ensures.cause.alike (c.in_ok-sync_base.ensures.kept ∙ stays_silent _ _ c.apply_record.ensures.alike none))
      | inr before ↦
          let was = before.0 in
          let there = before.1 in
          let has = c.requires.record was there in
          redone_synced was has.lengths has.pieces has.is (c.requires.gate was there) d0 d1 d2 d3 there c.requires.synced c.in_ok-apply_record.ensures.told
          (keeps-then (IsOnTheWay has.lengths has.pieces was) d0 d1 d2 (c.apply_record.ensures.images has.lengths has.pieces was was there has.is (way_start has.lengths has.pieces was)) (c.sync_base.ensures.way has.lengths has.pieces was))
          c.in_ok-sync_base.ensures.kept c.in_ok-sync_base.ensures.durable c.in_ok-close_gate.ensures.told c.in_ok-close_gate.ensures.durable c.close_gate.ensures.keeps
    ]

pub returns-clause-closed : goal.returns-clause-closed
returns-clause-closed g c =
    let d0 = g.D.Disk.device c.args.disk.now in
    let d1 = g.D.Disk.device c.apply_record.new.disk in
    let d2 = g.D.Disk.device c.sync_base.new.disk in
    let d3 = g.D.Disk.device c.close_gate.new.disk in
    elim (silent_or_told d0.contents) [
      | inl none ↦ none_told _ d3.contents (stays_silent _ _ c.close_gate.ensures.cause.alike (c.in_ok-sync_base.ensures.kept ∙ stays_silent _ _ c.apply_record.ensures.alike none))
      | inr before ↦
          let was = before.0 in
          let there = before.1 in
          let has = c.requires.record was there in
          redone_shut was has.lengths has.pieces has.is (c.requires.gate was there) d0 d1 d2 d3 there c.requires.synced c.in_ok-apply_record.ensures.told
          (keeps-then (IsOnTheWay has.lengths has.pieces was) d0 d1 d2 (c.apply_record.ensures.images has.lengths has.pieces was was there has.is (way_start has.lengths has.pieces was)) (c.sync_base.ensures.way has.lengths has.pieces was))
          c.in_ok-sync_base.ensures.kept c.in_ok-sync_base.ensures.durable c.in_ok-close_gate.ensures.told c.in_ok-close_gate.ensures.durable c.close_gate.ensures.keeps
    ]

pub returns-clause-told : goal.returns-clause-told
returns-clause-told g c =
    let d0 = g.D.Disk.device c.args.disk.now in
    let d1 = g.D.Disk.device c.apply_record.new.disk in
    let d2 = g.D.Disk.device c.sync_base.new.disk in
    let d3 = g.D.Disk.device c.close_gate.new.disk in
    λ some.
    let before = told_now d0.contents some in
    let was = before.0 in
    let there = before.1 in
    let has = c.requires.record was there in
    told_there d3.contents _ (redone_told was has.lengths has.pieces has.is (c.requires.gate was there) d0 d1 d2 d3 there c.requires.synced c.in_ok-apply_record.ensures.told
    (keeps-then (IsOnTheWay has.lengths has.pieces was) d0 d1 d2 (c.apply_record.ensures.images has.lengths has.pieces was was there has.is (way_start has.lengths has.pieces was)) (c.sync_base.ensures.way has.lengths has.pieces was))
    c.in_ok-sync_base.ensures.kept c.in_ok-sync_base.ensures.durable c.in_ok-close_gate.ensures.told c.in_ok-close_gate.ensures.durable c.close_gate.ensures.keeps)
