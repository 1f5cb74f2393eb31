use Rattle.std.proofs.Common.{inr}
use Rattle.jb_disk.proofs.RunLemmas.{runs-then, runs-weaken, stays_silent}
use Rattle.jb_journal.specs.Commit.{IsBeforeOrAfter, ReplaysTo}
use Rattle.jb_redo.specs.Changes.{changed}
use Rattle.jb_journal.specs.Stages.{opened}
use Rattle.jb_journal.proofs.ReadyLemmas.{opened_is, version-opened, from_opened}
use Rattle.jb_journal.proofs.OpeningLemmas.{where_told, told_claim, opens_then}
use Rattle.jb_journal.proofs.CommitLemmas.{before_at_start, under_way, closing_late, told_committed, synced_at_end}
use Rattle.jb_journal.proofs.SettleLemmas.{shows_finished}
use Rattle.jb_journal.specs.Coming.{journal_length}
use Rattle.jb_journal.proofs.ComingLemmas.{syncs_opened}
use Rattle.jb_journal.proofs.committing.commit.Goals as goal

pub returns-in_default-clause-crash : goal.returns-in_default-clause-crash
returns-in_default-clause-crash g c = λ start there.
    record { first = before_at_start c.args.change c.args.redo.now start (g.D.Disk.device c.args.disk.now) (c.requires.ready start there) there c.requires.synced; run = c.record_and_open.ensures.run start there }

pub write_and_close-requires-clause-going : goal.write_and_close-requires-clause-going
write_and_close-requires-clause-going g c = under_way c.args.change c.args.redo.now _ _ c.requires.ready c.in-Ok.ensures.told

pub returns-in_default-write_and_close-clause-in_doubt : goal.returns-in_default-write_and_close-clause-in_doubt
returns-in_default-write_and_close-clause-in_doubt g c = λ start there.
    let redo = c.args.redo.now in
    let ready = c.requires.ready start there in
    closing_late c.args.change redo start _ ready (c.write_and_close.ensures.late (opened c.args.change redo start) (opened_is c.args.change redo start ready) (version-opened c.args.change redo start ready) (c.in-Ok.ensures.going start there))

pub returns-in_default-write_and_close-clause-crash : goal.returns-in_default-write_and_close-clause-crash
returns-in_default-write_and_close-clause-crash g c = λ start there.
    let redo = c.args.redo.now in
    let ready = c.requires.ready start there in
    record {
      first = before_at_start c.args.change redo start (g.D.Disk.device c.args.disk.now) ready there c.requires.synced;
      run = runs-then (IsBeforeOrAfter redo start) _ _ _ (c.record_and_open.ensures.run start there)
          (runs-weaken (ReplaysTo (changed redo (opened c.args.change redo start))) (IsBeforeOrAfter redo start) (λ files replays. inr (from_opened c.args.change redo start ready files replays)) _ _
          (c.write_and_close.ensures.run (opened c.args.change redo start) (opened_is c.args.change redo start ready) (version-opened c.args.change redo start ready) (c.in-Ok.ensures.going start there)));
    }

pub returns-in_default-write_and_close-clause-opening : goal.returns-in_default-write_and_close-clause-opening
returns-in_default-write_and_close-clause-opening g c = λ start there.
    let redo = c.args.redo.now in
    let ready = c.requires.ready start there in
    where_told _ _ (λ now earlier is. opens_then (ReplaysTo (changed redo start)) _ _ _ (told_claim _ _ now earlier is (c.in-Ok.ensures.opening start there))
    (runs-weaken (ReplaysTo (changed redo (opened c.args.change redo start))) (ReplaysTo (changed redo start)) (from_opened c.args.change redo start ready) _ _
    (c.write_and_close.ensures.run (opened c.args.change redo start) (opened_is c.args.change redo start ready) (version-opened c.args.change redo start ready) (c.in-Ok.ensures.going start there))))

pub returns-clause-crash : goal.returns-clause-crash
returns-clause-crash g c = λ start there.
    let redo = c.args.redo.now in
    let ready = c.requires.ready start there in
    record {
      first = before_at_start c.args.change redo start (g.D.Disk.device c.args.disk.now) ready there c.requires.synced;
      run = runs-then (IsBeforeOrAfter redo start) _ _ _ (c.record_and_open.ensures.run start there)
          (runs-weaken (ReplaysTo (changed redo (opened c.args.change redo start))) (IsBeforeOrAfter redo start) (λ files replays. inr (from_opened c.args.change redo start ready files replays)) _ _
          (c.write_and_close.ensures.run (opened c.args.change redo start) (opened_is c.args.change redo start ready) (version-opened c.args.change redo start ready) (c.in-Ok.ensures.going start there)));
    }

pub returns-clause-opening : goal.returns-clause-opening
returns-clause-opening g c = λ start there.
    let redo = c.args.redo.now in
    let ready = c.requires.ready start there in
    where_told _ _ (λ now earlier is. opens_then (ReplaysTo (changed redo start)) _ _ _ (told_claim _ _ now earlier is (c.in-Ok.ensures.opening start there))
    (runs-weaken (ReplaysTo (changed redo (opened c.args.change redo start))) (ReplaysTo (changed redo start)) (from_opened c.args.change redo start ready) _ _
    (c.write_and_close.ensures.run (opened c.args.change redo start) (opened_is c.args.change redo start ready) (version-opened c.args.change redo start ready) (c.in-Ok.ensures.going start there))))

pub returns-clause-done : goal.returns-clause-done
returns-clause-done g c =
    told_committed c.args.change c.args.redo.now _ _ _ c.requires.ready c.in-Ok.ensures.told (stays_silent _ _ c.write_and_close.ensures.cause.alike)
    (λ start there. let ready = c.requires.ready start there in c.in-Ok-write_and_close.ensures.done (opened c.args.change c.args.redo.now start) (opened_is c.args.change c.args.redo.now start ready) (version-opened c.args.change c.args.redo.now start ready) (c.in-Ok.ensures.going start there))

pub returns-clause-durable : goal.returns-clause-durable
returns-clause-durable g c =
    synced_at_end c.args.change c.args.redo.now _ _ (g.D.Disk.device c.write_and_close.new.disk) c.in-Ok.ensures.told (stays_silent _ _ c.write_and_close.ensures.cause.alike)
    (λ start there. let ready = c.requires.ready start there in c.in-Ok-write_and_close.ensures.synced (opened c.args.change c.args.redo.now start) (opened_is c.args.change c.args.redo.now start ready) (version-opened c.args.change c.args.redo.now start ready) (c.in-Ok.ensures.going start there))

pub returns-clause-settled : goal.returns-clause-settled
returns-clause-settled g c = λ start there.
    let redo = c.args.redo.now in
    let ready = c.requires.ready start there in
    let is = opened_is c.args.change redo start ready in
    let two = version-opened c.args.change redo start ready in
    let going = c.in-Ok.ensures.going start there in
    shows_finished c.args.change redo start ready (g.D.Disk.device c.record_and_open.new.disk).contents (g.D.Disk.device c.write_and_close.new.disk) (g.met.D.Disk.told c.write_and_close.new.disk) (c.in-Ok-write_and_close.ensures.done (opened c.args.change redo start) is two going) (c.in-Ok-write_and_close.ensures.synced (opened c.args.change redo start) is two going)

pub returns-clause-syncs : goal.returns-clause-syncs
returns-clause-syncs g c = syncs_opened (journal_length c.args.redo.now) c.args.redo.now.lengths c.args.redo.now.lengths c.args.redo.now.pieces _ _ _ c.in-Ok.ensures.come c.in-Ok-write_and_close.ensures.come
