use Rattle.std.proofs.Common.{◌≡◌, ◌∙◌, Some}
use Rattle.jb_disk.specs.declared.file.FileId.TheVariants.{Jhr, Jdt, Jdx}
use Rattle.jb_redo.specs.OnTheWay.{IsOnTheWay}
use Rattle.jb_disk.proofs.RunLemmas.{keeps-then}
use Rattle.jb_journal.proofs.ComingLemmas.{syncs_four}
use Rattle.jb_journal.proofs.Told.{on_ok}
use Rattle.jb_journal.proofs.SyncLemmas.{held, four_files}
use Rattle.jb_journal.proofs.filing.sync_changed.Goals as goal

pub returns-in_err-sync_if_changed-2-clause-keeps : goal.returns-in_err-sync_if_changed-2-clause-keeps
returns-in_err-sync_if_changed-2-clause-keeps g c = λ start.
    let P = IsOnTheWay c.args.redo.now.lengths c.args.redo.now.pieces start in
    keeps-then P _ _ _ (c.sync_if_changed.ensures.keeps start) (c.sync_if_changed-2.ensures.keeps start)

pub returns-in_err-sync_if_changed-3-clause-keeps : goal.returns-in_err-sync_if_changed-3-clause-keeps
returns-in_err-sync_if_changed-3-clause-keeps g c = λ start.
    let P = IsOnTheWay c.args.redo.now.lengths c.args.redo.now.pieces start in
    keeps-then P _ _ _ (keeps-then P _ _ _ (c.sync_if_changed.ensures.keeps start) (c.sync_if_changed-2.ensures.keeps start)) (c.sync_if_changed-3.ensures.keeps start)

pub returns-clause-keeps : goal.returns-clause-keeps
returns-clause-keeps g c = λ start.
    let P = IsOnTheWay c.args.redo.now.lengths c.args.redo.now.pieces start in
    keeps-then P _ _ _ (keeps-then P _ _ _ (keeps-then P _ _ _ (c.sync_if_changed.ensures.keeps start) (c.sync_if_changed-2.ensures.keeps start)) (c.sync_if_changed-3.ensures.keeps start)) (c.sync_if_changed-4.ensures.keeps start)

pub returns-clause-durable : goal.returns-clause-durable
returns-clause-durable g c = on_ok c.sync_if_changed-4.result _ _ (λ last. λ start shows final there.
    let d1 = g.D.Disk.device c.sync_if_changed.new.disk in
    let d2 = g.D.Disk.device c.sync_if_changed-2.new.disk in
    let d3 = g.D.Disk.device c.sync_if_changed-3.new.disk in
    let at1 : d1.contents ≡ Some final = c.in_ok-sync_if_changed.ensures.kept ∙ there in
    let at2 : d2.contents ≡ Some final = c.in_ok-sync_if_changed-2.ensures.kept ∙ at1 in
    let at3 : d3.contents ≡ Some final = c.in_ok-sync_if_changed-3.ensures.kept ∙ at2 in
    let shows1 = (c.sync_if_changed.ensures.keeps start).shows shows in
    let shows2 = (c.sync_if_changed-2.ensures.keeps start).shows shows1 in
    let shows3 = (c.sync_if_changed-3.ensures.keeps start).shows shows2 in
    let jhr1 = held Jhr final d1 at1 (c.in_ok-sync_if_changed.ensures.durable start shows final there) in
    let jhr2 = (c.sync_if_changed-2.ensures.others Jhr final).shows jhr1 in
    let jhr3 = (c.sync_if_changed-3.ensures.others Jhr final).shows jhr2 in
    let jhr4 = (c.sync_if_changed-4.ensures.others Jhr final).shows jhr3 in
    let jdt2 = held Jdt final d2 at2 (c.in_ok-sync_if_changed-2.ensures.durable start shows1 final at1) in
    let jdt3 = (c.sync_if_changed-3.ensures.others Jdt final).shows jdt2 in
    let jdt4 = (c.sync_if_changed-4.ensures.others Jdt final).shows jdt3 in
    let jdx3 = held Jdx final d3 at3 (c.in_ok-sync_if_changed-3.ensures.durable start shows2 final at2) in
    let jdx4 = (c.sync_if_changed-4.ensures.others Jdx final).shows jdx3 in
    four_files final _ jhr4.left jdt4.left jdx4.left (last start shows3 final at3)) c.sync_if_changed-4.ensures.durable

pub returns-clause-come : goal.returns-clause-come
returns-clause-come g c = on_ok c.sync_if_changed-4.result _ _ (syncs_four c.args.redo.now.lengths c.args.redo.now.pieces _ _ _ _ _ c.in_ok-sync_if_changed.ensures.come c.in_ok-sync_if_changed-2.ensures.come c.in_ok-sync_if_changed-3.ensures.come) c.sync_if_changed-4.ensures.come
