use Rattle.std.proofs.Common.{◌∙◌, sym}
use Rattle.jb_redo.specs.Applying.{HasPieced, ArePieced}
use Rattle.jb_redo.proofs.ApplyLemmas.{keeps_before, turns_on, turns_from, turns_weaken_told}
use Rattle.jb_redo.proofs.RecordLemmas.{pieced_whole, pieced_no_end, pieced_journal}
use Rattle.jb_redo.proofs.applying.write_pieces.Goals as goal

pub has_mark-requires : goal.has_mark-requires
has_mark-requires g c = λ now is.
    let ends = c.args.lengths.now.ends in
    let from = turns_from (λ files after. HasPieced files c.in_ok-at.at ends after) (g.D.Disk.device c.args.disk.now).contents (g.D.Disk.device c.apply_pieces.new.disk).contents now c.in_ok-at.ensures.ok is in
    c.get.ensures ∙ pieced_journal from.0 c.in_ok-at.at ends now (c.requires.sized from.0 from.1) from.2

pub returns-in_err-has_mark-clause-images : goal.returns-in_err-has_mark-clause-images
returns-in_err-has_mark-clause-images g c =
    let device = g.D.Disk.device in
    keeps_before (device c.args.disk.now) (device c.apply_pieces.new.disk) (device c.has_mark.new.disk) c.apply_pieces.ensures.images c.has_mark.ensures.kept

pub returns-then-not-branch-clause-images : goal.returns-then-not-branch-clause-images
returns-then-not-branch-clause-images g c =
    let device = g.D.Disk.device in
    keeps_before (device c.args.disk.now) (device c.apply_pieces.new.disk) (device c.has_mark.new.disk) c.apply_pieces.ensures.images c.has_mark.ensures.kept

pub returns-then-not-branch-clause-fault : goal.returns-then-not-branch-clause-fault
returns-then-not-branch-clause-fault g c = λ files is.
    let ends = c.args.lengths.now.ends in
    let on = turns_on (λ before after. HasPieced before c.in_ok-at.at ends after) (g.D.Disk.device c.args.disk.now).contents (g.D.Disk.device c.apply_pieces.new.disk).contents files c.in_ok-at.ensures.ok is in
    pieced_no_end files c.in_ok-at.at ends on.0 (c.requires.sized files is) on.2 (rw c.end_mark-end.ensures at (c.in_ok-has_mark.ensures.none c.if-not-branch.true on.0 on.1)) (c.requires.record files is)

pub returns-clause-ok : goal.returns-clause-ok
returns-clause-ok g c =
    let ends = c.args.lengths.now.ends in
    rw (sym c.has_mark.ensures.kept.contents) at
    (turns_weaken_told (λ before after. HasPieced before c.in_ok-at.at ends after) ArePieced (g.D.Disk.device c.args.disk.now).contents (g.D.Disk.device c.apply_pieces.new.disk).contents c.in_ok-at.ensures.ok
    (λ before after is is_now done. pieced_whole before c.in_ok-at.at ends after (c.requires.sized before is) done (rw c.end_mark-end.ensures at (c.in_ok-has_mark.ensures.found c.if-not-branch.false after is_now))))

pub returns-clause-images : goal.returns-clause-images
returns-clause-images g c =
    let device = g.D.Disk.device in
    keeps_before (device c.args.disk.now) (device c.apply_pieces.new.disk) (device c.has_mark.new.disk) c.apply_pieces.ensures.images c.has_mark.ensures.kept
