use Rattle.std.proofs.Common.{◌≡◌, ◌≤◌, ℕ, List, length, ap, ◌∙◌, subst, sym}
use Rattle.std.specs.Prelude.{Err}
use Rattle.std.proofs.lemmas.Result.{err_from_is_err_and}
use Rattle.jb_area.proofs.BackupLemmas.{rest_few}
use Rattle.jb_backup.proofs.AnswerLemmas.{answers_then}
use Rattle.jb_backup.specs.Target.{HasFront, IsBackupOf, IsSame, backed_up}
use Rattle.jb_disk.specs.Runs.{LeavesOnly, Shows}
use Rattle.jb_limits.specs.declared.limits.TheConstants.{MOST_SLOTS}
use Rattle.jb_state.specs.Live.{live_count}
use Rattle.jb_state.specs.State.{state_of}
use Rattle.jb_state.specs.declared.loaded.Loaded.{Loaded}
use Rattle.jb_tool.proofs.BackingLemmas.{copies_done, copies_none, copies_refused, copies_stopped, copies_unsigned, front_none, read_after, read_before}
use Rattle.jb_tool.specs.Backing.{backed_line}
use Rattle.jb_tool.specs.BackingArea.{CopiesArea}
use Rattle.jb_tool.specs.Tending.{ToolAnswer}
use Rattle.jb_tool.specs.declared.error.ToolError.{ToolError}
use Rattle.jb_tool.proofs.backing.back_area.Goals as goal

pub backed_text-requires : goal.backed_text-requires
backed_text-requires g c =
    subst (λ (l : Loaded). length l.slots ≤ MOST_SLOTS) (sym c.loaded.ensures) (rest_few g.D.Disk.device c.args.area.now c.requires.rests.texts c.requires.rests.rests)

pub returns-in_err-text-clause-copies : goal.returns-in_err-text-clause-copies
returns-in_err-text-clause-copies g c =
    let old = c.args.area.now in
    let target = g.E.Disk.device c.args.onto.now in
    let p = err_from_is_err_and c.from_residual.result c.from_residual.ensures.1 in
    subst (λ (r : ToolAnswer). CopiesArea g.D.Disk.device old old target target r) (sym (p.1 ∙ ap (λ (f : ToolError). Err f) p.2)) (copies_none g.D.Disk.device old target)

pub returns-in_err-copier-clause-copies : goal.returns-in_err-copier-clause-copies
returns-in_err-copier-clause-copies g c =
    let old = c.args.area.now in
    let target = g.E.Disk.device c.args.onto.now in
    let p = err_from_is_err_and c.from_residual-in_err-copier.result c.from_residual-in_err-copier.ensures.1 in
    subst (λ (r : ToolAnswer). CopiesArea g.D.Disk.device old old target target r) (sym (p.1 ∙ ap (λ (f : ToolError). Err f) p.2)) (copies_none g.D.Disk.device old target)

pub returns-in_err-begin-clause-copies : goal.returns-in_err-begin-clause-copies
returns-in_err-begin-clause-copies g c =
    let old = c.args.area.now in
    let target = g.E.Disk.device c.args.onto.now in
    let target_now = g.E.Disk.device c.begin.new.onto in
    let p = err_from_is_err_and c.from_residual-in_err-begin.result c.from_residual-in_err-begin.ensures.1 in
    subst (λ (r : ToolAnswer). CopiesArea g.D.Disk.device old old target target_now r) (sym (p.1 ∙ ap (λ (f : ToolError). Err f) p.2))
    (copies_refused g.D.Disk.device old target target_now c.in_err-begin.field-0.0 c.begin.ensures.crash c.in_err-begin.ensures.refused c.in_err-begin.ensures.faults)

pub returns-in_err-copy_texts-clause-copies : goal.returns-in_err-copy_texts-clause-copies
returns-in_err-copy_texts-clause-copies g c =
    let old = c.args.area.now in
    let target = g.E.Disk.device c.args.onto.now in
    let begun = g.E.Disk.device c.begin.new.onto in
    let target_now = g.E.Disk.device c.copy_texts.new.onto in
    let p = err_from_is_err_and c.from_residual-in_err-copy_texts.result c.from_residual-in_err-copy_texts.ensures.1 in
    subst (λ (r : ToolAnswer). CopiesArea g.D.Disk.device old c.copy_texts.new.source target target_now r) (sym (p.1 ∙ ap (λ (f : ToolError). Err f) p.2))
    (copies_stopped g.D.Disk.device old target begun c.begin.ensures.crash c.in_ok-begin.ensures.empty c.in_ok-begin.ensures.faults.quiet c.copy_texts.new.source target_now
    c.in_err-copy_texts.field-0.0 c.in_err-copy_texts.ensures.answer c.copy_texts.ensures.crash)

pub copy_texts-requires-clause-front : goal.copy_texts-requires-clause-front
copy_texts-requires-clause-front g c = λ files there. front_none _ files _ c.in_ok-begin.ensures.copied

pub finish-requires-clause-front : goal.finish-requires-clause-front
finish-requires-clause-front g c =
    let mid = g.E.Disk.device c.copy_texts.new.onto in
    read_after (λ files. HasFront c.copy_texts.new.copier files mid.contents) (g.D.Disk.device c.args.area.now.disk) _ c.copy_texts.ensures.answer.reads c.in_ok-copy_texts.ensures.front

pub returns-in_err-finish-clause-copies : goal.returns-in_err-finish-clause-copies
returns-in_err-finish-clause-copies g c =
    let shown = g.D.Disk.device in
    let old = c.args.area.now in
    let target = g.E.Disk.device c.args.onto.now in
    let begun = g.E.Disk.device c.begin.new.onto in
    let mid = g.E.Disk.device c.copy_texts.new.onto in
    let target_now = g.E.Disk.device c.finish.new.onto in
    let copied = c.in_ok-copy_texts.ensures.answer in
    let p = err_from_is_err_and c.from_residual-in_err-finish.result c.from_residual-in_err-finish.ensures.1 in
    subst (λ (r : ToolAnswer). CopiesArea shown old c.finish.new.source target target_now r) (sym (p.1 ∙ ap (λ (f : ToolError). Err f) p.2))
    (copies_unsigned shown old target begun c.begin.ensures.crash c.in_ok-begin.ensures.empty c.in_ok-begin.ensures.faults.quiet mid c.copy_texts.ensures.crash target_now
    (read_before (λ files. LeavesOnly mid target_now (IsBackupOf (backed_up files))) (shown old.disk) _ copied.reads c.finish.ensures.crash) c.finish.new.source c.in_err-finish.field-0.0
    (answers_then _ _ _ _ _ _ _ _ copied c.in_err-finish.ensures.answer))

pub returns-clause-copies : goal.returns-clause-copies
returns-clause-copies g c =
    let shown = g.D.Disk.device in
    let old = c.args.area.now in
    let target = g.E.Disk.device c.args.onto.now in
    let begun = g.E.Disk.device c.begin.new.onto in
    let mid = g.E.Disk.device c.copy_texts.new.onto in
    let target_now = g.E.Disk.device c.finish.new.onto in
    let copied = c.in_ok-copy_texts.ensures.answer in
    copies_done shown old target begun c.begin.ensures.crash c.in_ok-begin.ensures.empty c.in_ok-begin.ensures.faults.quiet mid c.copy_texts.ensures.crash target_now
    (read_before (λ files. LeavesOnly mid target_now (IsBackupOf (backed_up files))) (shown old.disk) _ copied.reads c.finish.ensures.crash) c.finish.new.source c.in_ok-finish.field-0
    c.in_ok-text.text (answers_then _ _ _ _ _ _ _ _ copied c.in_ok-finish.ensures.answer)
    (read_before (λ files. Shows (IsSame (backed_up files)) target_now) (shown old.disk) _ copied.reads c.in_ok-finish.ensures.whole)
    (subst (λ (l : Loaded). (texts : List ℕ) → c.in_ok-text.text ≡ backed_line (live_count (state_of texts l).slots)) c.loaded.ensures c.in_ok-text.ensures)
