use Rattle.std.proofs.Common.{◌∙◌}
use Rattle.jb_disk.specs.declared.file.FileId.TheVariants.{Jdx, Jlr}
use Rattle.jb_disk.proofs.RunLemmas.{keeps-then}
use Rattle.jb_backup.specs.Target.{IsUnsigned}
use Rattle.jb_backup.proofs.CopyLemmas.{copyable_texts, copyable_headers, copyable_index, copyable_marks, texts_good, headers_good, none_good, four_copied}
use Rattle.jb_backup.proofs.TargetLemmas.{on_ok, reaches_unsigned}
use Rattle.jb_backup.proofs.copying.copy_files.Goals as goal

pub copy_file-requires-clause-file : goal.copy_file-requires-clause-file
copy_file-requires-clause-file g c = copyable_texts c.args.copied

pub copy_file-requires-2-clause-file : goal.copy_file-requires-2-clause-file
copy_file-requires-2-clause-file g c = copyable_headers

pub copy_file-requires-3-clause-file : goal.copy_file-requires-3-clause-file
copy_file-requires-3-clause-file g c = copyable_index

pub copy_file-requires-4-clause-file : goal.copy_file-requires-4-clause-file
copy_file-requires-4-clause-file g c = copyable_marks

pub copy_file-requires-2-clause-front : goal.copy_file-requires-2-clause-front
copy_file-requires-2-clause-front g c = reaches_unsigned _ (c.copy_file.ensures.unsigned.shows c.requires.begun.unsigned)

pub returns-in_err-copy_file-2-clause-unsigned : goal.returns-in_err-copy_file-2-clause-unsigned
returns-in_err-copy_file-2-clause-unsigned g c = keeps-then IsUnsigned _ _ _ c.copy_file.ensures.unsigned c.copy_file-2.ensures.unsigned

pub returns-in_err-copy_file-3-clause-unsigned : goal.returns-in_err-copy_file-3-clause-unsigned
returns-in_err-copy_file-3-clause-unsigned g c = keeps-then IsUnsigned _ _ _ (keeps-then IsUnsigned _ _ _ c.copy_file.ensures.unsigned c.copy_file-2.ensures.unsigned) c.copy_file-3.ensures.unsigned

pub returns-clause-unsigned : goal.returns-clause-unsigned
returns-clause-unsigned g c = keeps-then IsUnsigned _ _ _ (keeps-then IsUnsigned _ _ _ (keeps-then IsUnsigned _ _ _ c.copy_file.ensures.unsigned c.copy_file-2.ensures.unsigned) c.copy_file-3.ensures.unsigned) c.copy_file-4.ensures.unsigned

pub returns-clause-whole : goal.returns-clause-whole
returns-clause-whole g c = on_ok c.copy_file-4.result _ _ (λ marks files there.
    let there1 = c.copy_file.ensures.answer.reads.contents ∙ there in
    let there2 = c.copy_file-2.ensures.answer.reads.contents ∙ there1 in
    let there3 = c.copy_file-3.ensures.answer.reads.contents ∙ there2 in
    four_copied files _ _ _ _ c.copy_file-2.ensures.others c.copy_file-3.ensures.others c.copy_file-4.ensures.others
    (c.in_ok-copy_file.ensures.whole files there 0 (texts_good c.args.copied files _ c.requires.low (c.requires.front files there)))
    (c.in_ok-copy_file-2.ensures.whole files there1 1 (headers_good files _))
    (c.in_ok-copy_file-3.ensures.whole files there2 0 (none_good Jdx files _))
    (marks files there3 0 (none_good Jlr files _))
    (c.copy_file-4.ensures.unsigned.shows (c.copy_file-3.ensures.unsigned.shows (c.copy_file-2.ensures.unsigned.shows (c.copy_file.ensures.unsigned.shows c.requires.begun.unsigned)))))
    c.copy_file-4.ensures.whole
