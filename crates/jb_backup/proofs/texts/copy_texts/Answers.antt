use Rattle.std.proofs.Common.{◌≡◌, ◌+◌, ◌∙◌, length, take, arith}
use Rattle.std.proofs.lemmas.List.{length-take-le}
use Rattle.jb_disk.specs.declared.file.FileId.TheVariants.{Jdt}
use Rattle.jb_disk.proofs.RunLemmas.{keeps-then, keeps-sync}
use Rattle.jb_backup.specs.Target.{IsUnsigned}
use Rattle.jb_backup.proofs.CopyLemmas.{copyable_texts, front_copied, reaches_resized, reaches_written}
use Rattle.jb_backup.proofs.TargetLemmas.{cut_unsigned}
use Rattle.jb_backup.proofs.texts.copy_texts.Goals as goal

pub returns-in_err-set_len-clause-unsigned : goal.returns-in_err-set_len-clause-unsigned
returns-in_err-set_len-clause-unsigned g c =
    cut_unsigned Jdt 0 (c.args.copied + c.min-count.result) _ _ _ (g.met.E.Disk.told c.args.onto.now) (g.met.E.Disk.told c.set_len.new.self) (copyable_texts 0) (omega arith) c.set_len.ensures.changed

pub returns-in_err-copy_chunk-clause-unsigned : goal.returns-in_err-copy_chunk-clause-unsigned
returns-in_err-copy_chunk-clause-unsigned g c = keeps-then IsUnsigned _ _ _
    (cut_unsigned Jdt 0 (c.args.copied + c.min-count.result) _ _ _ (g.met.E.Disk.told c.args.onto.now) (g.met.E.Disk.told c.set_len.new.self) (copyable_texts 0) (omega arith) c.set_len.ensures.changed) c.copy_chunk.ensures.unsigned

pub returns-in_err-sync-clause-unsigned : goal.returns-in_err-sync-clause-unsigned
returns-in_err-sync-clause-unsigned g c = keeps-then IsUnsigned _ _ _ (keeps-then IsUnsigned _ _ _
    (cut_unsigned Jdt 0 (c.args.copied + c.min-count.result) _ _ _ (g.met.E.Disk.told c.args.onto.now) (g.met.E.Disk.told c.set_len.new.self) (copyable_texts 0) (omega arith) c.set_len.ensures.changed) c.copy_chunk.ensures.unsigned)
    (keeps-sync IsUnsigned Jdt _ _ _ (g.met.E.Disk.told c.copy_chunk.new.onto) (g.met.E.Disk.told c.sync.new.self) c.sync.ensures.changed)

pub returns-clause-unsigned : goal.returns-clause-unsigned
returns-clause-unsigned g c = keeps-then IsUnsigned _ _ _ (keeps-then IsUnsigned _ _ _
    (cut_unsigned Jdt 0 (c.args.copied + c.min-count.result) _ _ _ (g.met.E.Disk.told c.args.onto.now) (g.met.E.Disk.told c.set_len.new.self) (copyable_texts 0) (omega arith) c.set_len.ensures.changed) c.copy_chunk.ensures.unsigned)
    (keeps-sync IsUnsigned Jdt _ _ _ (g.met.E.Disk.told c.copy_chunk.new.onto) (g.met.E.Disk.told c.sync.new.self) c.sync.ensures.changed)

pub copy_chunk-requires-clause-file : goal.copy_chunk-requires-clause-file
copy_chunk-requires-clause-file g c = copyable_texts c.args.copied

pub returns-clause-begun : goal.returns-clause-begun
returns-clause-begun g c =
    let count = c.min-count.ensures in
    let size : length (take c.min-count.result c.args.buffer.now) ≡ c.min-count.result = length-take-le c.min-count.result c.args.buffer.now (omega (arith, count, c.requires.size)) in
    record {
      unsigned = (keeps-then IsUnsigned _ _ _ (keeps-then IsUnsigned _ _ _
          (cut_unsigned Jdt 0 (c.args.copied + c.min-count.result) _ _ _ (g.met.E.Disk.told c.args.onto.now) (g.met.E.Disk.told c.set_len.new.self) (copyable_texts 0) (omega arith) c.set_len.ensures.changed) c.copy_chunk.ensures.unsigned)
          (keeps-sync IsUnsigned Jdt _ _ _ (g.met.E.Disk.told c.copy_chunk.new.onto) (g.met.E.Disk.told c.sync.new.self) c.sync.ensures.changed)).shows c.requires.begun.unsigned;
      texts = reaches_written Jdt c.args.copied (c.args.copied + c.min-count.result) c.min-count.result c.copy_chunk.new.chunk _ _ (c.copy_chunk.ensures.size ∙ size) (omega arith) (reaches_resized Jdt _ _ _ c.in_ok-set_len.ensures.changed.done) (c.in_ok-sync.ensures.changed.kept ∙ c.in_ok-copy_chunk.ensures.told);
    }

pub returns-clause-front : goal.returns-clause-front
returns-clause-front g c = λ files there front.
    let count = c.min-count.ensures in
    let len = c.in-Ok.ensures.found files there in
    let size : length (take c.min-count.result c.args.buffer.now) ≡ c.min-count.result = length-take-le c.min-count.result c.args.buffer.now (omega (arith, count, c.requires.size)) in
    front_copied c.args.copied c.min-count.result files _ _ _ c.copy_chunk.new.chunk (omega (arith, count, len, c.min.ensures, c.min-stop.ensures, c.if-copied-stop.false)) c.requires.begun.texts (c.copy_chunk.ensures.size ∙ size)
    (rw size at (c.in_ok-copy_chunk.ensures.found files (c.in-Ok.ensures.kept.contents ∙ there))) c.in_ok-set_len.ensures.changed.done (c.in_ok-sync.ensures.changed.kept ∙ c.in_ok-copy_chunk.ensures.told) front
