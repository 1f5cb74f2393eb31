use Rattle.std.proofs.Common.{◌≡◌, refl, length, take, drop, arith, ◌∙◌}
use Rattle.std.proofs.lemmas.List.{length-take-le, length-append, length-drop}
use Rattle.jb_disk.proofs.RunLemmas.{keeps-then}
use Rattle.jb_backup.specs.Target.{IsUnsigned, IsSameFrom}
use Rattle.jb_backup.proofs.CopyLemmas.{filling_none, filling_more, filling_end, copyable_later, reaches_less, reaches_as}
use Rattle.jb_backup.proofs.copying.copy_range.Goals as goal

pub loop-at-init : goal.loop-at-init
loop-at-init g c = record { size = refl; filling = filling_none _ _ c.args.file c.args.from c.args.end c.requires.order c.requires.within; stays = g.met.S.Source.stays_same _ }

pub copy_chunk-requires-clause-file : goal.copy_chunk-requires-clause-file
copy_chunk-requires-clause-file g c = copyable_later c.args.file c.args.from c.loop-at.at c.requires.file c.loop-at.invariant.filling.low

pub copy_chunk-requires-clause-inside : goal.copy_chunk-requires-clause-inside
copy_chunk-requires-clause-inside g c =
    let count = c.min-count.ensures in
    let low = c.loop-at.invariant.filling.low in
    let size : length (take c.min-count.result c.loop-at.buffer) ≡ c.min-count.result = length-take-le c.min-count.result c.loop-at.buffer (omega (arith, count)) in
    reaches_as c.args.file _ c.args.end _ _ (omega (arith, size, count, c.loop-at-test.true)) c.loop-at.invariant.filling.answer.reads.contents (c.requires.inside (omega (arith, c.loop-at-test.true)))

pub copy_chunk-requires-clause-within : goal.copy_chunk-requires-clause-within
copy_chunk-requires-clause-within g c =
    let count = c.min-count.ensures in
    let size : length (take c.min-count.result c.loop-at.buffer) ≡ c.min-count.result = length-take-le c.min-count.result c.loop-at.buffer (omega (arith, count)) in
    reaches_less c.args.file _ c.args.end _ (omega (arith, size, count, c.loop-at-test.true)) c.loop-at.invariant.filling.within

pub returns-in_err-copy_chunk-clause-unsigned : goal.returns-in_err-copy_chunk-clause-unsigned
returns-in_err-copy_chunk-clause-unsigned g c = keeps-then IsUnsigned _ _ _ c.loop-at.invariant.filling.unsigned c.copy_chunk.ensures.unsigned

pub returns-in_err-copy_chunk-clause-others : goal.returns-in_err-copy_chunk-clause-others
returns-in_err-copy_chunk-clause-others g c = λ other ne least good. keeps-then (λ files. IsSameFrom least good (files other)) _ _ _ (c.loop-at.invariant.filling.others other ne least good) (c.copy_chunk.ensures.others other ne least good)

pub returns-in_err-copy_chunk-clause-stays : goal.returns-in_err-copy_chunk-clause-stays
returns-in_err-copy_chunk-clause-stays g c = g.met.S.Source.stays_on _ _ _ c.loop-at.invariant.stays c.copy_chunk.ensures.stays

pub loop-at-preserved : goal.loop-at-preserved
loop-at-preserved g c =
    let buffer = c.loop-at.invariant.size in
    let count = c.min-count.ensures in
    let size : length (take c.min-count.result c.loop-at.buffer) ≡ c.min-count.result = length-take-le c.min-count.result c.loop-at.buffer (omega (arith, count)) in
    let long : length c.copy_chunk.new.chunk ≡ c.min-count.result = c.copy_chunk.ensures.size ∙ size in
    record {
      size = omega (arith, length-append c.copy_chunk.new.chunk (drop c.min-count.result c.loop-at.buffer), length-drop c.min-count.result c.loop-at.buffer, long, count, buffer);
      filling = filling_more _ _ _ _ _ _ c.args.file c.args.from c.loop-at.at c.min-count.result c.args.end c.copy_chunk.new.chunk (omega (arith, count, c.loop-at-test.true)) long c.loop-at.invariant.filling
          (rw size at c.in_ok-copy_chunk.ensures.found) c.in_ok-copy_chunk.ensures.told c.copy_chunk.ensures.unsigned c.copy_chunk.ensures.others c.in_ok-copy_chunk.ensures.answer;
      stays = g.met.S.Source.stays_on _ _ _ c.loop-at.invariant.stays c.copy_chunk.ensures.stays;
    }

pub returns-clause-told : goal.returns-clause-told
returns-clause-told g c = filling_end _ _ _ _ c.args.file c.args.from c.loop-at.at c.args.end c.loop-at-test.false c.loop-at.invariant.filling
