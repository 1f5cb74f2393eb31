use Rattle.std.proofs.Common.{◌∙◌, arith}
use Rattle.jb_backup.proofs.BeginLemmas.{all_empty, empty_more, full_first}
use Rattle.jb_backup.proofs.begin.test_empty.Goals as goal

pub returns-then-branch-gt0-clause-refused : goal.returns-then-branch-gt0-clause-refused
returns-then-branch-gt0-clause-refused g c = (
  full_first c.loop-number.number _ c.file_of-file.result _ c.file_of-file.ensures (λ files there. c.in_ok-len.ensures.found files (c.loop-number.invariant.reads.contents ∙ there)) c.if-branch-gt0.true c.loop-number.invariant.empty,
  c.len.ensures.kept.contents ∙ c.loop-number.invariant.reads.contents,
)

pub loop-number-preserved : goal.loop-number-preserved
loop-number-preserved g c = record {
  empty = empty_more c.loop-number.number _ c.file_of-file.result _ c.file_of-file.ensures (λ files there. c.in_ok-len.ensures.found files (c.loop-number.invariant.reads.contents ∙ there)) (omega (arith, c.if-branch-gt0.false)) c.loop-number.invariant.empty;
  reads = record { contents = c.len.ensures.kept.contents ∙ c.loop-number.invariant.reads.contents; moments = c.len.ensures.kept.moments ∙ c.loop-number.invariant.reads.moments };
  quiet = c.in_ok-len.ensures.cause.kept ∙ c.loop-number.invariant.quiet;
}

pub returns-clause-ok : goal.returns-clause-ok
returns-clause-ok g c = all_empty c.loop-number.number _ c.loop-number-test.false c.loop-number.invariant.empty
