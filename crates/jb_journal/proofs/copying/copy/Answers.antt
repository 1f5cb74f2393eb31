use Rattle.std.proofs.Common.{◌+◌, ◌≤◌, arith, rules}
use Rattle.jb_journal.proofs.CopyLemmas.{moving_by, moving_failed, moving_end}
use Rattle.jb_journal.proofs.copying.copy.Goals as goal

pub returns-in_err-copy_part-clause-keeps : goal.returns-in_err-copy_part-clause-keeps
returns-in_err-copy_part-clause-keeps g c =
    let within : c.loop-moved.moved + c.min-count.result ≤ c.args.len = search rules in
    moving_failed _ _ _ _ _ _ _ _ _ c.min-count.result _ c.loop-moved.invariant within (search rules) c.copy_part.ensures.keeps

pub loop-moved-preserved : goal.loop-moved-preserved
loop-moved-preserved g c =
    let within : c.loop-moved.moved + c.min-count.result ≤ c.args.len = search rules in
    moving_by _ _ _ _ _ _ _ _ _ c.min-count.result _ c.loop-moved.invariant within (search rules) c.in_ok-copy_part.ensures.told c.in_ok-copy_part.ensures.come c.in_ok-copy_part.ensures.cause.kept c.copy_part.ensures.cause.alike c.copy_part.ensures.keeps

pub returns-clause-told : goal.returns-clause-told
returns-clause-told g c = moving_end _ _ _ _ _ _ _ _ c.loop-moved.invariant (omega (arith, c.loop-moved-test.false))
