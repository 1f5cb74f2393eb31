use Rattle.std.proofs.Common.{arith, sym}
use Rattle.jb_run.proofs.RowLemmas.{dealt_by}
use Rattle.jb_run.proofs.dealing.collect.Goals as goal

-- all lists have given their last
pub returns : goal.returns
returns g c =
    let at = c.loop-row in
    dealt_by at.lists.items at.row.items c.args.lists.now.items (sym at.invariant.lists) (omega (arith, at.invariant.few, c.loop-row-test.false, c.len.ensures, c.len-in-loop-row.ensures))
    (λ n list one within. at.invariant.before n list one (omega (arith, within, c.loop-row-test.false, c.len.ensures, c.len-in-loop-row.ensures)))
