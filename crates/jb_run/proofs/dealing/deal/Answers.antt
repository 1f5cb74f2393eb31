use Rattle.std.proofs.Common.{arith}
use Rattle.jb_run.proofs.RowLemmas.{dealt_by}
use Rattle.jb_run.proofs.dealing.deal.Goals as goal

-- nothing of the row is left
pub returns-clause-dealt : goal.returns-clause-dealt
returns-clause-dealt g c =
    let at = c.loop-one in
    dealt_by c.args.lists.now.items c.args.row.now.items at.lists.items at.invariant.lists c.requires.count
    (λ n list one within. at.invariant.behind n list one (omega (arith, c.in_default.ensures.cases.0, at.row.ok.0)) (omega (arith, within, at.invariant.lists)))
