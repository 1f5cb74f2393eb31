use Rattle.std.proofs.Common.{sym, subst}
use Rattle.jb_board.proofs.Placing.{used_tool}
use Rattle.jb_board.specs.Run.{RunAnswer, UsesTool}
use Rattle.jb_board.proofs.top.use_tool.Goals as goal

pub returns : goal.returns
returns g c =
    let old = g.H.Host.desk c.args.host.now in
    let new = g.H.Host.desk c.put_back.new.self in
    let before = g.H.Disk.Disk.device c.in-Ok.disk in
    let after = g.H.Disk.Disk.device c.run-disk.result.0 in
    let ran = c.run-disk.ensures in
    subst (λ (a : RunAnswer). UsesTool c.args.tool c.args.moment c.args.dir.now c.args.name.now old new a) (sym c.answered.ensures)
    (used_tool c.args.tool c.args.moment c.args.dir.now c.args.name.now before after old _ new c.run-disk.result.1 c.in-Ok.ensures.ok c.put_back.ensures ran.answer ran.crash ran.answer.faults.later)
