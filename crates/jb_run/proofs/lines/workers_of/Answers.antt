use Rattle.std.proofs.Common.{ℕ, length, ap, arith}
use Rattle.std.specs.Prelude.{Option}
use Rattle.jb_run.specs.Lines.{news_lines}
use Rattle.jb_run.proofs.Numbers.{length-lines_for}
use Rattle.jb_run.proofs.lines.workers_of.Goals as goal

pub returns-in-Some-clause-count : goal.returns-in-Some-clause-count
returns-in-Some-clause-count c = λ most.
    let board = c.args.board.now in
    omega (arith, length-lines_for board most, ap (λ (port : Option ℕ). length (news_lines board.nodes port most)) c.in-Some.is)

pub returns-in-None-clause-count : goal.returns-in-None-clause-count
returns-in-None-clause-count c = λ most.
    let board = c.args.board.now in
    omega (arith, length-lines_for board most, ap (λ (port : Option ℕ). length (news_lines board.nodes port most)) c.in-None.is)
