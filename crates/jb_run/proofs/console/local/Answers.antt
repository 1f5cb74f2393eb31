use Rattle.std.proofs.Common.{ap, subst, sym, ◌∙◌}
use Rattle.std.specs.Prelude.{Result, Err}
use Rattle.std.proofs.lemmas.Result.{err_from_is_err_and}
use Rattle.jb_run.proofs.LocalRefusing.{no_board}
use Rattle.jb_run.specs.Local.{RunsLocal}
use Rattle.jb_run.specs.declared.local_end.LocalEnd.{LocalEnd}
use Rattle.jb_run.specs.declared.error.RunError.{RunError}
use Rattle.jb_run.proofs.console.local.Goals as goal

pub returns-in_err-board : goal.returns-in_err-board
returns-in_err-board g c =
    let old = g.H.Host.desk c.args.host.now in
    let new = g.H.Host.desk c.board_at.new.host in
    let p = err_from_is_err_and c.from_residual.result c.from_residual.ensures.1 in
    subst (λ (r : Result LocalEnd RunError). RunsLocal c.args.path.now old new r) (sym (p.1 ∙ ap (λ (e : RunError). Err e) p.2))
    (no_board ⊥ c.args.path.now old new c.in_err-board.field-0.0 c.in_err-board.ensures.err)

pub returns : goal.returns
returns g c = c.run_board.ensures c.args.path.now (g.H.Host.desk c.args.host.now) c.in_ok-board.ensures.ok
