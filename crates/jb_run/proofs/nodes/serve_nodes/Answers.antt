use Rattle.std.proofs.Common.{ap, inl, inr, subst, sym, ◌∙◌}
use Rattle.std.specs.Prelude.{Result, Err}
use Rattle.std.proofs.lemmas.Result.{err_from_is_err_and}
use Rattle.jb_run.specs.declared.error.RunError.{RunError}
use Rattle.jb_run.specs.Nodes.{RunsNodes, lent_path}
use Rattle.jb_run.specs.declared.nodes_end.NodesEnd.{NodesEnd}
use Rattle.jb_run.specs.Begins.{RefusesLines}
use Rattle.jb_run.proofs.LocalRefusing.{no_board}
use Rattle.jb_run.proofs.NodesRefusing.{no_target}
use Rattle.jb_run.proofs.nodes.serve_nodes.Goals as goal

pub returns-in_err-board : goal.returns-in_err-board
returns-in_err-board g c =
    let path = c.args.path.now in
    let backup = lent_path c.args.backup in
    let old = g.H.Host.desk c.args.host.now in
    let new = g.H.Host.desk c.board_for.new.host in
    let error = c.in_err-board.field-0.0 in
    let lines = RefusesLines path c.args.calls backup old new error in
    let p = err_from_is_err_and c.from_residual.result c.from_residual.ensures.1 in
    subst (λ (r : Result NodesEnd RunError). RunsNodes g.H.Host.door_for g.H.Host.bell_over path c.args.calls backup old new r) (sym (p.1 ∙ ap (λ (e : RunError). Err e) p.2))
    (elim c.in_err-board.ensures.err [
      | inl none ↦ no_board lines path old new error (inl none)
      | inr rest ↦ elim rest [
        | inl settings ↦ no_board lines path old new error (inr settings)
        | inr lacks ↦ no_target path c.args.calls backup old new error lacks
      ]
    ])

pub returns : goal.returns
returns g c = c.serve_board.ensures c.args.path.now (g.H.Host.desk c.args.host.now) c.in_ok-board.ensures.ok
