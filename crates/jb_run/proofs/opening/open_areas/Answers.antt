use Rattle.std.proofs.lemmas.Result.{err_from_is_err_and}
use Rattle.jb_run.proofs.RefuseLemmas.{refuses_all, refuses_none}
use Rattle.jb_run.proofs.opening.open_areas.Goals as goal

pub returns-in_err-shared-clause-err : goal.returns-in_err-shared-clause-err
returns-in_err-shared-clause-err g c =
    let p = err_from_is_err_and c.from_residual.result c.from_residual.ensures.1 in
    rw (p.1) (refuses_none c.args.areas.now (g.H.Host.desk c.args.host.now) p.0 p.2)

pub returns-in-Err-clause-err : goal.returns-in-Err-clause-err
returns-in-Err-clause-err g c =
    refuses_all c.args.areas.now c.args.nodes (g.H.Host.desk c.args.host.now) (g.H.Host.desk c.open_rest.new.host) (g.H.Host.desk c.abandon_areas.new.host) c.open_rest.new.shared c.in-Err.error
    c.in-Err.ensures.err c.abandon_areas.ensures
