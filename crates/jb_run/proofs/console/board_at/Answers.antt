use Rattle.std.proofs.Common.{ℕ, List, Ok, subst, sym}
use Rattle.jb_conf.specs.Settings.{ReadsSettings}
use Rattle.jb_run.specs.Begins.{HasBoard}
use Rattle.jb_run.proofs.console.board_at.Goals as goal

pub returns-in-Ok-clause-ok : goal.returns-in-Ok-clause-ok
returns-in-Ok-clause-ok g c =
    let reads = subst (λ (bytes : List ℕ). ReadsSettings bytes (Ok c.in-Ok.board)) c.as_slice.ensures c.in-Ok.ensures.cause in
    subst (HasBoard c.args.path.now c.in-Ok.board (g.H.Host.desk c.args.host.now)) (sym c.tell_unknown.ensures)
    (record { bytes = _; gives = c.in_ok-bytes.ensures.ok; reads = reads })
