use Rattle.std.proofs.Common.{◌≡◌, ℕ, ap, arith, length, refl, subst, sym, ◌∙◌}
use Rattle.std.specs.Prelude.{List, Result, Err}
use Rattle.std.proofs.lemmas.Result.{err_from_is_err_and}
use Rattle.jb_run.specs.All.{AreOpenable, AreShared, OpensAll, RefusesAll, passes_at}
use Rattle.jb_run.specs.Rows.{lists_of}
use Rattle.jb_conf.specs.declared.board.BoardArea.{BoardArea}
use Rattle.jb_run.specs.LocalEnding.{of_areas}
use Rattle.jb_run.specs.declared.error.RunError.{RunError}
use Rattle.jb_run.specs.declared.error.RunError.TheVariants.{OutOfMemory}
use Rattle.jb_run.specs.Nodes.{RunsNodes, lent_path}
use Rattle.jb_run.specs.declared.nodes_end.NodesEnd.{NodesEnd}
use Rattle.jb_run.proofs.NodesClosing.{are_openable}
use Rattle.jb_run.specs.Begins.{RefusesLines}
use Rattle.jb_run.proofs.LocalRefusing.{no_areas}
use Rattle.jb_run.proofs.NodesRefusing.{gives_up, no_room}
use Rattle.jb_run.proofs.NodesServing.{serves_all}
use Rattle.jb_run.proofs.Numbers.{length-lines_for}
use Rattle.jb_run.proofs.nodes.serve_board.Goals as goal

-- memory was wanting before the areas were opened
pub returns-in_default : goal.returns-in_default
returns-in_default g c = λ path old has.
    no_room (RefusesLines path c.args.calls (lent_path c.args.backup) old (g.H.Host.desk c.args.host.now) OutOfMemory) path c.args.board.now old (g.H.Host.desk c.args.host.now) has

pub open_areas-requires-clause-areas : goal.open_areas-requires-clause-areas
open_areas-requires-clause-areas g c = subst AreOpenable (sym c.as_slice-areas.ensures) (are_openable c.args.board.now)

-- there is one worker at least
pub open_areas-requires-clause-nodes : goal.open_areas-requires-clause-nodes
open_areas-requires-clause-nodes g c = (omega (arith, c.workers_of-workers.ensures.count c.args.calls), c.workers_of-workers.ensures.few)

pub serve_targeted-requires-clause-whole : goal.serve_targeted-requires-clause-whole
serve_targeted-requires-clause-whole g c κs within =
    let board = c.args.board.now in
    let shared = c.in_ok-shared.shared in
    let opens = subst (λ (list : List BoardArea). OpensAll list c.workers_of-workers.result (g.H.Host.desk c.args.host.now) (g.H.Host.desk c.open_areas.new.host) shared)
    c.as_slice-areas.ensures c.in_ok-shared.ensures.ok in
    subst (λ (n : ℕ). AreShared shared n (length board.areas)) (c.workers_of-workers.ensures.count c.args.calls) opens.whole

pub returns-in_err-shared : goal.returns-in_err-shared
returns-in_err-shared g c = λ path old has.
    let new = g.H.Host.desk c.open_areas.new.host in
    let why = c.in_err-shared.field-0.0 in
    let p = err_from_is_err_and c.from_residual.result c.from_residual.ensures.1 in
    subst (λ (r : Result NodesEnd RunError). RunsNodes g.H.Host.door_for g.H.Host.bell_over path c.args.calls (lent_path c.args.backup) old new r) (sym (p.1 ∙ ap (λ (e : RunError). Err e) p.2))
    (no_areas (RefusesLines path c.args.calls (lent_path c.args.backup) old new (of_areas why)) path old new (of_areas why) (record {
      board = c.args.board.now;
      mid = g.H.Host.desk c.args.host.now;
      has = has;
      why = why;
      is = refl;
      refuses = subst (λ (areas : List BoardArea). RefusesAll areas (g.H.Host.desk c.args.host.now) new why) c.as_slice-areas.ensures c.in_err-shared.ensures.err;
    }))

pub returns-in_err-serve_targeted : goal.returns-in_err-serve_targeted
returns-in_err-serve_targeted g c = λ path old has.
    let board = c.args.board.now in
    let read = g.H.Host.desk c.args.host.now in
    let opened = g.H.Host.desk c.open_areas.new.host in
    let new = g.H.Host.desk c.serve_targeted.new.host in
    let why = c.in_err-serve_targeted.field-0.0 in
    let shared = c.in_ok-shared.shared in
    let opens = subst (λ (list : List BoardArea). OpensAll list c.workers_of-workers.result read opened shared) c.as_slice-areas.ensures c.in_ok-shared.ensures.ok in
    let p = err_from_is_err_and c.from_residual-in_err-serve_targeted.result c.from_residual-in_err-serve_targeted.ensures.1 in
    subst (λ (r : Result NodesEnd RunError). RunsNodes g.H.Host.door_for g.H.Host.bell_over path c.args.calls (lent_path c.args.backup) old new r) (sym (p.1 ∙ ap (λ (e : RunError). Err e) p.2))
    (gives_up path c.args.calls (lent_path c.args.backup) board old read opened new opens.befores opens.openings (lists_of shared.nodes.items) why has c.requires.targeted opens.out opens.start
    c.in_err-serve_targeted.ensures.err)

pub returns : goal.returns
returns g c = λ path old has.
    let board = c.args.board.now in
    let read = g.H.Host.desk c.args.host.now in
    let opened = g.H.Host.desk c.open_areas.new.host in
    let shared = c.in_ok-shared.shared in
    let opens = subst (λ (list : List BoardArea). OpensAll list c.workers_of-workers.result read opened shared) c.as_slice-areas.ensures c.in_ok-shared.ensures.ok in
    let row : length (passes_at shared board.nodes) ≡ length board.areas
    = opens.whole.passes board.nodes (omega (arith, c.workers_of-workers.ensures.count c.args.calls, length-lines_for board c.args.calls)) in
    serves_all c.backups_are_of_rings.ensures g.H.Host.door_for g.H.Host.bell_over path c.args.calls (lent_path c.args.backup) board old read opened (g.H.Host.desk c.serve_targeted.new.host)
    opens.befores opens.openings (lists_of shared.nodes.items) c.in_ok-serve_targeted.field-0 has c.requires.targeted opens.out opens.start row c.in_ok-serve_targeted.ensures.ok
