use Rattle.std.proofs.Common.{length, take, sym, ◌∙◌, arith}
use Rattle.std.proofs.lemmas.Result.{err_from_is_err_and}
use Rattle.jb_run.proofs.OpenLemmas.{opens_begin}
use Rattle.jb_run.proofs.RefuseLemmas.{stops_at}
use Rattle.jb_run.proofs.WholeLemmas.{whole_as}
use Rattle.jb_run.proofs.opening.open_rest.Goals as goal

pub loop-alloc-init : goal.loop-alloc-init
loop-alloc-init g c =
    let shared = c.args.shared.now in
    record {
      within = omega (arith, c.requires.none.areas);
      whole = whole_as shared c.args.nodes 0 c.requires.none;
      room = c.requires.room;
      opens = opens_begin c.args.areas.now c.args.nodes (g.H.Host.desk c.args.host.now) shared c.requires.none c.requires.uncounted;
    }

-- each is counted
pub open_next-requires-clause-counted : goal.open_next-requires-clause-counted
open_next-requires-clause-counted g c =
    let opens = c.loop-alloc.invariant.opens in
    opens.live.count ∙ opens.start.count ∙ sym opens.whole.areas

pub loop-alloc-preserved : goal.loop-alloc-preserved
loop-alloc-preserved g c =
    let at = c.loop-alloc in
    let opens = c.in_ok-open_next.ensures.ok (g.H.Host.desk c.args.host.now) at.invariant.opens in
    record {
      within = omega (arith, c.in_ok-open_next.ensures.count, c.loop-alloc-test.true, c.len.ensures);
      whole = whole_as c.open_next.new.shared c.args.nodes (length (take (length c.open_next.new.shared.areas.items) c.args.areas.now)) opens.whole;
      room = c.in_ok-open_next.ensures.room;
      opens = opens;
    }

pub returns-in_err-open_next-clause-err : goal.returns-in_err-open_next-clause-err
returns-in_err-open_next-clause-err g c =
    let p = err_from_is_err_and c.from_residual.result c.from_residual.ensures.1 in
    let at = c.loop-alloc in
    let why = c.in_err-open_next.ensures.err in
    rw (p.1, p.2)
    (stops_at c.args.areas.now c.args.nodes (length at.shared.areas.items) (g.H.Host.desk c.args.host.now) (g.H.Host.desk at.host) (g.H.Host.desk c.open_next.new.host) c.open_next.new.shared at.shared c.in_err-open_next.field-0.0
    (omega (arith, c.loop-alloc-test.true, c.len.ensures)) why.0 at.invariant.opens why.1)
