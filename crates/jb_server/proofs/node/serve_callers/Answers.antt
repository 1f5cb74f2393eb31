use Rattle.std.proofs.Common.{◌≡◌, List, length, sym, refl, ap, subst, arith}
use Rattle.jb_session.specs.Exchanges.{AreOf, node_with}
use Rattle.jb_shared.specs.Passes.{PassView}
use Rattle.jb_server.specs.Sessions.{ServedAs, reach_of}
use Rattle.jb_server.specs.declared.tally.Tally.{Tally}
use Rattle.jb_server.proofs.Pagers.{keeps, keeps_more, keeps_same}
use Rattle.jb_server.proofs.SessionRuns.{IsServing, serving_more, serving_none}
use Rattle.jb_server.proofs.Told.{lent}
use Rattle.jb_server.proofs.node.serve_callers.Goals as goal

pub loop-call-init : goal.loop-call-init
loop-call-init g c = (tt, tt, c.requires.ours, c.requires.pager, keeps_same c.args.slot.now.pager, refl, serving_none _ _ _ _)

-- a caller was served on the passes, which were lent as a slice
pub loop-call-preserved : goal.loop-call-preserved
loop-call-preserved g c =
    let i = c.loop-call.invariant in
    let session = c.serve-end.ensures in
    let gate = g.R.Door.gate in
    let given = g.R.Link.Link.wire c.in-Ok-Call.link in
    let back = g.R.Link.Link.wire c.serve-end.new.link in
    let from = c.loop-call.slot.passes.items in
    let to = c.serve-end.new.passes in
    let first = node_with (g.C.Clock.readings c.args.slot.now.clock) c.args.slot.now.passes.items c.args.slot.now.pager in
    let before = g.C.Clock.readings c.loop-call.slot.clock in
    let after = g.C.Clock.readings c.serve-end.new.clock in
    let pager = c.loop-call.slot.pager in
    let pager_after = c.serve-end.new.pager in
    let size = c.serve-end.auto.passes in
    let ok = c.loop-call.slot.passes.ok.0 in
    let lengths : length c.as_mut_slice.result.now ≡ length from = ap (λ (w : List PassView). length w) c.as_mut_slice.ensures.value in
    let kept = lent from to c.loop-call.slot.passes.len (omega (arith, ok)) (omega (arith, size, lengths)) in
    let F : List PassView → Type 0 = λ w. ServedAs c.args.service c.args.board.now given (node_with before w pager) c.serve-end.result back (node_with after to pager_after) in
    let O : List PassView → Type 0 = λ w. AreOf c.args.areas.now w in
    let P : List PassView → Type 0 = λ w. IsServing (ServedAs c.args.service c.args.board.now) (gate c.args.slot.now.door) first c.args.slot.now.tally (gate c.hang_up.new.self) (node_with after w pager_after) c.count.new.self in
    let Q : Tally → Type 0 = λ w. IsServing (ServedAs c.args.service c.args.board.now) (gate c.args.slot.now.door) first c.args.slot.now.tally (gate c.hang_up.new.self) (node_with after to pager_after) w in
    let served = subst F c.as_mut_slice.ensures.value session.served in
    let on = serving_more (ServedAs c.args.service c.args.board.now) (gate c.args.slot.now.door) (gate c.loop-call.slot.door) (gate c.accept.new.self) (gate c.hang_up.new.self)
    first (node_with before from pager) (node_with after to pager_after) c.args.slot.now.tally c.loop-call.slot.tally given back c.serve-end.result
    i.6 (rw c.in-Ok-Call.field-0-is at c.in-Ok-Call.ensures.ok) served c.hang_up.ensures in
    let keeps_on = keeps c.pages_are_asked.ensures.asked c.pages_are_asked.ensures.none c.args.pages.now (reach_of c.args.service c.args.board.now) c.args.service c.args.board.now given (node_with before from pager) c.serve-end.result back
    (node_with after to pager_after) pager served refl i.3 in
    (tt, tt, subst O (sym kept) session.ours, session.pager, keeps_more c.args.slot.now.pager pager pager_after i.4 keeps_on, i.5, subst P (sym kept) (subst Q (sym c.count.ensures) on))
