use Rattle.std.proofs.Common.{◌≡◌, take, List, subst}
use Rattle.std.proofs.lemmas.List.{take_all}
use Rattle.jb_disk.specs.declared.call.Call.{Call}
use Rattle.jb_disk.specs.Trace.{HasFollowed}
use Rattle.jb_disk.proofs.TraceLemmas.{followed-first, followed-more}
use Rattle.jb_disk.proofs.trace.Trace.of.Goals as goal

pub loop-call-init : goal.loop-call-init
loop-call-init c = followed-first c.args.file c.args.first.now c.in_ok-trace.trace c.in_ok-trace.ensures

pub loop-call-preserved : goal.loop-call-preserved
loop-call-preserved c =
    followed-more c.args.file c.args.first.now c.args.calls.now c.loop-call.call-index c.call-item.result c.loop-call.trace c.follow.new.self c.loop-call-test.true c.call-item.is c.loop-call.invariant c.in_ok-follow.ensures

pub returns : goal.returns
returns c =
    let whole : take c.loop-call.call-index c.args.calls.now ≡ c.args.calls.now = take_all c.loop-call.call-index c.args.calls.now c.loop-call-test.false in
    subst (λ (calls : List Call). HasFollowed c.args.file c.args.first.now calls c.loop-call.trace) whole c.loop-call.invariant
