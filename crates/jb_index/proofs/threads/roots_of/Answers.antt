use Rattle.std.proofs.Common.{arith}
use Rattle.jb_index.proofs.ThreadLemmas.{roots_more}
use Rattle.jb_index.proofs.threads.roots_of.Goals as goal

pub loop-place-preserved : goal.loop-place-preserved
loop-place-preserved c =
    roots_more c.args.summaries.now.items c.loop-place.place c.root_at-root.result c.loop-place.roots.items c.push.new.self.items (omega (arith, c.len-place-end.ensures)) c.loop-place.invariant
    c.root_at-root.ensures c.in_ok-push.ensures.items
