use Rattle.std.proofs.Common.{◌+◌, List, ℕ, [], subst, sym}
use Rattle.jb_state.specs.LiveSlots.{linkables}
use Rattle.jb_link.specs.Thread.{AreRoots}
use Rattle.jb_link.proofs.ThreadLemmas.{roots_step}
use Rattle.jb_link.proofs.threads.roots_by_place.Goals as goal

pub loop-place-preserved : goal.loop-place-preserved
loop-place-preserved c =
    let Goal : List ℕ → Type 0 = λ roots. AreRoots (linkables [] c.args.loaded.now) c.args.loaded.now.base (c.loop-place.place + 1) roots in
    subst Goal (sym {A = List ℕ} c.in_ok-push.ensures.items)
    (roots_step (linkables [] c.args.loaded.now) c.args.loaded.now.base c.loop-place.place c.root_at-root.result c.loop-place.roots.items c.loop-place.invariant c.root_at-root.ensures)
