use Rattle.std.proofs.Common.{[]}
use Rattle.jb_state.specs.LiveSlots.{linkables}
use Rattle.jb_link.specs.Thread.{AreRoots}
use Rattle.jb_link.proofs.threads.roots_by_place.Given as goal

abbrev pub invariant-loop-place : goal.invariant-loop-place
invariant-loop-place l = AreRoots (linkables [] l.loaded) l.loaded.base l.place l.roots.items
