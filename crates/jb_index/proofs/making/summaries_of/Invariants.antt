use Rattle.std.proofs.Common.{◌≡◌, take}
use Rattle.jb_state.specs.LiveSlots.{linkables_from}
use Rattle.jb_index.proofs.MakingLemmas.{listed_from}
use Rattle.jb_index.proofs.making.summaries_of.Given as goal

abbrev pub invariant-loop-place : goal.invariant-loop-place
invariant-loop-place l = l.list.items ≡ listed_from (linkables_from l.base l.slots) l.base (take l.place l.slots)
