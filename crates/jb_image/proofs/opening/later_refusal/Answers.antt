use Rattle.std.proofs.Common.{List, AllPairs, map, subst}
use Rattle.jb_image.specs.Extents.{AreDisjoint}
use Rattle.jb_image.specs.declared.seen.SeenSlot.{SeenSlot}
use Rattle.jb_image.specs.Reading.{extent_seen}
use Rattle.jb_image.proofs.Refusals.{if_none_given}
use Rattle.jb_image.proofs.opening.later_refusal.Goals as goal

pub returns-in-None-clause-none : goal.returns-in-None-clause-none
returns-in-None-clause-none c =
    let none = rw c.in-None.is at c.in_ok-overlap.ensures.none in
    if_none_given {P = AllPairs AreDisjoint (map extent_seen c.args.seen.now.slots.items)} _
    (subst (λ (l : List SeenSlot). AllPairs AreDisjoint (map extent_seen l)) c.as_slice.ensures.value none)
