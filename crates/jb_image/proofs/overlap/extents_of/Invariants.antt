use Rattle.std.proofs.Common.{◌≡◌, map, take}
use Rattle.jb_image.specs.Reading.{extent_seen}
use Rattle.jb_image.proofs.overlap.extents_of.Given as goal

abbrev pub invariant-loop-slot : goal.invariant-loop-slot
invariant-loop-slot l = l.extents.items ≡ map extent_seen (take l.slot-index l.seen)
