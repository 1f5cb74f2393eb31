use Rattle.std.proofs.Common.{◌≡◌, length}
use Rattle.jb_bytes.specs.Spelled.{fields_in}
use Rattle.jb_bytes.specs.Subfields.{IsSubfieldList, first_of}
use Rattle.jb_bytes.proofs.subfield.Subfields.first.Given as goal

abbrev pub invariant-loop-part : goal.invariant-loop-part
invariant-loop-part l = IsSubfieldList (fields_in l.rest) l.rest × (first_of l.id l.self ≡ first_of l.id (fields_in l.rest))

abbrev pub decreases-loop-part : goal.decreases-loop-part
decreases-loop-part l = length l.rest
