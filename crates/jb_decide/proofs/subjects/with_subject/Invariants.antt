use Rattle.std.proofs.Common.{◌≡◌, ◌++◌, length}
use Rattle.jb_bytes.specs.Spelled.{fields_in}
use Rattle.jb_bytes.specs.Subfields.{IsSubfieldList}
use Rattle.jb_state.specs.Edited.{with_subject}
use Rattle.jb_decide.specs.Draft.{with_subject_in_rest}
use Rattle.jb_decide.proofs.subjects.with_subject.Given as goal

abbrev pub invariant-loop-part : goal.invariant-loop-part
invariant-loop-part l = record {
  list : IsSubfieldList (fields_in l.rest) l.rest;
  same : l.made ++ with_subject_in_rest l.named l.subject (fields_in l.rest) ≡ with_subject l.subject l.subfields;
}

abbrev pub decreases-loop-part : goal.decreases-loop-part
decreases-loop-part l = length l.rest
