use Rattle.std.proofs.Common.{ℕ, List, sym, subst}
use Rattle.jb_bytes.specs.Spelled.{fields_in}
use Rattle.jb_bytes.specs.Subfields.{IsSubfieldList}
use Rattle.jb_bytes.proofs.Spelled.{list_in}
use Rattle.jb_bytes.proofs.subfield.Subfields.copy.Goals as goal

pub invariant_of-result : goal.invariant_of-result
invariant_of-result c =
    list_in c.requires.fields c.in_ok-bytes.bytes.items
    (subst (λ (l : List ℕ). IsSubfieldList c.requires.fields l) (sym c.in_ok-bytes.ensures.items) c.requires.are)

pub returns : goal.returns
returns c =
    subst (λ (l : List ℕ). IsSubfieldList (fields_in c.in_ok-bytes.bytes.items) l) c.in_ok-bytes.ensures.items (invariant_of-result c)
