use Rattle.std.proofs.Common.{◌≡◌, ◌++◌, ◌∷◌, [], ℕ, List, length, ap, sym, ◌∙◌, arith}
use Rattle.jb_bytes.specs.Spelled.{fields_in}
use Rattle.jb_bytes.specs.declared.subfield.Subfield.{Subfield}
use Rattle.jb_bytes.proofs.Spelled.{fields_in-list, list_in, pushed}
use Rattle.jb_bytes.proofs.subfield.Subfields.push.Goals as goal

pub invariant_of-self-2 : goal.invariant_of-self-2
invariant_of-self-2 c =
    let old = c.self.inside.bytes.items in
    let head = c.head_of-head.result in
    let content = c.as_slice-data.result.now in
    let new = c.extend_from_slice-2.new.self.items in
    let grown : new ≡ (old ++ head) ++ content =
    c.in-Ok-extend_from_slice.ensures.items
    ∙ ap (λ (l : List ℕ). l ++ content) (c.in-Ok.ensures.items ∙ ap (λ (l : List ℕ). l ++ head) c.in_ok-reserve.ensures.items) in
    list_in (fields_in old ++ c.args.field ∷ []) new
    (pushed old head content new (length content) c.args.field c.self.invariant (record { id = omega arith; hi = omega arith; size = omega (arith, ap length c.as_slice-data.ensures) }) grown c.head_of-head.ensures (ap length c.as_slice-data.ensures) c.as_slice-data.ensures)

pub returns-clause-ok : goal.returns-clause-ok
returns-clause-ok c =
    let old = c.self.inside.bytes.items in
    let head = c.head_of-head.result in
    let content = c.as_slice-data.result.now in
    let new = c.extend_from_slice-2.new.self.items in
    let grown : new ≡ (old ++ head) ++ content =
    c.in-Ok-extend_from_slice.ensures.items
    ∙ ap (λ (l : List ℕ). l ++ content) (c.in-Ok.ensures.items ∙ ap (λ (l : List ℕ). l ++ head) c.in_ok-reserve.ensures.items) in
    fields_in-list (fields_in old ++ c.args.field ∷ []) new
    (pushed old head content new (length content) c.args.field c.self.invariant (record { id = omega arith; hi = omega arith; size = omega (arith, ap length c.as_slice-data.ensures) }) grown c.head_of-head.ensures (ap length c.as_slice-data.ensures) c.as_slice-data.ensures)
    ∙ ap (λ (l : List Subfield). l ++ c.args.field ∷ []) c.self.view_is
