use Rattle.std.proofs.Common.{◌≡◌, ◌++◌, [], List, ℕ, Bool, ap, sym, ◌∙◌}
use Rattle.std.proofs.lemmas.List.{append-nil}
use Rattle.jb_bytes.proofs.Spelled.{fields_in-list, list_in, none_left, peeled}
use Rattle.jb_bytes.specs.Spelled.{fields_in}
use Rattle.jb_bytes.specs.declared.subfield.Subfield.{Subfield}
use Rattle.jb_state.specs.Edited.{with_subject}
use Rattle.jb_plain.specs.Changes.{with_subject_in_rest}
use Rattle.jb_plain.proofs.edit.with_subject.Goals as goal

pub loop-part-init : goal.loop-part-init
loop-part-init c =
    let fields : List Subfield = c.args.subfields.now in
    let bytes : List ℕ = c.as_bytes-rest.result.now in
    record {
      list = list_in fields bytes c.as_bytes-rest.ensures;
      same =
          ap (λ (l : List Subfield). l ++ with_subject c.args.subject.now (fields_in bytes)) c.new-made.ensures
          ∙ ap (with_subject c.args.subject.now) (fields_in-list fields bytes c.as_bytes-rest.ensures);
    }

pub loop-part-preserved : goal.loop-part-preserved
loop-part-preserved c =
    let rest = c.loop-part.rest.now in
    let part = c.in-Some.part in
    let field : Subfield = record { id = part.id; hi = part.hi; bytes = part.content.now } in
    let others = peeled (fields_in rest) rest field part.behind.now c.loop-part.invariant.list c.in-Some.ensures in
    record {
      list = others.1;
      same =
          c.in_ok-named.ensures (fields_in part.behind.now)
          ∙ ap (λ (l : List Subfield). c.loop-part.made ++ with_subject_in_rest c.loop-part.named c.args.subject.now l) (sym others.0)
          ∙ c.loop-part.invariant.same;
    }

pub returns-then-named : goal.returns-then-named
returns-then-named c =
    let rest = c.loop-part.rest.now in
    let none : fields_in rest ≡ [] = none_left (fields_in rest) rest c.loop-part.invariant.list c.in_default.ensures in
    sym (append-nil c.loop-part.made)
    ∙ ap (λ (l : List Subfield). c.loop-part.made ++ l) (sym none)
    ∙ ap (λ (b : Bool). c.loop-part.made ++ with_subject_in_rest b c.args.subject.now (fields_in rest)) (sym c.if-named.true)
    ∙ c.loop-part.invariant.same

pub returns : goal.returns
returns c =
    let rest = c.loop-part.rest.now in
    let none : fields_in rest ≡ [] = none_left (fields_in rest) rest c.loop-part.invariant.list c.in_default.ensures in
    c.in_ok-put_copy.ensures
    ∙ ap (λ (l : List Subfield). c.loop-part.made ++ with_subject c.args.subject.now l) (sym none)
    ∙ ap (λ (b : Bool). c.loop-part.made ++ with_subject_in_rest b c.args.subject.now (fields_in rest)) (sym c.if-named.false)
    ∙ c.loop-part.invariant.same
