use Rattle.std.proofs.Common.{ap, sym, ◌∙◌}
use Rattle.jb_bytes.specs.Spelled.{fields_in}
use Rattle.jb_bytes.specs.Subfields.{first_of}
use Rattle.jb_bytes.specs.declared.subfield.Subfield.{Subfield}
use Rattle.jb_bytes.proofs.Spelled.{first_other, none_left, peeled}
use Rattle.jb_bytes.proofs.subfield.Subfields.first.Goals as goal

pub loop-part-preserved : goal.loop-part-preserved
loop-part-preserved c =
    let rest = c.loop-part.rest.now in
    let part = c.in-Some.part in
    let field : Subfield = record { id = part.id; hi = part.hi; bytes = part.content.now } in
    let others = peeled (fields_in rest) rest field part.behind.now c.loop-part.invariant.0 c.in-Some.ensures in (
      others.1,
      c.loop-part.invariant.1 ∙ ap (first_of c.args.id) others.0 ∙ first_other c.args.id field (fields_in part.behind.now) c.if-part-id.false,
    )

pub returns : goal.returns
returns c =
    let rest = c.loop-part.rest.now in
    sym (c.loop-part.invariant.1 ∙ ap (first_of c.args.id) (none_left (fields_in rest) rest c.loop-part.invariant.0 c.in_default.ensures))
