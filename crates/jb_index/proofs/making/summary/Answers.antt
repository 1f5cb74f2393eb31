use Rattle.std.proofs.Common.{◌∙◌, ap, arith, length}
use Rattle.jb_bytes.specs.Subfields.{receiver_of, sender_of}
use Rattle.jb_bytes.specs.declared.subfield.TheConstants.{RECEIVER_NAME, SENDER_NAME, SUBJECT}
use Rattle.jb_state.specs.Message.{subject_of}
use Rattle.jb_state.specs.Short.{short_of}
use Rattle.jb_index.proofs.MakingLemmas.{field_is_short, same_summary}
use Rattle.jb_index.proofs.making.summary.Goals as goal

pub of-requires : goal.of-requires
of-requires c = omega (arith, field_is_short SENDER_NAME c.args.message.now.subfields, ap length c.field.ensures)

pub of-requires-2 : goal.of-requires-2
of-requires-2 c = omega (arith, field_is_short RECEIVER_NAME c.args.message.now.subfields, ap length c.field-2.ensures)

pub of-requires-3 : goal.of-requires-3
of-requires-3 c = omega (arith, field_is_short SUBJECT c.args.message.now.subfields, ap length c.field-3.ensures)

pub returns : goal.returns
returns c =
    same_summary c.args.number c.args.message.now.head.written c.args.message.now.head.attribute c.args.parent c.of.result (short_of 36 (sender_of c.args.message.now.subfields))
    c.of-2.result (short_of 36 (receiver_of c.args.message.now.subfields)) c.of-3.result (short_of 72 (subject_of c.args.message.now.subfields))
    (c.of.ensures ∙ ap (short_of 36) c.field.ensures) (c.of-2.ensures ∙ ap (short_of 36) c.field-2.ensures) (c.of-3.ensures ∙ ap (short_of 72) c.field-3.ensures)
