use Rattle.jb_plain.proofs.SubjectLaws.{edited_owned}
use Rattle.jb_plain.proofs.edit.edited.Goals as goal

pub returns : goal.returns
returns c =
    edited_owned c.args.subject.now c.args.text.now c.args.message.now c.in_ok-subfields.subfields c.in_ok-text.text c.in_ok-subfields.ensures c.in_ok-text.ensures
