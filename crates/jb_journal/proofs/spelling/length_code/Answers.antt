use Rattle.std.proofs.Common.{◌∙◌}
use Rattle.jb_journal.proofs.RecordLemmas.{length-spelled, eight-bytes}
use Rattle.jb_journal.proofs.spelling.length_code.Goals as goal

pub returns : goal.returns
returns c = length-spelled c.args.entry _ _ c.number.ensures (c.to_le_bytes.ensures ∙ eight-bytes c.args.entry.len)
