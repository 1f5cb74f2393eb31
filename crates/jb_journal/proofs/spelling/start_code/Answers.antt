use Rattle.std.proofs.Common.{◌∙◌}
use Rattle.jb_journal.proofs.RecordLemmas.{start-spelled, four-bytes, eight-bytes}
use Rattle.jb_journal.proofs.spelling.start_code.Goals as goal

pub returns : goal.returns
returns c = start-spelled c.args.change c.args.count _ _ (c.to_le_bytes.ensures ∙ eight-bytes c.args.change) (c.to_le_bytes-2.ensures ∙ four-bytes c.args.count)
