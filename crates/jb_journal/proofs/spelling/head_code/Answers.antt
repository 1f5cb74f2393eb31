use Rattle.std.proofs.Common.{◌∙◌}
use Rattle.jb_journal.proofs.RecordLemmas.{head-spelled, eight-bytes}
use Rattle.jb_journal.proofs.spelling.head_code.Goals as goal

pub returns : goal.returns
returns c = head-spelled c.args.head _ _ _ _ _ c.kind_code-kind.ensures c.number-to.ensures c.source_code-from.ensures (c.to_le_bytes.ensures ∙ eight-bytes c.args.head.to_at) (c.to_le_bytes-2.ensures ∙ eight-bytes c.args.head.len)
