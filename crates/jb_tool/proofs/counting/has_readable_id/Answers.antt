use Rattle.std.proofs.Common.{sym}
use Rattle.jb_tool.proofs.CountLemmas.{read_answered}
use Rattle.jb_tool.proofs.counting.has_readable_id.Goals as goal

pub returns : goal.returns
returns c = read_answered c.args.fields.now c.in-Some.text.now (sym c.in-Some.ensures) c.parse-answer.result c.parse-answer.ensures.cause c.parse-answer.ensures.value c.is_read.result c.is_read.ensures
