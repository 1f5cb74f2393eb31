use Rattle.jb_msgid.proofs.OneAnswer.{only_bad_quote, only_empty, only_no_serial, only_value}
use Rattle.jb_msgid.proofs.reading.parse.Goals as goal

pub returns-clause-value : goal.returns-clause-value
returns-clause-value c = only_value c.args.text.now c.read.result c.read.ensures

pub returns-clause-no_serial : goal.returns-clause-no_serial
returns-clause-no_serial c = only_no_serial c.args.text.now c.read.result c.read.ensures

pub returns-clause-bad_quote : goal.returns-clause-bad_quote
returns-clause-bad_quote c = only_bad_quote c.args.text.now c.read.result c.read.ensures

pub returns-clause-empty : goal.returns-clause-empty
returns-clause-empty c = only_empty c.args.text.now c.read.result c.read.ensures
