use Rattle.jb_subfield.proofs.Spelling.{only_list, only_place, one_list, prefix_free}
use Rattle.jb_subfield.proofs.coding.decode.Goals as goal

pub returns-clause-found : goal.returns-clause-found
returns-clause-found c = only_list c.args.bytes.now c.read.result c.read.ensures

pub returns-clause-cut : goal.returns-clause-cut
returns-clause-cut c = only_place c.args.bytes.now c.read.result c.read.ensures

pub returns-clause-prefix_free : goal.returns-clause-prefix_free
returns-clause-prefix_free c = prefix_free

pub returns-clause-alone : goal.returns-clause-alone
returns-clause-alone c = one_list
