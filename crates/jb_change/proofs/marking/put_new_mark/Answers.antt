use Rattle.jb_change.proofs.MarkLemmas.{appends_mark, makes_mark, size_of_mark}
use Rattle.jb_change.proofs.marking.put_new_mark.Goals as goal

pub returns-clause-makes : goal.returns-clause-makes
returns-clause-makes c = makes_mark c.args.count c.args.mark.now c.requires.few c.put.ensures.back c.put.new.redo c.put.ensures.lengths c.put.ensures.pieces

pub returns-clause-size : goal.returns-clause-size
returns-clause-size c = size_of_mark c.args.count c.args.mark.now c.requires.few c.put.new.redo c.put.ensures.lengths c.put.ensures.pieces

pub returns-clause-appends : goal.returns-clause-appends
returns-clause-appends c = appends_mark c.args.count c.args.mark.now c.requires.few c.put.new.redo c.put.ensures.lengths c.put.ensures.pieces
