use Rattle.jb_change.proofs.BaseLemmas.{makes_base}
use Rattle.jb_change.proofs.base.put_base.Goals as goal

pub returns : goal.returns
returns c = makes_base c.args.moment c.put.new.redo c.put.ensures.lengths c.put.ensures.pieces c.put.ensures.back
