use Rattle.jb_subfield.proofs.Walked.{further}
use Rattle.jb_subfield.proofs.coding.cut_of.Goals as goal

pub loop-rest-preserved : goal.loop-rest-preserved
loop-rest-preserved c =
    let part = c.in-Some.part in
    further c.args.bytes.now c.loop-rest.rest.now (record { id = part.id; hi = part.hi; bytes = part.content.now }) part.behind.now c.loop-rest.invariant c.in-Some.ensures
