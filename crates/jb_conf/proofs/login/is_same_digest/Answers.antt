use Rattle.std.proofs.Common.{rules}
use Rattle.jb_conf.proofs.Differing.{differing_step}
use Rattle.jb_conf.proofs.login.is_same_digest.Goals as goal

pub loop-at-preserved : goal.loop-at-preserved
loop-at-preserved c = search (rules, differing_step)
