use Rattle.std.proofs.Common.{arith}
use Rattle.jb_bytes.specs.Name.{same_name}
use Rattle.jb_conf.proofs.OneNamed.{place_step}
use Rattle.jb_conf.proofs.login.place_of.Goals as goal

pub loop-at-preserved : goal.loop-at-preserved
loop-at-preserved c =
    let step = place_step (λ user. same_name user.user.name c.args.name.now) c.args.users.now c.loop-at.at c.index-users-at.result c.loop-at-test.true c.index-users-at.is in
    grind arith
