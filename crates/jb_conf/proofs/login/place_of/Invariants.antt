use Rattle.std.proofs.Common.{◌≡◌, position, take}
use Rattle.jb_bytes.specs.Name.{same_name}
use Rattle.jb_conf.proofs.login.place_of.Given as goal

abbrev pub invariant-loop-at : goal.invariant-loop-at
invariant-loop-at l = l.place ≡ position (λ user. same_name user.user.name l.name) (take l.at l.users)
