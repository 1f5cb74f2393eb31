use Rattle.std.proofs.Common.{◌≡◌, rules, get_or, unwrap_or, arith}
use Rattle.std.proofs.lemmas.Grind.{common_steps}
use Rattle.jb_conf.proofs.OneNamed.{login_is}
use Rattle.jb_conf.proofs.login.check_login.Goals as goal

pub returns-then-is_some-is_right : goal.returns-then-is_some-is_right
returns-then-is_some-is_right c =
    let is : get_or c.args.board.now.users (unwrap_or c.place_of-place.result 0) c.in_ok-user.user.now ≡ c.in_ok-user.user.now = grind (arith, common_steps) in
    let step = login_is c.args.name.now c.args.password.now c.args.board.now.users c.place_of-place.result c.in_ok-user.user.now c.args.board.now.in_range.user_values (search rules) is in
    grind (arith, common_steps)

pub returns-else-is_some-is_right : goal.returns-else-is_some-is_right
returns-else-is_some-is_right c =
    let is : get_or c.args.board.now.users (unwrap_or c.place_of-place.result 0) c.in_ok-user.user.now ≡ c.in_ok-user.user.now = grind (arith, common_steps) in
    let step = login_is c.args.name.now c.args.password.now c.args.board.now.users c.place_of-place.result c.in_ok-user.user.now c.args.board.now.in_range.user_values (search rules) is in
    grind (arith, common_steps)
