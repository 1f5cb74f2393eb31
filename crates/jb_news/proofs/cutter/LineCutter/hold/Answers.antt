use Rattle.std.proofs.Common.{◌<◌, ◌≤◌, ◌∙◌, length, arith}
use Rattle.jb_news.proofs.Held.{held_full, held_whole}
use Rattle.jb_news.proofs.cutter.LineCutter.hold.Goals as goal

pub returns-then-len-lt-MOST_HELD : goal.returns-then-len-lt-MOST_HELD
returns-then-len-lt-MOST_HELD c =
    let few : length c.args.self.now < 512 = omega arith in
    c.put.ensures ∙ held_whole c.args.self.now c.args.byte few

pub returns-else-len-lt-MOST_HELD : goal.returns-else-len-lt-MOST_HELD
returns-else-len-lt-MOST_HELD c =
    let full : 512 ≤ length c.args.self.now = omega arith in
    let most : length c.args.self.now ≤ 512 = omega arith in
    held_full c.args.self.now c.args.byte full most
