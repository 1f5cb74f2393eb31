use Rattle.std.proofs.Common.{◌≤◌, ap, subst, arith, length, List}
use mathlib.Core.List.{IsPrefix}
use Rattle.jb_publish.proofs.Fronts.{prefix_shorter}
use Rattle.jb_publish.proofs.front.Front.begins.Goals as goal

pub returns : goal.returns
returns g c =
    let both = c.learn.new.self.log in
    let this : IsPrefix c.args.self.now.seen.log both = subst (λ (l : List g.row.E.Denot). IsPrefix l both) (ap (λ s. s.log) c.again-both.ensures) c.learn.ensures.2 in
    let less : length c.args.self.now.seen.log ≤ length c.args.other.now.seen.log = omega (arith, c.args.self.now.counted, c.args.other.now.counted, c.requires.1) in
    prefix_shorter c.args.self.now.seen.log c.args.other.now.seen.log both this c.learn.ensures.3 less
