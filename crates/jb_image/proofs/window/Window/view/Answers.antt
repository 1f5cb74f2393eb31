use Rattle.std.proofs.Common.{◌≡◌, ℕ, ◌+◌, ◌-◌, List, take, drop, ap, ◌∙◌, arith}
use Rattle.jb_image.specs.Windows.{seen_at}
use Rattle.jb_image.proofs.window.Window.view.Goals as goal

pub returns-clause-value : goal.returns-clause-value
unfolding seen_at
returns-clause-value c =
    let from : ℕ = c.args.at - c.args.self.now.at in
    let size : from + c.args.len - from ≡ c.args.len = omega arith in
    ap (λ (n : ℕ). take n (drop from c.deref.result.now)) size ∙ ap (λ (l : List ℕ). take c.args.len (drop from l)) c.deref.ensures.value
