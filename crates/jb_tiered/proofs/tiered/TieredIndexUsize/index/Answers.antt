use Rattle.std.proofs.Common.{arith, sym, ◌∙◌}
use Rattle.jb_tiered.proofs.FlatLemmas.{stands_in}
use Rattle.jb_tiered.proofs.tiered.TieredIndexUsize.index.Goals as goal

pub returns : goal.returns
returns g c =
    let below = rw (← c.self.view_is) at c.requires in
    rw (← c.self.view_is)
    (c.index-2.ensures
    ∙ sym (stands_in c.self.inside.len c.args.at c.self.inside.pieces.items c.index.result.now c.index-2.result.now c.self.invariant.filled
    (omega (arith, c.self.invariant.counted)) (omega (arith, c.self.invariant.counted, c.self.invariant.within)) c.index.ensures).1)
