use Rattle.std.proofs.Common.{◌%◌, ap, arith, length, refl, ◌∙◌}
use Rattle.std.proofs.lemmas.List.{length-set}
use Rattle.std.specs.VecDeque.{deque_with_item}
use Rattle.jb_tiered.proofs.FlatLemmas.{replaced}
use Rattle.jb_tiered.specs.Pieces.{items_of}
use Rattle.jb_tiered.proofs.tiered.Tiered.set.Goals as goal

pub invariant_of-self : goal.invariant_of-self
invariant_of-self g c =
    let below = rw (← c.self.view_is) at c.requires in
    let put = replaced c.self.inside.len c.args.at c.self.inside.pieces.items c.index_mut-piece.result.now
    (deque_with_item c.index_mut-piece.result.now (c.args.at % 512) c.args.item) c.args.item c.self.invariant.filled
    (omega (arith, c.self.invariant.counted)) (omega (arith, c.self.invariant.counted, c.self.invariant.within)) c.index_mut-piece.ensures.value refl refl refl in
    record {
      filled = put.filled;
      counted = ap length put.items ∙ length-set (items_of c.self.inside.pieces.items) c.args.at c.args.item ∙ c.self.invariant.counted;
      within = omega (arith, put.as_many, c.self.invariant.within);
      few = omega (arith, put.as_many, c.self.invariant.few);
    }

pub returns-clause-items : goal.returns-clause-items
returns-clause-items g c =
    let below = rw (← c.self.view_is) at c.requires in
    let put = replaced c.self.inside.len c.args.at c.self.inside.pieces.items c.index_mut-piece.result.now
    (deque_with_item c.index_mut-piece.result.now (c.args.at % 512) c.args.item) c.args.item c.self.invariant.filled
    (omega (arith, c.self.invariant.counted)) (omega (arith, c.self.invariant.counted, c.self.invariant.within)) c.index_mut-piece.ensures.value refl refl refl in
    rw (← c.self.view_is) put.items
