use Rattle.std.proofs.Common.{ap, arith, length, length-append, ◌+◌, ◌∷◌, [], ◌∙◌}
use Rattle.jb_tiered.proofs.FlatLemmas.{pushed}
use Rattle.jb_tiered.specs.Pieces.{items_of}
use Rattle.jb_tiered.proofs.tiered.Tiered.push.Goals as goal

pub invariant_of-self : goal.invariant_of-self
invariant_of-self g c =
    let room = rw (← c.self.view_is) at c.requires in
    let put = pushed c.self.inside.len c.self.inside.pieces.items c.index_mut.result.now c.push_back_reserved.new.self c.args.item c.self.invariant.filled c.self.invariant.counted
    (omega (arith, room)) c.index_mut.ensures.value c.push_back_reserved.ensures.items c.push_back_reserved.ensures.len c.push_back_reserved.ensures.capacity in
    record {
      filled = put.filled;
      counted = ap length put.items ∙ length-append (items_of c.self.inside.pieces.items) (c.args.item ∷ []) ∙ ap (λ n. n + 1) c.self.invariant.counted;
      within = omega (arith, put.as_many, room);
      few = omega (arith, put.as_many, c.self.invariant.few);
    }

pub returns-clause-items : goal.returns-clause-items
returns-clause-items g c =
    let room = rw (← c.self.view_is) at c.requires in
    let put = pushed c.self.inside.len c.self.inside.pieces.items c.index_mut.result.now c.push_back_reserved.new.self c.args.item c.self.invariant.filled c.self.invariant.counted
    (omega (arith, room)) c.index_mut.ensures.value c.push_back_reserved.ensures.items c.push_back_reserved.ensures.len c.push_back_reserved.ensures.capacity in
    rw (← c.self.view_is) put.items
