use Rattle.std.proofs.Common.{◌<◌, ap, arith, length, sym, ◌∙◌}
use Rattle.std.proofs.lemmas.List.Edits.{length-remove}
use Rattle.jb_tiered.proofs.FlatLemmas.{stands_in, taken_out}
use Rattle.jb_tiered.specs.Pieces.{items_of}
use Rattle.jb_tiered.proofs.tiered.Tiered.remove.Goals as goal

pub invariant_of-self : goal.invariant_of-self
invariant_of-self g c =
    let below = rw (← c.self.view_is) at c.requires in
    let taken = taken_out c.self.inside.len c.args.at c.self.inside.pieces.items c.index_mut.result.now c.remove.new.self c.self.invariant.filled
    (omega (arith, c.self.invariant.counted)) (omega (arith, c.self.invariant.counted, c.self.invariant.within))
    c.index_mut.ensures.value c.in-Some.ensures.items c.in-Some.ensures.len c.in-Some.ensures.capacity in
    let within : c.args.at < length (items_of c.self.inside.pieces.items) = below in
    let less = length-remove (items_of c.self.inside.pieces.items) c.args.at within in
    let same = ap length (c.close_gap.ensures.items ∙ taken.items) in
    record {
      filled = c.close_gap.ensures.filled;
      counted = omega (arith, same, less, c.self.invariant.counted);
      within = omega (arith, taken.as_many, c.close_gap.ensures.length, c.self.invariant.within);
      few = omega (arith, taken.as_many, c.close_gap.ensures.length, c.self.invariant.few);
    }

pub returns-clause-value : goal.returns-clause-value
returns-clause-value g c =
    let below = rw (← c.self.view_is) at c.requires in
    rw (← c.self.view_is)
    (c.in-Some.ensures.value
    ∙ sym (stands_in c.self.inside.len c.args.at c.self.inside.pieces.items c.index_mut.result.now c.in-Some.item c.self.invariant.filled
    (omega (arith, c.self.invariant.counted)) (omega (arith, c.self.invariant.counted, c.self.invariant.within)) c.index_mut.ensures.value).1)

pub returns-clause-items : goal.returns-clause-items
returns-clause-items g c =
    let below = rw (← c.self.view_is) at c.requires in
    let taken = taken_out c.self.inside.len c.args.at c.self.inside.pieces.items c.index_mut.result.now c.remove.new.self c.self.invariant.filled
    (omega (arith, c.self.invariant.counted)) (omega (arith, c.self.invariant.counted, c.self.invariant.within))
    c.index_mut.ensures.value c.in-Some.ensures.items c.in-Some.ensures.len c.in-Some.ensures.capacity in
    rw (← c.self.view_is) (c.close_gap.ensures.items ∙ taken.items)
