use Rattle.std.proofs.Common.{◌≡◌, ◌≤◌, ◌+◌, ap, arith, length, ◌∙◌}
use Rattle.std.specs.Prelude.{insert}
use Rattle.std.proofs.lemmas.List.Edits.{length-insert}
use Rattle.jb_tiered.proofs.FlatLemmas.{put_in}
use Rattle.jb_tiered.specs.Pieces.{items_of}
use Rattle.jb_tiered.proofs.tiered.Tiered.insert.Goals as goal

pub invariant_of-self : goal.invariant_of-self
invariant_of-self g c =
    let below = rw (← c.self.view_is) at c.requires.at in
    let room = rw (← c.self.view_is) at c.requires.room in
    let put = put_in c.self.inside.len c.args.at c.open_gap.new.pieces.items c.index_mut.result.now c.insert.new.self c.args.item c.open_gap.ensures.gap
    (omega (arith, c.self.invariant.counted)) (omega (arith, c.self.invariant.counted, c.self.invariant.within, c.open_gap.ensures.length))
    c.index_mut.ensures.value c.in-Ok.ensures.items c.in-Ok.ensures.len c.in-Ok.ensures.capacity in
    let same : length (items_of c.open_gap.new.pieces.items) ≡ c.self.inside.len = ap length c.open_gap.ensures.items ∙ c.self.invariant.counted in
    let within : c.args.at ≤ length (items_of c.open_gap.new.pieces.items) = omega (arith, c.self.invariant.counted) in
    record {
      filled = put.filled;
      counted = ap length put.items ∙ length-insert (items_of c.open_gap.new.pieces.items) c.args.at c.args.item within ∙ ap (λ n. n + 1) same;
      within = omega (arith, put.as_many, c.open_gap.ensures.length);
      few = omega (arith, put.as_many, c.open_gap.ensures.length, c.self.invariant.few);
    }

pub returns-clause-items : goal.returns-clause-items
returns-clause-items g c =
    let below = rw (← c.self.view_is) at c.requires.at in
    let room = rw (← c.self.view_is) at c.requires.room in
    let put = put_in c.self.inside.len c.args.at c.open_gap.new.pieces.items c.index_mut.result.now c.insert.new.self c.args.item c.open_gap.ensures.gap
    (omega (arith, c.self.invariant.counted)) (omega (arith, c.self.invariant.counted, c.self.invariant.within, c.open_gap.ensures.length))
    c.index_mut.ensures.value c.in-Ok.ensures.items c.in-Ok.ensures.len c.in-Ok.ensures.capacity in
    rw (← c.self.view_is) (put.items ∙ ap (λ xs. insert xs c.args.at c.args.item) c.open_gap.ensures.items)
