use Rattle.std.proofs.Common.{ap, arith, length, ◌∙◌}
use Rattle.jb_tiered.proofs.CopyLemmas.{as_many, filled_alike, same_items}
use Rattle.jb_tiered.proofs.tiered.Tiered.copied.Goals as goal

pub invariant_of-copy : goal.invariant_of-copy
invariant_of-copy g c =
    let copies = c.in_ok-copied_pieces.ensures in
    let many = as_many c.self.inside.pieces.items c.in_ok-copied_pieces.field-0.items copies in
    record {
      filled = filled_alike c.self.inside.len c.self.inside.pieces.items c.in_ok-copied_pieces.field-0.items c.self.invariant.filled copies;
      counted = ap length (same_items c.self.inside.pieces.items c.in_ok-copied_pieces.field-0.items copies) ∙ c.self.invariant.counted;
      within = omega (arith, many, c.self.invariant.within);
      few = omega (arith, many, c.self.invariant.few);
    }

pub returns-clause-items : goal.returns-clause-items
returns-clause-items g c =
    rw (← c.self.view_is)
    (c.in_ok-reserve.ensures.items ∙ same_items c.self.inside.pieces.items c.in_ok-copied_pieces.field-0.items c.in_ok-copied_pieces.ensures)
