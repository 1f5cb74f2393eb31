use Rattle.std.proofs.Common.{refl, subst, sym, arith}
use Rattle.jb_index.specs.Cut.{NumbersRise}
use Rattle.jb_index.proofs.EditLemmas.{without_rises}
use Rattle.jb_index.proofs.MakingLemmas.{same_index}
use Rattle.jb_index.proofs.index.Index.drop_number.Goals as goal

pub invariant_of-self : goal.invariant_of-self
invariant_of-self c = record {
  rising = subst NumbersRise (sym c.remove.ensures.items) (without_rises c.args.number c.self.inside.summaries.items c.self.invariant.rising);
  counted = omega (arith, c.remove.ensures.fewer, c.self.invariant.counted);
  few = omega (arith, c.remove.ensures.fewer, c.self.invariant.few);
  summaries_room = omega (arith, c.remove.ensures.places, c.self.invariant.summaries_room);
  marks_room = c.self.invariant.marks_room;
}

pub returns : goal.returns
returns c = rw (← c.self.view_is) (same_index _ _ _ _ _ _ _ _ _ c.remove.ensures.items refl refl refl)
