use Rattle.std.proofs.Common.{subst, sym, arith}
use Rattle.jb_index.specs.Cut.{NumbersRise}
use Rattle.jb_index.proofs.EditLemmas.{with_rises}
use Rattle.jb_index.proofs.index.Index.put.Goals as goal

pub invariant_of-self : goal.invariant_of-self
invariant_of-self c = record {
  rising = subst NumbersRise (sym c.if-put.ensures.items) (with_rises c.args.one.now c.self.inside.summaries.items c.self.invariant.rising);
  counted = omega (arith, c.if-put.ensures.places.few);
  few = c.if-put.ensures.places.few;
  summaries_room = c.if-put.ensures.places.places;
  marks_room = c.self.invariant.marks_room;
}
