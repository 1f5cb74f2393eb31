use Rattle.std.proofs.Common.{ap, arith, length, refl, subst, sym, ◌∙◌}
use Rattle.jb_index.specs.Cut.{NumbersRise}
use Rattle.jb_index.specs.Edit.{with_kept_subject}
use Rattle.jb_index.proofs.EditLemmas.{changed_count, changed_rises}
use Rattle.jb_index.proofs.MakingLemmas.{same_index}
use Rattle.jb_index.proofs.index.Index.set_subject.Goals as goal

pub invariant_of-self : goal.invariant_of-self
invariant_of-self c =
    let as_many = ap length c.set_subject.ensures.items ∙ changed_count c.args.number (with_kept_subject c.args.subject) c.self.inside.summaries.items in
    record {
      rising = subst NumbersRise (sym c.set_subject.ensures.items) (changed_rises c.args.number (with_kept_subject c.args.subject) c.self.inside.summaries.items (λ one. refl) c.self.invariant.rising);
      counted = omega (arith, as_many, c.self.invariant.counted);
      few = omega (arith, as_many, c.self.invariant.few);
      summaries_room = omega (arith, as_many, c.set_subject.ensures.room, c.self.invariant.summaries_room);
      marks_room = c.self.invariant.marks_room;
    }

pub returns : goal.returns
returns c = rw (← c.self.view_is) (same_index _ _ _ _ _ _ _ _ _ c.set_subject.ensures.items refl refl refl)
