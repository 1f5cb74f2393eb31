use Rattle.std.proofs.Common.{◌==◌, true, false, refl, ap, sym, ◌∙◌, eq-eqb, ne_eqb}
use Rattle.jb_state.specs.Links.{thread_root}
use Rattle.jb_state.specs.LiveSlots.{linkables_from}
use Rattle.jb_link.proofs.ThreadLemmas.{passes_at, thread_step}
use Rattle.jb_link.proofs.threads.numbers_with_root.Goals as goal
use Rattle.jb_link.proofs.threads.numbers_with_root.Goals.{then-is_live_slot+then-roots-place+in_ok-push, else-is_live_slot, else-is_live_slot-via-then-is_live_slot+else-roots-place, else-is_live_slot-via-else-is_live_slot}

pub loop-place-preserved : goal.loop-place-preserved
loop-place-preserved c =
    elim c.if-is_live_slot.branch [
      | then-is_live_slot+then-roots-place+in_ok-push w ↦
          ap (λ v. v.items) w.numbers-is ∙ w.in_ok-push.ensures.items
          ∙ thread_step (λ one. thread_root (linkables_from c.args.base c.args.slots.now) one.number == c.args.root) c.args.base c.loop-place.place c.args.slots.now
          c.index-slots-place.result c.loop-place.numbers.items true true c.loop-place-test.true c.index-slots-place.is
          (sym c.is_live_slot.ensures ∙ w.if-is_live_slot.true)
          (passes_at (linkables_from c.args.base c.args.slots.now) c.args.base c.loop-place.place c.args.root c.args.roots.now true c.loop-place-test.true c.requires.roots
          (eq-eqb _ _ w.if-roots-place.true))
          c.loop-place.invariant
      | else-is_live_slot w ↦
          ap (λ v. v.items) w.numbers-is
          ∙ elim w.else-is_live_slot.branch [
            | else-is_live_slot-via-then-is_live_slot+else-roots-place w' ↦
                thread_step (λ one. thread_root (linkables_from c.args.base c.args.slots.now) one.number == c.args.root) c.args.base c.loop-place.place c.args.slots.now
                c.index-slots-place.result c.loop-place.numbers.items true false c.loop-place-test.true c.index-slots-place.is
                (sym c.is_live_slot.ensures ∙ w'.if-is_live_slot.true)
                (passes_at (linkables_from c.args.base c.args.slots.now) c.args.base c.loop-place.place c.args.root c.args.roots.now false c.loop-place-test.true c.requires.roots
                (ne_eqb _ _ w'.if-roots-place.false))
                c.loop-place.invariant
            | else-is_live_slot-via-else-is_live_slot w' ↦
                thread_step (λ one. thread_root (linkables_from c.args.base c.args.slots.now) one.number == c.args.root) c.args.base c.loop-place.place c.args.slots.now
                c.index-slots-place.result c.loop-place.numbers.items false _ c.loop-place-test.true c.index-slots-place.is
                (sym c.is_live_slot.ensures ∙ w'.if-is_live_slot.false)
                (passes_at (linkables_from c.args.base c.args.slots.now) c.args.base c.loop-place.place c.args.root c.args.roots.now _ c.loop-place-test.true c.requires.roots refl)
                c.loop-place.invariant
          ]
    ]
