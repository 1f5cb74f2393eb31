use Rattle.std.proofs.Common.{◌∙◌, [], ap, arith, cond, length, refl, sym}
use Rattle.jb_limits.specs.declared.limits.TheConstants.{MOST_SLOTS}
use Rattle.jb_pack.proofs.FitLemmas.{headers_fit}
use Rattle.jb_pack.proofs.PlanLemmas.{base_put, base_within}
use Rattle.jb_pack.proofs.StateLemmas.{sum_of_kept}
use Rattle.jb_state.specs.Packed.{is_live_slot, slot_header_size, slot_text_size, texts_size}
use Rattle.jb_pack.specs.Plan.{lengths_with}
use Rattle.jb_pack.proofs.planning.put_base.Goals as goal

pub overflow_sub-base : goal.overflow_sub-base
overflow_sub-base c = let within = base_within c.args.loaded.now in let above = within.0 in omega (arith, c.requires.base)

pub kept_of-slots-requires-clause-within : goal.kept_of-slots-requires-clause-within
kept_of-slots-requires-clause-within c =
    let within = base_within c.args.loaded.now in
    let above = within.0 in
    let below = within.1 in
    omega (arith, c.requires.base)

pub put_lengths-requires-clause-headers : goal.put_lengths-requires-clause-headers
put_lengths-requires-clause-headers c = omega (arith, headers_fit MOST_SLOTS c.args.loaded.now c.requires.sound, c.requires.sizes.headers)

pub put_lengths-requires-clause-texts : goal.put_lengths-requires-clause-texts
put_lengths-requires-clause-texts c = omega (arith, c.requires.sizes.texts, c.requires.fits)

pub put_area-requires-clause-live : goal.put_area-requires-clause-live
put_area-requires-clause-live c =
    c.requires.sizes.live ∙ sym (sum_of_kept (λ slot. cond (is_live_slot slot) 1 0) refl (λ at. refl) c.args.loaded.now)

pub put_area-requires-clause-links : goal.put_area-requires-clause-links
put_area-requires-clause-links c = c.requires.links []

pub returns-clause-puts : goal.returns-clause-puts
returns-clause-puts c =
    base_put c.args.loaded.now c.put_lengths.new.redo c.put_area.new.redo
    (c.in_ok-put_lengths.ensures.lengths
    ∙ (λ i. lengths_with ((c.requires.sizes.headers ∙ sym (sum_of_kept slot_header_size refl (λ at. refl) c.args.loaded.now)) i)
    ((c.requires.sizes.texts ∙ sym (sum_of_kept slot_text_size refl (λ at. refl) c.args.loaded.now)) i) (length (c.kept_of-slots.ensures i))))
    c.in_ok-put_lengths.ensures.pieces c.in_ok-put_area.ensures.puts

pub put_area-requires-clause-texts : goal.put_area-requires-clause-texts
put_area-requires-clause-texts c =
    omega (arith, c.requires.fits, sum_of_kept slot_text_size refl (λ at. refl) c.args.loaded.now, ap texts_size c.kept_of-slots.ensures)
