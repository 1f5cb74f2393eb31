use Rattle.std.proofs.Common.{◌∙◌, ◌+◌, ap, arith, sym}
use Rattle.std.specs.List.{position_or_len}
use Rattle.jb_pack.proofs.PlanLemmas.{base_within, new_base_at}
use Rattle.jb_pack.proofs.StateLemmas.{base_packed, killed_of_state, live_of_state, texts_of_state}
use Rattle.jb_state.specs.Packed.{is_live_slot}
use Rattle.jb_pack.proofs.planning.packing_of.Goals as goal

pub returns-then-sizes-gt-TEXTS_CEILING-clause-answer : goal.returns-then-sizes-gt-TEXTS_CEILING-clause-answer
returns-then-sizes-gt-TEXTS_CEILING-clause-answer c = λ texts size.
    let loaded = c.args.loaded.now in
    let together = texts_of_state loaded.headers_len loaded.texts_len texts loaded.slots size c.requires.sound.within in
    let same = c.requires.sizes.texts in
    (omega (arith, together, same, c.if-sizes-gt-TEXTS_CEILING.true), same ∙ sym together)

pub overflow_cast-result : goal.overflow_cast-result
overflow_cast-result c =
    let within = base_within c.args.loaded.now in
    let below = within.1 in
    omega (arith, c.first_live.ensures ∙ ap (position_or_len is_live_slot) c.as_slice.ensures, new_base_at c.args.loaded.now, c.requires.sound.numbers)

pub overflow_add-result : goal.overflow_add-result
overflow_add-result c =
    let within = base_within c.args.loaded.now in
    let below = within.1 in
    omega (arith, c.first_live.ensures ∙ ap (position_or_len is_live_slot) c.as_slice.ensures, new_base_at c.args.loaded.now, c.requires.sound.numbers)

pub returns-clause-answer : goal.returns-clause-answer
returns-clause-answer c = λ texts size.
    let loaded = c.args.loaded.now in
    record {
      fits = omega (arith, texts_of_state loaded.headers_len loaded.texts_len texts loaded.slots size c.requires.sound.within, c.requires.sizes.texts, c.if-sizes-gt-TEXTS_CEILING.false);
      base = ap (λ n. loaded.base + n) (c.first_live.ensures ∙ ap (position_or_len is_live_slot) c.as_slice.ensures) ∙ sym (new_base_at loaded) ∙ sym (base_packed texts loaded);
      live = c.requires.sizes.live ∙ sym (live_of_state texts loaded.slots);
      dropped = c.requires.sizes.killed ∙ sym (killed_of_state texts loaded.slots);
    }

pub returns-clause-fits : goal.returns-clause-fits
returns-clause-fits c =
    let fits = c.if-sizes-gt-TEXTS_CEILING.false in (
      ap (λ n. c.args.loaded.now.base + n) (c.first_live.ensures ∙ ap (position_or_len is_live_slot) c.as_slice.ensures) ∙ sym (new_base_at c.args.loaded.now),
      omega (arith, c.requires.sizes.texts),
    )
