-- How much of the texts a pack has to copy still: each step makes it less.
use Rattle.std.proofs.Common.{◌≡◌, inl, inr, ℕ, ◌+◌, ◌<◌, ◌≤◌, Bool, true, false, cond, nat_lt, List, [], ◌∷◌, length, drop, get_or, Option, ap, sym, subst, arith, ltb-true, lt-ltb, le-ltb}
use Rattle.std.specs.Prelude.{sum}
use Rattle.std.proofs.lemmas.Bool.{cases_lt}
use Rattle.std.proofs.lemmas.List.{drop_all}
use Rattle.std.proofs.lemmas.List.Elements.{All-get_or}
use Rattle.std.proofs.lemmas.List.Sums.{sum_by-cons, sum_by-take-drop, sum_by-take-le}
use Rattle.jb_limits.specs.declared.limits.TheConstants.{MOST_TEXT_BYTES, SHADOW_CEILING, TEXTS_CEILING}
use Rattle.jb_state.specs.Sound.{IsSlotWithin, IsSound}
use Rattle.jb_state.specs.declared.loaded.Loaded.{Loaded}
use Rattle.jb_state.specs.declared.loaded.LoadedSlot.{LoadedSlot}
use Rattle.jb_state.specs.declared.loaded.LoadedSlot.TheVariants.{Empty, Killed, Live}
use Rattle.jb_pack.proofs.PackerLemmas.{left_then}
use Rattle.jb_pack.proofs.ShadowLemmas.{left-all, left-le, left-more, length-lefts}
use Rattle.jb_pack.specs.Advance.{Copies, CopiesAnew, CopiesWithin}
use Rattle.jb_state.specs.Packed.{slot_text_size, texts_size}
use Rattle.jb_pack.specs.Shadow.{Shadow, left, left_of, lefts, not_copied, nothing_copied}
use Rattle.jb_pack.specs.declared.copied.CopiedText.{CopiedText}
use Rattle.jb_area.specs.declared.calls.TheConstants.{ALL_TEXTS}
use Rattle.jb_area.specs.Copying.{HasCopiedSome, begun_of}

-- so many bytes, of which so many are left: where there are more than .NDT may have, it begins anew once more
abbrev to_do_of : ℕ → ℕ → ℕ
to_do_of whole more = cond (nat_lt SHADOW_CEILING whole) (SHADOW_CEILING + 1 + more) more

-- what is left to do, and whether that is all, before anything is copied
abbrev pub to_do : List LoadedSlot → Shadow → ℕ
to_do slots shadow = to_do_of (shadow.len + left shadow slots) (left shadow slots)

-- and behind a step, which says whether a text is left
abbrev pub to_do_with : Bool → List LoadedSlot → Shadow → ℕ
to_do_with more slots shadow = cond more (1 + to_do slots shadow) 0

-- fewer of as many
fewer_of : (b : Bool) (less more : ℕ) → less < more → cond b (SHADOW_CEILING + 1 + less) less < cond b (SHADOW_CEILING + 1 + more) more
fewer_of true less more low = omega (arith, low)
fewer_of false less more low = low

-- no slot has a longer text than a message may have
text_most : (headers_len texts_len : ℕ) (slot : LoadedSlot) → IsSlotWithin headers_len texts_len slot → slot_text_size slot ≤ MOST_TEXT_BYTES
text_most headers_len texts_len Empty within = omega arith
text_most headers_len texts_len (Killed at) within = omega arith
text_most headers_len texts_len (Live message) within = within.text.short

-- no more is left than there is
left_most : (copies : List CopiedText) (slots : List LoadedSlot) → sum (lefts copies slots) ≤ texts_size slots
left_most [] [] = omega arith
left_most (copied ∷ copies) [] = omega arith
left_most [] (slot ∷ slots) =
    omega (arith, sum_by-cons (λ (n : ℕ). n) (slot_text_size slot) (lefts [] slots), sum_by-cons slot_text_size slot slots, left_most [] slots)
left_most (copied ∷ copies) (slot ∷ slots) =
    omega (arith, sum_by-cons (λ (n : ℕ). n) (left_of copied slot) (lefts copies slots), sum_by-cons slot_text_size slot slots, left-le copied slot, left_most copies slots)

module _ (limit : ℕ) (loaded : Loaded) (sound : IsSound limit loaded) where
  -- where a text is left that did not fit, one was copied
  within_fewer : (old new : Shadow) → CopiesWithin ALL_TEXTS loaded.slots old new → 0 < left new loaded.slots → left new loaded.slots < left old loaded.slots
  within_fewer old new is some = elim (cases_lt is.count (length loaded.slots)) [
    | inl low ↦ elim is.stops [
      | inl all ↦ absurd (omega (arith, all, low))
      | inr past ↦
          let most : slot_text_size (get_or loaded.slots is.count Empty) ≤ MOST_TEXT_BYTES =
          text_most loaded.headers_len loaded.texts_len (get_or loaded.slots is.count Empty) (All-get_or (IsSlotWithin loaded.headers_len loaded.texts_len) loaded.slots is.count Empty low sound.within) in
          omega (
            arith,
            past,
            most,
            some,
            left-more old.texts loaded.slots is.count low,
            left-le (get_or old.texts is.count not_copied) (get_or loaded.slots is.count Empty),
            left_then is.count loaded.slots old new is.copies,
            sum_by-take-drop (λ (n : ℕ). n) (lefts old.texts loaded.slots) is.count,
          )
    ]
    | inr high ↦
        let none : sum (drop is.count (lefts old.texts loaded.slots)) ≡ 0 = ap sum (drop_all is.count (lefts old.texts loaded.slots) (omega (arith, high, length-lefts old.texts loaded.slots))) in
        absurd (omega (arith, some, none, left_then is.count loaded.slots old new is.copies))
  ]

  -- what is there and left together stays
  within_same : (budget : ℕ) (old new : Shadow) → CopiesWithin budget loaded.slots old new → new.len + left new loaded.slots ≡ old.len + left old loaded.slots
  within_same budget old new is =
      omega (
        arith,
        is.copies.len,
        left_then is.count loaded.slots old new is.copies,
        sum_by-take-drop (λ (n : ℕ). n) (lefts old.texts loaded.slots) is.count,
      )

  -- where .NDT began anew there was too much in it
  anew_fewer : texts_size loaded.slots ≤ TEXTS_CEILING → (old new : Shadow) → CopiesAnew ALL_TEXTS loaded.slots old new → to_do loaded.slots new < to_do loaded.slots old
  anew_fewer fits old new is =
      let same = within_same _ nothing_copied new is.again in
      let whole : new.len + left new loaded.slots ≡ texts_size loaded.slots = omega (arith, same, left-all loaded.slots) in
      let now : to_do loaded.slots new ≡ left new loaded.slots =
      ap (λ b. cond b (SHADOW_CEILING + 1 + left new loaded.slots) (left new loaded.slots)) (le-ltb SHADOW_CEILING (new.len + left new loaded.slots) (omega (arith, whole, fits))) in
      let was : to_do loaded.slots old ≡ SHADOW_CEILING + 1 + left old loaded.slots =
      ap (λ b. cond b (SHADOW_CEILING + 1 + left old loaded.slots) (left old loaded.slots))
      (lt-ltb SHADOW_CEILING (old.len + left old loaded.slots) (omega (arith, is.full, sum_by-take-le (λ (n : ℕ). n) (lefts old.texts loaded.slots) (is.count + 1)))) in
      omega (arith, now, was, fits, left_most new.texts loaded.slots)

  -- each step makes it less, until no text is left
  step_fewer : texts_size loaded.slots ≤ TEXTS_CEILING → (old new : Shadow) → Copies ALL_TEXTS loaded.slots old new → 0 < left new loaded.slots → to_do loaded.slots new < to_do loaded.slots old
  step_fewer fits old new (inl within) some =
      subst (λ (n : ℕ). to_do_of n (left new loaded.slots) < to_do loaded.slots old) (sym (within_same ALL_TEXTS old new within))
      (fewer_of (nat_lt SHADOW_CEILING (old.len + left old loaded.slots)) (left new loaded.slots) (left old loaded.slots) (within_fewer old new within some))
  step_fewer fits old new (inr anew) some = anew_fewer fits old new anew

  -- the same, of copies that are kept or begun
  pub copied_fewer : texts_size loaded.slots ≤ TEXTS_CEILING → (old kept : Option Shadow) (more : Bool) → HasCopiedSome ALL_TEXTS loaded.slots old kept more
      → to_do_with more loaded.slots (begun_of kept) < to_do_with true loaded.slots (begun_of old)
  copied_fewer fits old kept false is = omega arith
  copied_fewer fits old kept true is =
      let fewer : to_do loaded.slots is.shadow < to_do loaded.slots (begun_of old) =
      step_fewer fits (begun_of old) is.shadow is.copies (ltb-true 0 (left is.shadow loaded.slots) (sym is.says)) in
      subst (λ (s : Shadow). to_do_with true loaded.slots s < to_do_with true loaded.slots (begun_of old)) (sym (ap begun_of is.kept)) (omega (arith, fewer))
