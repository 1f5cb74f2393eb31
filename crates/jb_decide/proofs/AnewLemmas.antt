-- An area with a message in the place of another, at the ends of the files.
use Rattle.std.proofs.Common.{◌≡◌, ◌⊎◌, inl, inr, ℕ, ◌+◌, ◌<◌, List, ◌++◌, length, map, set, get_or, All, sym, ◌∙◌, ap, subst, arith}
use Rattle.std.specs.List.{AllPairs}
use Rattle.std.proofs.lemmas.Bool.{cases_eq}
use Rattle.std.proofs.lemmas.List.{get_or-set_other, get_or-set_same, length-set, map-set}
use Rattle.std.proofs.lemmas.List.Elements.{All-set}
use Rattle.std.proofs.lemmas.Option.{slice_get_within}
use Rattle.jb_state.specs.Loaded.{IsMessageAt, header_size, with_message_anew}
use Rattle.jb_state.specs.Message.{header_length}
use Rattle.jb_state.specs.Sound.{AreApart, Covers, IsMessageWithin, IsSlotWithin, IsSound}
use Rattle.jb_state.specs.State.{AreaState, LiveMessage, live_message, slot_state, state_of, text_of}
use Rattle.jb_state.specs.declared.loaded.Loaded.{Loaded}
use Rattle.jb_state.specs.declared.loaded.LoadedMessage.{LoadedMessage}
use Rattle.jb_state.specs.declared.loaded.LoadedSlot.{LoadedSlot}
use Rattle.jb_state.specs.declared.loaded.LoadedSlot.TheVariants.{Live}
use Rattle.jb_decide.proofs.BehindLemmas.{apart_behind, sized, slots_kept, text_behind, within_longer}

-- the state with a message in this place, at the ends of the files
abbrev pub replaced : AreaState → LiveMessage → ℕ → AreaState
replaced state message place = record state {
  slots = set state.slots place (live_message message);
  headers_len = state.headers_len + header_length message;
  texts_len = state.texts_len + length message.text;
}

-- a sound area with a message and its text at the ends, in the place of another, has the state with that message there
pub state_anew : (limit : ℕ) (texts more : List ℕ) (loaded : Loaded) (place : ℕ) (message : LoadedMessage) → IsSound limit loaded → length texts ≡ loaded.texts_len
    → message.text_at ≡ loaded.texts_len → message.text_len ≡ length more
    → state_of (texts ++ more) (with_message_anew place message loaded)
    ≡ replaced (state_of texts loaded) (record { owner = message.owner; head = message.head; subfields = message.subfields; text = more }) place
state_anew limit texts more loaded place message sound is at len =
    let P : ℕ → Type 0 = λ n. All (IsSlotWithin loaded.headers_len n) loaded.slots in
    let old : map (slot_state (texts ++ more)) loaded.slots ≡ map (slot_state texts) loaded.slots =
    slots_kept loaded.headers_len texts more loaded.slots (subst P (sym is) sound.within) in
    let new : text_of (texts ++ more) message ≡ more = text_behind texts more message (at ∙ sym is) len in
    let live : List ℕ → LiveMessage = λ text. record { owner = message.owner; head = message.head; subfields = message.subfields; text = text } in
    let headers_len : ℕ = loaded.headers_len + header_size message in
    ap (λ slots. sized (state_of texts loaded) slots headers_len (loaded.texts_len + message.text_len))
    (map-set (slot_state (texts ++ more)) loaded.slots place (Live message)
    ∙ ap (λ slots. set slots place (slot_state (texts ++ more) (Live message))) old
    ∙ ap (λ text. set (map (slot_state texts) loaded.slots) place (live_message (live text))) new)
    ∙ ap (λ n. sized (state_of texts loaded) (set (map (slot_state texts) loaded.slots) place (live_message (live more))) headers_len (loaded.texts_len + n)) len

-- a byte that a slot takes then is one of the slot that was put there, or of a slot that was there before
covers_then : (slots : List LoadedSlot) (place k i : ℕ) (slot d : LoadedSlot) → place < length slots → Covers (get_or (set slots place slot) k d) i
    → ((k ≡ place) × Covers slot i) ⊎ Covers (get_or slots k d) i
covers_then slots place k i slot d within covers = elim (cases_eq k place) [
  | inl same ↦
      let Q : LoadedSlot → Type 0 = λ s. Covers s i in
      inl (same, subst Q (get_or-set_same slots place slot d within) (subst (λ (j : ℕ). Covers (get_or (set slots place slot) j d) i) same covers))
  | inr other ↦
      let Q : LoadedSlot → Type 0 = λ s. Covers s i in
      inr (subst Q (get_or-set_other slots place k slot d other) covers)
]

-- slots stay apart, where the one that is put there is apart from each
apart_with : (slots : List LoadedSlot) (place : ℕ) (slot : LoadedSlot) → ((k : ℕ) (d : LoadedSlot) → k < length slots → AreApart (get_or slots k d) slot) → place < length slots
    → AllPairs AreApart slots → AllPairs AreApart (set slots place slot)
apart_with slots place slot clear within apart i j d low high n one other =
    let inside : j < length slots = omega (arith, length-set slots place slot) in
    elim (covers_then slots place i n slot d within one) [
      | inl first ↦ elim (covers_then slots place j n slot d within other) [
        | inl second ↦ absurd (omega (arith, low, first.0, second.0))
        | inr second ↦ clear j d inside n second first.1
      ]
      | inr first ↦ elim (covers_then slots place j n slot d within other) [
        | inl second ↦ clear i d (omega (arith, low, inside)) n first second.1
        | inr second ↦ apart i j d low inside n first second
      ]
    ]

-- the area stays sound
pub sound_anew : (limit : ℕ) (loaded : Loaded) (place : ℕ) (was message : LoadedMessage) → IsSound limit loaded → IsMessageAt loaded place was → message.header_at ≡ loaded.headers_len
    → IsMessageWithin (loaded.headers_len + header_size message) (loaded.texts_len + message.text_len) message → IsSound limit (with_message_anew place message loaded)
sound_anew limit loaded place was message sound here header_at fits =
    let as_many : length (set loaded.slots place (Live message)) ≡ length loaded.slots = length-set loaded.slots place (Live message) in
    let headers : ℕ = loaded.headers_len + header_size message in
    let texts : ℕ = loaded.texts_len + message.text_len in
    record {
      fixed = omega (arith, sound.fixed);
      base = sound.base;
      numbers = omega (arith, sound.numbers, as_many);
      few_slots = omega (arith, sound.few_slots, as_many);
      few_marks = sound.few_marks;
      within = All-set (IsSlotWithin headers texts) loaded.slots place (Live message) fits
          (λ k d low. within_longer loaded.headers_len loaded.texts_len headers texts (omega arith) (omega arith) (get_or loaded.slots k d) (sound.within k d low));
      apart = apart_with loaded.slots place (Live message)
          (λ k d low. apart_behind loaded.headers_len loaded.texts_len (get_or loaded.slots k d) message (sound.within k d low) (omega (arith, header_at)))
          (slice_get_within loaded.slots place (Live was) here) sound.apart;
    }
