-- An area with one message more at its end.
use Rattle.std.proofs.Common.{◌≡◌, inl, inr, ℕ, ◌+◌, ◌<◌, ◌≤◌, List, [], ◌∷◌, ◌++◌, length, map, take, drop, get_or, All, refl, sym, ◌∙◌, ap, subst, arith}
use Rattle.std.proofs.lemmas.List.{drop-append-le, drop_all, length-drop, length_push, map-append, take-append-le, take_all}
use Rattle.std.proofs.lemmas.List.Elements.{All-head, All-tail}
use Rattle.std.proofs.lemmas.List.Quantifiers.{all_pairs_push}
use Rattle.jb_limits.specs.declared.limits.TheConstants.{LAST_POSTED_NUMBER}
use Rattle.jb_model.proofs.RangeLaws.{all_push}
use Rattle.jb_state.specs.Loaded.{header_size, with_message_behind}
use Rattle.jb_state.specs.Message.{header_length}
use Rattle.jb_state.specs.Sound.{AreApart, IsMessageWithin, IsSlotWithin, IsSound, IsTextWithin}
use Rattle.jb_state.specs.State.{AreaState, LiveMessage, SlotState, live_message, slot_state, state_of, text_of}
use Rattle.jb_state.specs.declared.loaded.Loaded.{Loaded}
use Rattle.jb_state.specs.declared.loaded.LoadedMessage.{LoadedMessage}
use Rattle.jb_state.specs.declared.loaded.LoadedSlot.{LoadedSlot}
use Rattle.jb_state.specs.declared.loaded.LoadedSlot.TheVariants.{Empty, Killed, Live}

-- a text that lies within the file is the same when bytes are put behind the file
text_kept : (texts more : List ℕ) (message : LoadedMessage) → IsTextWithin (length texts) message.text_at message.text_len
    → text_of (texts ++ more) message ≡ text_of texts message
text_kept texts more message within = elim within.placed [
  | inl empty ↦ ap (λ n. take n (drop message.text_at (texts ++ more))) empty ∙ sym (ap (λ n. take n (drop message.text_at texts)) empty)
  | inr placed ↦
      let inside : message.text_at + message.text_len ≤ length texts = placed.0 in
      ap (take message.text_len) (drop-append-le message.text_at texts more (omega arith))
      ∙ take-append-le message.text_len (drop message.text_at texts) more (omega (arith, length-drop message.text_at texts))
]

-- so is the state of its slot
slot_kept : (headers_len : ℕ) (texts more : List ℕ) (slot : LoadedSlot) → IsSlotWithin headers_len (length texts) slot
    → slot_state (texts ++ more) slot ≡ slot_state texts slot
slot_kept headers_len texts more Empty within = refl
slot_kept headers_len texts more (Killed header_at) within = refl
slot_kept headers_len texts more (Live message) within =
    ap (λ text. live_message (record { owner = message.owner; head = message.head; subfields = message.subfields; text = text })) (text_kept texts more message within.text)

-- and those of all slots
pub slots_kept : (headers_len : ℕ) (texts more : List ℕ) (slots : List LoadedSlot) → All (IsSlotWithin headers_len (length texts)) slots
    → map (slot_state (texts ++ more)) slots ≡ map (slot_state texts) slots
slots_kept headers_len texts more [] each = refl
slots_kept headers_len texts more (slot ∷ slots) each =
    ap (λ s. s ∷ map (slot_state (texts ++ more)) slots) (slot_kept headers_len texts more slot (All-head (IsSlotWithin headers_len (length texts)) slot slots each))
    ∙ ap (λ rest. slot_state texts slot ∷ rest) (slots_kept headers_len texts more slots (All-tail (IsSlotWithin headers_len (length texts)) slot slots each))

-- a text that is put behind the others is found there
pub text_behind : (texts more : List ℕ) (message : LoadedMessage) → message.text_at ≡ length texts → message.text_len ≡ length more
    → text_of (texts ++ more) message ≡ more
text_behind texts more message at len =
    ap (take message.text_len)
    (drop-append-le message.text_at texts more (omega arith) ∙ ap (λ front. front ++ more) (drop_all message.text_at texts (omega arith)))
    ∙ take_all message.text_len more (omega arith)

-- the state with a message at its end
abbrev pub grown : AreaState → LiveMessage → AreaState
grown state message = record state {
  slots = state.slots ++ live_message message ∷ [];
  headers_len = state.headers_len + header_length message;
  texts_len = state.texts_len + length message.text;
}

-- the state with these slots and lengths of the files
abbrev pub sized : AreaState → List SlotState → ℕ → ℕ → AreaState
sized state slots headers_len texts_len = record state { slots = slots; headers_len = headers_len; texts_len = texts_len }

-- a sound area with a message and its text at the ends has the state with that message at its end
pub state_behind : (limit : ℕ) (texts more : List ℕ) (loaded : Loaded) (message : LoadedMessage) → IsSound limit loaded → length texts ≡ loaded.texts_len
    → message.text_at ≡ loaded.texts_len → message.text_len ≡ length more
    → state_of (texts ++ more) (with_message_behind message loaded)
    ≡ grown (state_of texts loaded) (record { owner = message.owner; head = message.head; subfields = message.subfields; text = more })
state_behind limit texts more loaded message sound is at len =
    let P : ℕ → Type 0 = λ n. All (IsSlotWithin loaded.headers_len n) loaded.slots in
    let old : map (slot_state (texts ++ more)) loaded.slots ≡ map (slot_state texts) loaded.slots =
    slots_kept loaded.headers_len texts more loaded.slots (subst P (sym is) sound.within) in
    let new : text_of (texts ++ more) message ≡ more = text_behind texts more message (at ∙ sym is) len in
    let live : List ℕ → LiveMessage = λ text. record { owner = message.owner; head = message.head; subfields = message.subfields; text = text } in
    let headers_len : ℕ = loaded.headers_len + header_size message in
    ap (λ slots. sized (state_of texts loaded) slots headers_len (loaded.texts_len + message.text_len))
    (map-append (slot_state (texts ++ more)) loaded.slots (Live message ∷ [])
    ∙ ap (λ slots. slots ++ slot_state (texts ++ more) (Live message) ∷ []) old
    ∙ ap (λ text. map (slot_state texts) loaded.slots ++ live_message (live text) ∷ []) new)
    ∙ ap (λ n. sized (state_of texts loaded) (map (slot_state texts) loaded.slots ++ live_message (live more) ∷ []) headers_len (loaded.texts_len + n)) len

-- a slot lies within longer files too
pub within_longer : (headers_len texts_len headers texts : ℕ) → headers_len ≤ headers → texts_len ≤ texts → (slot : LoadedSlot) → IsSlotWithin headers_len texts_len slot
    → IsSlotWithin headers texts slot
within_longer headers_len texts_len headers texts h t Empty within = tt
within_longer headers_len texts_len headers texts h t (Killed header_at) within =
    record { after = within.after; inside = omega (arith, within.inside); below = within.below }
within_longer headers_len texts_len headers texts h t (Live message) within = record {
  live = within.live;
  few_bytes = within.few_bytes;
  header = record { after = within.header.after; inside = omega (arith, within.header.inside); below = within.header.below };
  text = record {
    short = within.text.short;
    placed = elim within.text.placed [ inl empty ↦ inl empty | inr placed ↦ inr (omega (arith, placed.0), placed.1) ];
  };
}

-- what lies within the file lies apart from what stands behind it
pub apart_behind : (headers_len texts_len : ℕ) (slot : LoadedSlot) (message : LoadedMessage) → IsSlotWithin headers_len texts_len slot → headers_len ≤ message.header_at
    → AreApart slot (Live message)
apart_behind headers_len texts_len Empty message within at i one other = one
apart_behind headers_len texts_len (Killed header_at) message within at i one other = omega (arith, one.1, other.0, within.inside)
apart_behind headers_len texts_len (Live own) message within at i one other = omega (arith, one.1, other.0, within.header.inside)

-- what a message at the end of a sound area has to keep
pub record MayStandBehind (limit : ℕ) (loaded : Loaded) (message : LoadedMessage) : Type 0 where
  pub numbers : loaded.base + length loaded.slots ≤ LAST_POSTED_NUMBER
  pub slots : length loaded.slots < limit
  pub header_at : message.header_at ≡ loaded.headers_len
  pub within : IsMessageWithin (loaded.headers_len + header_size message) (loaded.texts_len + message.text_len) message

-- the area stays sound
pub sound_behind : (limit : ℕ) (loaded : Loaded) (message : LoadedMessage) → IsSound limit loaded → MayStandBehind limit loaded message
    → IsSound limit (with_message_behind message loaded)
sound_behind limit loaded message sound may =
    let more : length (loaded.slots ++ Live message ∷ []) ≡ length loaded.slots + 1 = length_push loaded.slots (Live message) in
    let headers : ℕ = loaded.headers_len + header_size message in
    let texts : ℕ = loaded.texts_len + message.text_len in
    record {
      fixed = omega (arith, sound.fixed);
      base = sound.base;
      numbers = omega (arith, may.numbers);
      few_slots = omega (arith, may.slots);
      few_marks = sound.few_marks;
      within = all_push (IsSlotWithin headers texts) loaded.slots (Live message)
          (λ k d low. within_longer loaded.headers_len loaded.texts_len headers texts (omega arith) (omega arith) (get_or loaded.slots k d) (sound.within k d low))
          may.within;
      apart = all_pairs_push AreApart loaded.slots (Live message) sound.apart
          (λ k d low. apart_behind loaded.headers_len loaded.texts_len (get_or loaded.slots k d) message (sound.within k d low) (omega (arith, may.header_at)));
    }
