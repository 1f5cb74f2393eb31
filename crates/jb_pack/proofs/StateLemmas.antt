-- The loaded area after a pack stands for the packed state.
use Rattle.std.proofs.Common.{◌≡◌, inl, inr, ℕ, suc, ◌+◌, ◌-◌, ◌≤◌, List, [], ◌∷◌, ◌++◌, cond, length, take, drop, map, All, refl, sym, ◌∙◌, ap, arith, append_assoc, length-append, length-take, length-drop}
use Rattle.std.specs.Prelude.{sum_by}
use Rattle.std.proofs.lemmas.List.{length-map, drop-map, drop_all}
use Rattle.std.proofs.lemmas.List.Sums.{sum_by-cons}
use Rattle.std.proofs.Math.Seq.{drop-append_seam, take-append_seam}
use Rattle.std.proofs.lemmas.List.Elements.{All-head, All-tail, All-drop}
use Rattle.jb_link.proofs.LiveLemmas.{linkables_with_texts}
use Rattle.jb_state.specs.LiveSlots.{linkables_from}
use Rattle.jb_state.specs.Links.{Linkable}
use Rattle.jb_state.specs.Live.{change_live_from, is_killed, is_live, killed_count, live_count, live_from}
use Rattle.jb_state.specs.Loaded.{header_size}
use Rattle.jb_state.specs.PackedState.{emptied, first_number_or, packed_base, packed_slots, packed_state}
use Rattle.jb_state.specs.Relinked.{relink_by}
use Rattle.jb_state.specs.Sound.{IsSlotWithin, IsSound, IsTextWithin}
use Rattle.jb_state.specs.State.{LiveMessage, SlotState, live_message, next_number, no_message, slot_state, state_of, text_of, with_text}
use Rattle.jb_state.specs.Tight.{header_bytes, headers_together, text_bytes, texts_together}
use Rattle.jb_state.specs.declared.loaded.Loaded.{Loaded}
use Rattle.jb_state.specs.declared.loaded.LoadedMessage.{LoadedMessage}
use Rattle.jb_state.specs.declared.loaded.LoadedSlot.{LoadedSlot}
use Rattle.jb_state.specs.declared.loaded.LoadedSlot.TheVariants.{Empty, Killed, Live}
use Rattle.jb_state.proofs.PackLaws.{packed_base-within, drop-change}
use Rattle.jb_state.specs.Packed.{headers_size, is_killed_slot, is_live_slot, kept_slots, killed_slots, live_slots, new_base, packed, packed_from, packed_texts, slot_header_size, slot_text_size, texts_in, texts_size}

-- a text that lies within the texts has its length
pub length-text : (texts_len : ℕ) (texts : List ℕ) (message : LoadedMessage) → IsTextWithin texts_len message.text_at message.text_len → length texts ≡ texts_len
    → length (text_of texts message) ≡ message.text_len
length-text texts_len texts message within size = elim within.placed [
  | inl none ↦ omega (arith, length-take message.text_len (drop message.text_at texts))
  | inr some ↦ omega (arith, some.0, length-take message.text_len (drop message.text_at texts), length-drop message.text_at texts)
]

-- the first part of bytes behind others
first_behind : (front first rest : List ℕ) (at len : ℕ) → at ≡ length front → len ≡ length first → take len (drop at (front ++ (first ++ rest))) ≡ first
first_behind front first rest at len at_is len_is =
    ap (λ n. take len (drop n (front ++ (first ++ rest)))) at_is ∙ ap (take len) (drop-append_seam front (first ++ rest))
    ∙ ap (λ n. take n (first ++ rest)) len_is ∙ take-append_seam first rest

-- the slots after a pack, with its texts, are those of the packed state
pub slots_packed : (live : List Linkable) (headers_len texts_len : ℕ) (texts all front : List ℕ) (number header_at text_at : ℕ) (slots : List LoadedSlot)
    → All (IsSlotWithin headers_len texts_len) slots → length texts ≡ texts_len → all ≡ front ++ texts_in texts slots → text_at ≡ length front
    → map (slot_state all) (packed_from live number header_at text_at slots) ≡ map emptied (change_live_from (relink_by live) number (map (slot_state texts) slots))
slots_packed live headers_len texts_len texts all front number header_at text_at [] within size all_is at_is = refl
slots_packed live headers_len texts_len texts all front number header_at text_at (Empty ∷ slots) within size all_is at_is =
    ap (λ (rest : List SlotState). no_message ∷ rest)
    (slots_packed live headers_len texts_len texts all front (number + 1) header_at text_at slots (All-tail (IsSlotWithin headers_len texts_len) Empty slots within) size all_is at_is)
slots_packed live headers_len texts_len texts all front number header_at text_at (Killed killed_at ∷ slots) within size all_is at_is =
    ap (λ (rest : List SlotState). no_message ∷ rest)
    (slots_packed live headers_len texts_len texts all front (number + 1) header_at text_at slots (All-tail (IsSlotWithin headers_len texts_len) (Killed killed_at) slots within) size all_is at_is)
slots_packed live headers_len texts_len texts all front number header_at text_at (Live message ∷ slots) within size all_is at_is =
    let here = All-head (IsSlotWithin headers_len texts_len) (Live message) slots within in
    let text_size : length (text_of texts message) ≡ message.text_len = length-text texts_len texts message here.text size in
    let text_is : take message.text_len (drop text_at all) ≡ text_of texts message =
    ap (λ (l : List ℕ). take message.text_len (drop text_at l)) all_is
    ∙ first_behind front (text_of texts message) (texts_in texts slots) text_at message.text_len at_is (sym text_size) in
    let rest = slots_packed live headers_len texts_len texts all (front ++ text_of texts message) (number + 1) (header_at + header_size message) (text_at + message.text_len) slots
    (All-tail (IsSlotWithin headers_len texts_len) (Live message) slots within) size
    (all_is ∙ sym (append_assoc front (text_of texts message) (texts_in texts slots)))
    (omega (arith, length-append front (text_of texts message))) in
    λ i. live_message (record (relink_by live number (record { owner = message.owner; head = message.head; subfields = message.subfields; text = text_of texts message })) { text = text_is i }) ∷ rest i

-- no text bears on the first live number
first_without_texts : (texts : List ℕ) (last number : ℕ) (slots : List LoadedSlot)
    → first_number_or last (live_from number (map (slot_state texts) slots)) ≡ first_number_or last (live_from number (map (slot_state []) slots))
first_without_texts texts last number [] = refl
first_without_texts texts last number (Empty ∷ slots) = first_without_texts texts last (number + 1) slots
first_without_texts texts last number (Killed at ∷ slots) = first_without_texts texts last (number + 1) slots
first_without_texts texts last number (Live message ∷ slots) = refl

-- nor on the next number and the new base
pub base_packed : (texts : List ℕ) (loaded : Loaded) → packed_base (state_of texts loaded) ≡ new_base loaded
base_packed texts loaded =
    let same : next_number (state_of texts loaded) ≡ next_number (state_of [] loaded) = omega (arith, length-map loaded.slots (slot_state texts), length-map loaded.slots (slot_state [])) in
    ap (λ n. first_number_or n (live_from loaded.base (map (slot_state texts) loaded.slots))) same
    ∙ first_without_texts texts (next_number (state_of [] loaded)) loaded.base loaded.slots

-- a number that empty slots do not add to: over the slots after a pack as over those before it
sum_packed : (f : SlotState → ℕ) (g : LoadedSlot → ℕ) (P : LoadedSlot → Type 0) (change : ℕ → LiveMessage → LiveMessage) (texts : List ℕ)
    → f no_message ≡ 0 → g Empty ≡ 0 → ((at : ℕ) → g (Killed at) ≡ 0)
    → ((number : ℕ) (message : LoadedMessage) → P (Live message) → f (live_message (change number (with_text texts message))) ≡ g (Live message))
    → (number : ℕ) (slots : List LoadedSlot) → All P slots
    → sum_by f (map emptied (change_live_from change number (map (slot_state texts) slots))) ≡ sum_by g slots
sum_packed f g P change texts none empty killed same number [] each = refl
sum_packed f g P change texts none empty killed same number (Empty ∷ slots) each =
    let rest = sum_packed f g P change texts none empty killed same (number + 1) slots (All-tail P Empty slots each) in
    omega (arith, sum_by-cons f no_message (map emptied (change_live_from change (number + 1) (map (slot_state texts) slots))), sum_by-cons g Empty slots)
sum_packed f g P change texts none empty killed same number (Killed at ∷ slots) each =
    let rest = sum_packed f g P change texts none empty killed same (number + 1) slots (All-tail P (Killed at) slots each) in
    let no_more = killed at in
    omega (arith, sum_by-cons f no_message (map emptied (change_live_from change (number + 1) (map (slot_state texts) slots))), sum_by-cons g (Killed at) slots)
sum_packed f g P change texts none empty killed same number (Live message ∷ slots) each =
    let rest = sum_packed f g P change texts none empty killed same (number + 1) slots (All-tail P (Live message) slots each) in
    let here = same number message (All-head P (Live message) slots each) in
    omega (
      arith,
      sum_by-cons f (live_message (change number (with_text texts message))) (map emptied (change_live_from change (number + 1) (map (slot_state texts) slots))),
      sum_by-cons g (Live message) slots,
    )

-- a number over the slots of a state as over those that are loaded
sum_state : (f : SlotState → ℕ) (g : LoadedSlot → ℕ) (P : LoadedSlot → Type 0) (texts : List ℕ)
    → ((slot : LoadedSlot) → P slot → f (slot_state texts slot) ≡ g slot)
    → (slots : List LoadedSlot) → All P slots → sum_by f (map (slot_state texts) slots) ≡ sum_by g slots
sum_state f g P texts same [] each = refl
sum_state f g P texts same (slot ∷ slots) each =
    let rest = sum_state f g P texts same slots (All-tail P slot slots each) in
    let here = same slot (All-head P slot slots each) in
    omega (arith, sum_by-cons f (slot_state texts slot) (map (slot_state texts) slots), sum_by-cons g slot slots)

-- the slots in front of the first live one, dropped
from_rest : {X : Type 0} (F : List LoadedSlot → X) (number : ℕ) (slot : LoadedSlot) (slots : List LoadedSlot) → F (slot ∷ slots) ≡ F slots
    → (first : ℕ) → number + 1 ≤ first → F (drop (first - (number + 1)) slots) ≡ F slots → F (drop (first - number) (slot ∷ slots)) ≡ F (slot ∷ slots)
from_rest F number slot slots none first above rest =
    let one : first - number ≡ suc (first - (number + 1)) = omega arith in
    ap (λ n. F (drop n (slot ∷ slots))) one ∙ rest ∙ sym none

-- what no other slots than live ones bear on: of the slots from the first live one on as of all
same_kept : {X : Type 0} (F : List LoadedSlot → X) → ((slots : List LoadedSlot) → F (Empty ∷ slots) ≡ F slots)
    → ((at : ℕ) (slots : List LoadedSlot) → F (Killed at ∷ slots) ≡ F slots) → (number last : ℕ) (slots : List LoadedSlot) → last ≡ number + length slots
    → (number ≤ first_number_or last (live_from number (map (slot_state []) slots)))
    × (F (drop (first_number_or last (live_from number (map (slot_state []) slots)) - number) slots) ≡ F slots)
same_kept F empty killed number last [] last_is = (omega arith, ap F (drop_all (last - number) [] (omega arith)))
same_kept F empty killed number last (Empty ∷ slots) last_is =
    let rest = same_kept F empty killed (number + 1) last slots (omega arith) in
    let above = rest.0 in
    (omega arith, from_rest F number Empty slots (empty slots) _ above rest.1)
same_kept F empty killed number last (Killed at ∷ slots) last_is =
    let rest = same_kept F empty killed (number + 1) last slots (omega arith) in
    let above = rest.0 in
    (omega arith, from_rest F number (Killed at) slots (killed at slots) _ above rest.1)
same_kept F empty killed number last (Live message ∷ slots) last_is =
    let none : number - number ≡ 0 = omega arith in
    (omega arith, ap (λ n. F (drop n (Live message ∷ slots))) none)

-- the same of the slots that a pack keeps
same_of_kept : {X : Type 0} (F : List LoadedSlot → X) → ((slots : List LoadedSlot) → F (Empty ∷ slots) ≡ F slots)
    → ((at : ℕ) (slots : List LoadedSlot) → F (Killed at ∷ slots) ≡ F slots) → (loaded : Loaded) → F (kept_slots loaded) ≡ F loaded.slots
same_of_kept F empty killed loaded =
    (same_kept F empty killed loaded.base (loaded.base + length (map (slot_state []) loaded.slots)) loaded.slots
    (omega (arith, length-map loaded.slots (slot_state [])))).1

-- a number that other slots than live ones do not add to
pub sum_of_kept : (g : LoadedSlot → ℕ) → g Empty ≡ 0 → ((at : ℕ) → g (Killed at) ≡ 0) → (loaded : Loaded) → sum_by g (kept_slots loaded) ≡ sum_by g loaded.slots
sum_of_kept g empty killed loaded =
    same_of_kept (sum_by g) (λ slots. omega (arith, empty, sum_by-cons g Empty slots)) (λ at slots. omega (arith, killed at, sum_by-cons g (Killed at) slots)) loaded

-- the texts of the slots that a pack keeps are all texts
pub texts_of_kept : (texts : List ℕ) (loaded : Loaded) → packed_texts texts loaded ≡ texts_in texts loaded.slots
texts_of_kept texts loaded = same_of_kept (texts_in texts) (λ slots. refl) (λ at slots. refl) loaded

-- a text has its length where its slot lies within the files
text_size_of : (headers_len texts_len : ℕ) (texts : List ℕ) → length texts ≡ texts_len → (slot : LoadedSlot) → IsSlotWithin headers_len texts_len slot
    → text_bytes (slot_state texts slot) ≡ slot_text_size slot
text_size_of headers_len texts_len texts size Empty within = refl
text_size_of headers_len texts_len texts size (Killed at) within = refl
text_size_of headers_len texts_len texts size (Live message) within = length-text texts_len texts message within.text size

-- the texts of a state together
pub texts_of_state : (headers_len texts_len : ℕ) (texts : List ℕ) (slots : List LoadedSlot) → length texts ≡ texts_len → All (IsSlotWithin headers_len texts_len) slots
    → texts_together (map (slot_state texts) slots) ≡ texts_size slots
texts_of_state headers_len texts_len texts slots size within =
    sum_state text_bytes slot_text_size (IsSlotWithin headers_len texts_len) texts (text_size_of headers_len texts_len texts size) slots within

-- no premise
abbrev Any : LoadedSlot → Type 0
Any slot = Unit {0}

-- each slot is one
all_any : (slots : List LoadedSlot) → All Any slots
all_any slots k d low = tt

-- the live messages of a state
pub live_of_state : (texts : List ℕ) (slots : List LoadedSlot) → live_count (map (slot_state texts) slots) ≡ live_slots slots
live_of_state texts slots = sum_state (λ slot. cond (is_live slot) 1 0) (λ slot. cond (is_live_slot slot) 1 0) Any texts same slots (all_any slots)
  where
    same : (slot : LoadedSlot) → Any slot → cond {A = ℕ} (is_live (slot_state texts slot)) 1 0 ≡ cond {A = ℕ} (is_live_slot slot) 1 0
    same Empty any = refl
    same (Killed at) any = refl
    same (Live message) any = refl

-- the killed messages of a state
pub killed_of_state : (texts : List ℕ) (slots : List LoadedSlot) → killed_count (map (slot_state texts) slots) ≡ killed_slots slots
killed_of_state texts slots = sum_state (λ slot. cond (is_killed slot) 1 0) (λ slot. cond (is_killed_slot slot) 1 0) Any texts same slots (all_any slots)
  where
    same : (slot : LoadedSlot) → Any slot → cond {A = ℕ} (is_killed (slot_state texts slot)) 1 0 ≡ cond {A = ℕ} (is_killed_slot slot) 1 0
    same Empty any = refl
    same (Killed at) any = refl
    same (Live message) any = refl

module _ (limit : ℕ) (texts : List ℕ) (loaded : Loaded) (sound : IsSound limit loaded) (size : length texts ≡ loaded.texts_len) where
  -- what the links rest on
  abbrev live : List Linkable
  live = linkables_from loaded.base loaded.slots

  -- the kept slots lie within the files
  pub kept_within : All (IsSlotWithin loaded.headers_len loaded.texts_len) (kept_slots loaded)
  kept_within = All-drop (IsSlotWithin loaded.headers_len loaded.texts_len) (new_base loaded - loaded.base) loaded.slots sound.within

  -- the slots of the packed state, from those that are kept
  kept_changed : packed_slots (state_of texts loaded) ≡ map emptied (change_live_from (relink_by live) (new_base loaded) (map (slot_state texts) (kept_slots loaded)))
  kept_changed =
      let within = packed_base-within (state_of [] loaded) in
      let above = within.0 in
      let base_is : loaded.base + (new_base loaded - loaded.base) ≡ new_base loaded = omega arith in
      (λ i. map emptied (drop (base_packed texts loaded i - loaded.base) (change_live_from (relink_by (linkables_with_texts texts loaded.base loaded.slots i)) loaded.base (map (slot_state texts) loaded.slots))))
      ∙ ap (map emptied) (drop-change (relink_by live) (new_base loaded - loaded.base) loaded.base (map (slot_state texts) loaded.slots))
      ∙ ap (λ n. map emptied (change_live_from (relink_by live) n (drop (new_base loaded - loaded.base) (map (slot_state texts) loaded.slots)))) base_is
      ∙ ap (λ (l : List SlotState). map emptied (change_live_from (relink_by live) (new_base loaded) l)) (drop-map (slot_state texts) (new_base loaded - loaded.base) loaded.slots)

  -- the slots
  slots_are : map (slot_state (packed_texts texts loaded)) (packed loaded).slots ≡ packed_slots (state_of texts loaded)
  slots_are =
      slots_packed live loaded.headers_len loaded.texts_len texts (packed_texts texts loaded) [] (new_base loaded) 1024 0 (kept_slots loaded) kept_within size refl refl
      ∙ sym kept_changed

  -- the bytes of the headers
  headers_are : headers_size (kept_slots loaded) ≡ headers_together (packed_slots (state_of texts loaded))
  headers_are =
      sym (ap headers_together kept_changed
      ∙ sum_packed header_bytes slot_header_size Any (relink_by live) texts refl refl (λ at. refl) (λ number message any. refl) (new_base loaded) (kept_slots loaded) (all_any (kept_slots loaded)))

  -- the bytes of the texts
  texts_are : texts_size (kept_slots loaded) ≡ texts_together (packed_slots (state_of texts loaded))
  texts_are =
      sym (ap texts_together kept_changed
      ∙ sum_packed text_bytes slot_text_size (IsSlotWithin loaded.headers_len loaded.texts_len) (relink_by live) texts refl refl (λ at. refl)
      (λ number message within. length-text loaded.texts_len texts message within.text size) (new_base loaded) (kept_slots loaded) kept_within)

  -- how many messages are live
  live_are : live_slots (kept_slots loaded) ≡ live_count (packed_slots (state_of texts loaded))
  live_are =
      sym (ap live_count kept_changed
      ∙ sum_packed (λ slot. cond (is_live slot) 1 0) (λ slot. cond (is_live_slot slot) 1 0) Any (relink_by live) texts refl refl (λ at. refl) (λ number message any. refl)
      (new_base loaded) (kept_slots loaded) (all_any (kept_slots loaded)))

  -- the whole state
  pub state_packed : state_of (packed_texts texts loaded) (packed loaded) ≡ packed_state (state_of texts loaded)
  state_packed =
      let base_is = base_packed texts loaded in
      λ i. record (state_of texts loaded) {
        counter = (packed loaded).counter;
        active = live_are i;
        base = sym base_is i;
        slots = slots_are i;
        headers_len = 1024 + headers_are i;
        texts_len = texts_are i;
      }
