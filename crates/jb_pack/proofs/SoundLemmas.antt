-- A sound area is sound after a pack.
use Rattle.std.proofs.Common.{inr, ℕ, ◌+◌, ◌-◌, ◌≤◌, List, [], ◌∷◌, All, arith, length-drop}
use Rattle.std.proofs.lemmas.List.Sums.{sum_by-cons}
use Rattle.std.proofs.lemmas.List.Elements.{All-cons, All-drop, All-head, All-nil, All-tail}
use Rattle.jb_limits.specs.declared.limits.TheConstants.{HEADERS_CEILING, TEXTS_CEILING}
use Rattle.jb_state.specs.Plan.{links_of}
use Rattle.jb_state.specs.LiveSlots.{linkables_from, loaded_linkable}
use Rattle.jb_state.specs.Links.{Linkable}
use Rattle.jb_state.specs.Loaded.{header_size}
use Rattle.jb_state.specs.Sound.{IsSlotWithin}
use Rattle.jb_state.specs.declared.loaded.LoadedSlot.{LoadedSlot}
use Rattle.jb_state.specs.declared.loaded.LoadedSlot.TheVariants.{Empty, Killed, Live}
use Rattle.jb_pack.specs.Laws.{PackKeepsSound}
use Rattle.jb_state.specs.Packed.{headers_size, kept_slots, moved, new_base, packed_from, slot_header_size, slot_text_size, texts_size}
use Rattle.jb_pack.proofs.FitLemmas.{headers_fit_kept}
use Rattle.jb_pack.proofs.HeldLemmas.{apart_packed, length-packed}
use Rattle.jb_pack.proofs.PlanLemmas.{base_within}

-- slots that are laid out up to these ends lie within files that reach to them
within_packed : (headers_len texts_len headers_end texts_end : ℕ) (live : List Linkable) (number header_at text_at : ℕ) (slots : List LoadedSlot)
    → All (IsSlotWithin headers_len texts_len) slots → 1024 ≤ header_at → header_at + headers_size slots ≤ headers_end → headers_end ≤ HEADERS_CEILING
    → text_at + texts_size slots ≤ texts_end → texts_end ≤ TEXTS_CEILING
    → All (IsSlotWithin headers_end texts_end) (packed_from live number header_at text_at slots)
within_packed headers_len texts_len headers_end texts_end live number header_at text_at [] within low headers headers_fit texts texts_fit = All-nil (IsSlotWithin headers_end texts_end)
within_packed headers_len texts_len headers_end texts_end live number header_at text_at (Empty ∷ slots) within low headers headers_fit texts texts_fit =
    All-cons (IsSlotWithin headers_end texts_end) Empty _ tt
    (within_packed headers_len texts_len headers_end texts_end live (number + 1) header_at text_at slots (All-tail (IsSlotWithin headers_len texts_len) Empty slots within) low
    (omega (arith, sum_by-cons slot_header_size Empty slots)) headers_fit (omega (arith, sum_by-cons slot_text_size Empty slots)) texts_fit)
within_packed headers_len texts_len headers_end texts_end live number header_at text_at (Killed at ∷ slots) within low headers headers_fit texts texts_fit =
    All-cons (IsSlotWithin headers_end texts_end) Empty _ tt
    (within_packed headers_len texts_len headers_end texts_end live (number + 1) header_at text_at slots (All-tail (IsSlotWithin headers_len texts_len) (Killed at) slots within) low
    (omega (arith, sum_by-cons slot_header_size (Killed at) slots)) headers_fit (omega (arith, sum_by-cons slot_text_size (Killed at) slots)) texts_fit)
within_packed headers_len texts_len headers_end texts_end live number header_at text_at (Live message ∷ slots) within low headers headers_fit texts texts_fit =
    let here = All-head (IsSlotWithin headers_len texts_len) (Live message) slots within in
    let headers_is = sum_by-cons slot_header_size (Live message) slots in
    let texts_is = sum_by-cons slot_text_size (Live message) slots in
    All-cons (IsSlotWithin headers_end texts_end) (Live (moved (links_of live (loaded_linkable number message)) header_at text_at message)) _
    (record {
      live = here.live;
      few_bytes = here.few_bytes;
      header = record { after = low; inside = omega arith; below = omega arith };
      text = record { short = here.text.short; placed = inr (omega arith, omega arith) };
    })
    (within_packed headers_len texts_len headers_end texts_end live (number + 1) (header_at + header_size message) (text_at + message.text_len) slots
    (All-tail (IsSlotWithin headers_len texts_len) (Live message) slots within) (omega arith) (omega arith) headers_fit (omega arith) texts_fit)

-- a sound area is sound after a pack
pub packed_sound : PackKeepsSound
packed_sound limit loaded sound fits =
    let live : List Linkable = linkables_from loaded.base loaded.slots in
    let slots : List LoadedSlot = kept_slots loaded in
    let base = base_within loaded in
    let above = base.0 in
    let below = base.1 in
    let many = length-packed live (new_base loaded) 1024 0 slots in
    let left = length-drop (new_base loaded - loaded.base) loaded.slots in
    record {
      fixed = omega arith;
      base = omega (arith, sound.base);
      numbers = omega (arith, sound.numbers);
      few_slots = omega (arith, sound.few_slots);
      few_marks = sound.few_marks;
      within = within_packed loaded.headers_len loaded.texts_len (1024 + headers_size slots) (texts_size slots) live (new_base loaded) 1024 0 slots
          (All-drop (IsSlotWithin loaded.headers_len loaded.texts_len) (new_base loaded - loaded.base) loaded.slots sound.within)
          (omega arith) (omega arith) (headers_fit_kept limit loaded sound) (omega arith) fits;
      apart = apart_packed live (new_base loaded) 1024 0 slots;
    }
