-- The pieces of a pack make of files that hold an area files that hold the packed one.
use Rattle.std.proofs.Common.{◌≡◌, ◌≢◌, ℕ, ◌+◌, ◌-◌, ◌*◌, ◌≤◌, ◌<◌, List, [], ◌∷◌, ◌++◌, Option, length, map, refl, sym, ◌∙◌, ap, subst, arith, length-append, length-drop}
use Rattle.std.specs.Prelude.{slice_index_or, ◌^◌}
use Rattle.std.specs.List.{flat_map, position_or_len}
use Rattle.std.proofs.lemmas.List.Sums.{sum_by-le}
use Rattle.jb_redo.specs.Record.{piece_bytes}
use Rattle.std.proofs.lemmas.List.{length-map}
use Rattle.std.proofs.lemmas.List.Elements.{All-nil}
use Rattle.jb_limits.specs.declared.limits.TheConstants.{HEADERS_CEILING, TEXTS_CEILING, MOST_SLOTS, MOST_TEXT_BYTES}
use Rattle.jb_redo.specs.Changes.{changed}
use Rattle.jb_disk.specs.declared.version.Version.TheVariants.{Two}
use Rattle.jb_disk.specs.RedoView.{RedoView, bytes_of}
use Rattle.jb_disk.specs.Files.{Files, file_number}
use Rattle.jb_disk.specs.declared.file.FileId.TheVariants.{Jhr, Jdt, Jdx, Jlr}
use Rattle.jb_disk.specs.declared.piece.Piece.{Piece}
use Rattle.jb_image.specs.Stands.{fixed_of}
use Rattle.jb_state.specs.LiveSlots.{linkables_from}
use Rattle.jb_state.specs.Live.{live_from}
use Rattle.jb_state.specs.PackedState.{first_number_or}
use Rattle.jb_state.specs.Sound.{IsSlotWithin, IsSound}
use Rattle.jb_state.specs.State.{slot_state, state_of}
use Rattle.jb_state.proofs.PackLaws.{packed_base-within}
use Rattle.jb_state.specs.declared.loaded.Loaded.{Loaded}
use Rattle.jb_state.specs.declared.loaded.LoadedSlot.{LoadedSlot}
use Rattle.jb_state.specs.declared.loaded.LoadedSlot.TheVariants.{Empty, Killed, Live}
use Rattle.jb_record.specs.Fixed.{fixed_header_bytes}
use Rattle.jb_redo.specs.Rules.{AreLegalLengths}
use Rattle.jb_pack.specs.Bytes.{IsReadAgain, headers_bytes, headers_file, index_file}
use Rattle.jb_pack.specs.Copying.{PutsTexts}
use Rattle.jb_pack.specs.Laid.{IsLaidOut, IsLegalIn, Lays, laid, pieces_into}
use Rattle.jb_state.specs.Packed.{headers_size, is_live_slot, kept_slots, live_slots, new_base, packed, slot_text_size, texts_size}
use Rattle.jb_pack.specs.Plan.{IsPackOf, PutsArea, PutsBase, StandPacked, lengths_with}
use Rattle.jb_pack.proofs.FitLemmas.{headers_fit_kept, headers_long}
use Rattle.jb_pack.proofs.HeldLemmas.{length-headers, length-index, length-packed}
use Rattle.jb_pack.proofs.WholeLemmas.{grown_there, laid_in_any, legal_lengths, legal_there, stand_there}
use Rattle.jb_redo.proofs.LengthLemmas.{length-record}

-- nothing is laid out
pub laid_out_none : IsLaidOut []
laid_out_none = record {
  fronts = λ files file old long. refl;
  covers = λ files file i low. absurd (omega (arith, low));
  each = All-nil (IsLegalIn (λ file. 0));
  few = omega arith;
}

-- bytes that are none
nothing : (bytes : List ℕ) → length bytes ≡ 0 → bytes ≡ []
nothing [] none = refl
nothing (byte ∷ bytes) none = absurd (omega (arith, none))

-- two files
jhr_not_jdx : Jhr ≢ Jdx
jhr_not_jdx same = absurd (omega (arith, ap file_number same))

-- and the other way round
jdx_not_jhr : Jdx ≢ Jhr
jdx_not_jhr same = absurd (omega (arith, ap file_number same))

-- all of .JHR and .JDX is put
pub area_put : (loaded : Loaded) (old one two new : RedoView) (count : ℕ) → length (laid old.pieces Jhr) ≡ 0
    → Lays Jhr 1 (fixed_header_bytes (fixed_of (packed loaded))) old one → Lays Jhr count (headers_bytes (new_base loaded) (packed loaded).slots) one two
    → Lays Jdx 1 (index_file (packed loaded)) two new → length (laid old.pieces Jdx) ≡ 0 → count ≡ live_slots (kept_slots loaded)
    → length (fixed_header_bytes (fixed_of (packed loaded))) ≡ 1024 → IsReadAgain (packed loaded) → PutsArea loaded old new
area_put loaded old one two new count begin fixed slots index begin_index count_is fixed_size back =
    let fixed_bytes : List ℕ = fixed_header_bytes (fixed_of (packed loaded)) in
    let first : laid one.pieces Jhr ≡ fixed_bytes = fixed.here ∙ ap (λ (l : List ℕ). l ++ fixed_bytes) (nothing (laid old.pieces Jhr) begin) in
    let index_before : laid two.pieces Jdx ≡ [] =
    ap (flat_map bytes_of) (slots.others Jdx jdx_not_jhr ∙ fixed.others Jdx jdx_not_jhr) ∙ nothing (laid old.pieces Jdx) begin_index in
    record {
      lengths = index.lengths ∙ slots.lengths ∙ fixed.lengths;
      headers =
          ap (flat_map bytes_of) (index.others Jhr jhr_not_jdx) ∙ slots.here
          ∙ ap (λ (l : List ℕ). l ++ headers_bytes (new_base loaded) (packed loaded).slots) first;
      index = index.here ∙ ap (λ (l : List ℕ). l ++ index_file (packed loaded)) index_before;
      others = λ other not_headers not_index. index.others other not_index ∙ slots.others other not_headers ∙ fixed.others other not_headers;
      kept = λ was. index.kept (slots.kept (fixed.kept was));
      size = omega (arith, index.size, slots.size, fixed.size, length-append fixed_bytes (headers_bytes (new_base loaded) (packed loaded).slots));
      long =
          omega (
            arith,
            length-append fixed_bytes (headers_bytes (new_base loaded) (packed loaded).slots),
            length-headers (linkables_from loaded.base loaded.slots) (new_base loaded) 1024 0 (kept_slots loaded),
          );
      back = back;
    }

-- the new base is the number of the first live slot
first_at : (number last : ℕ) (slots : List LoadedSlot) → last ≡ number + length slots
    → first_number_or last (live_from number (map (slot_state []) slots)) ≡ number + position_or_len is_live_slot slots
first_at number last [] is = is
first_at number last (Empty ∷ slots) is = let rest = first_at (number + 1) last slots (omega (arith, is)) in omega (arith, rest)
first_at number last (Killed at ∷ slots) is = let rest = first_at (number + 1) last slots (omega (arith, is)) in omega (arith, rest)
first_at number last (Live message ∷ slots) is = omega arith

-- the new base, by the place of the first live message
pub new_base_at : (loaded : Loaded) → new_base loaded ≡ loaded.base + position_or_len is_live_slot loaded.slots
new_base_at loaded =
    first_at loaded.base (loaded.base + length (map (slot_state []) loaded.slots)) loaded.slots (omega (arith, length-map loaded.slots (slot_state [])))

-- the index is short
pub index_short : (limit : ℕ) (loaded : Loaded) → IsSound limit loaded → limit ≤ MOST_SLOTS → length (index_file (packed loaded)) ≤ 8000000
index_short limit loaded sound limited =
    omega (
      arith,
      length-index (packed loaded).slots,
      length-packed (linkables_from loaded.base loaded.slots) (new_base loaded) 1024 0 (kept_slots loaded),
      length-drop (new_base loaded - loaded.base) loaded.slots,
      sound.few_slots,
    )

-- the new lengths are put, and then all of .JHR and .JDX
pub base_put : (loaded : Loaded) (one two : RedoView)
    → one.lengths ≡ lengths_with (headers_size (kept_slots loaded)) (texts_size (kept_slots loaded)) (length (kept_slots loaded)) → one.pieces ≡ []
    → PutsArea loaded one two → PutsBase loaded two
base_put loaded one two lengths_are none area =
    let lengths_count : length one.lengths ≡ 3 = ap length lengths_are in
    let no_pieces : length (flat_map (piece_bytes Two) one.pieces) ≡ 0 = ap (λ (l : List Piece). length (flat_map (piece_bytes Two) l)) none in
    record {
      lengths = area.lengths ∙ lengths_are;
      headers = area.headers;
      index = area.index;
      others = λ other not_headers not_index. area.others other not_headers not_index ∙ ap (λ (l : List Piece). pieces_into l other) none;
      laid_out = area.kept (subst IsLaidOut (sym none) laid_out_none);
      size = omega (arith, area.size, length-record 0 one.lengths one.pieces);
      long = area.long;
      back = area.back;
    }

-- .JDT is neither of them
pub texts_apart : (Jdt ≢ Jhr) × (Jdt ≢ Jdx)
texts_apart = (λ same. absurd (omega (arith, ap file_number same)), λ same. absurd (omega (arith, ap file_number same)))

-- nor is .JLR
pub marks_apart : (Jlr ≢ Jhr) × (Jlr ≢ Jdx)
marks_apart = (λ same. absurd (omega (arith, ap file_number same)), λ same. absurd (omega (arith, ap file_number same)))

-- all parts of a pack, put one after another
pub pack_of : (limit : ℕ) (loaded : Loaded) (two new : RedoView) (contents : Option Files) → IsSound limit loaded → limit ≤ MOST_SLOTS
    → texts_size (kept_slots loaded) ≤ TEXTS_CEILING → PutsBase loaded two → PutsTexts contents (kept_slots loaded) two new → IsPackOf contents loaded new
pack_of limit loaded two new contents sound limited fits base texts =
    let lays = texts.lays in
    let all_lengths : new.lengths ≡ lengths_with (headers_size (kept_slots loaded)) (texts_size (kept_slots loaded)) (length (kept_slots loaded)) =
    lays.lengths ∙ base.lengths in
    let headers : laid new.pieces Jhr ≡ headers_file (packed loaded) = ap (flat_map bytes_of) (lays.others Jhr (λ same. absurd (omega (arith, ap file_number same)))) ∙ base.headers in
    let index : laid new.pieces Jdx ≡ index_file (packed loaded) = ap (flat_map bytes_of) (lays.others Jdx (λ same. absurd (omega (arith, ap file_number same)))) ∙ base.index in
    let no_texts : laid two.pieces Jdt ≡ [] = ap (flat_map bytes_of) (base.others Jdt texts_apart.0 texts_apart.1) in
    let all_texts : laid new.pieces Jdt ≡ texts.bytes = lays.here ∙ ap (λ (l : List ℕ). l ++ texts.bytes) no_texts in
    let no_marks : laid new.pieces Jlr ≡ [] =
    ap (flat_map bytes_of) (lays.others Jlr (λ same. absurd (omega (arith, ap file_number same))) ∙ base.others Jlr marks_apart.0 marks_apart.1) in
    let many : length (kept_slots loaded) ≤ MOST_SLOTS = omega (arith, sound.few_slots, length-drop (new_base loaded - loaded.base) loaded.slots) in
    let headers_fit : 1024 + headers_size (kept_slots loaded) ≤ HEADERS_CEILING = headers_fit_kept limit loaded sound in
    let out : IsLaidOut new.pieces = lays.kept base.laid_out in
    let texts_len = texts.size in
    let texts_record = lays.size in
    let base_record = base.size in
    let base_long = base.long in
    let slots_are : length (packed loaded).slots ≡ length (kept_slots loaded) =
    length-packed (linkables_from loaded.base loaded.slots) (new_base loaded) 1024 0 (kept_slots loaded) in
    let index_is : length (index_file (packed loaded)) ≡ 8 * length (kept_slots loaded) = length-index (packed loaded).slots ∙ ap (λ n. 8 * n) slots_are in
    let live_few = headers_long (kept_slots loaded) in
    record {
      texts = texts.bytes;
      brings = record {
        legal = λ files loads. legal_there limit loaded new sound limited fits all_lengths base.back files loads (laid new.pieces) (laid_in_any files new.pieces out)
            headers base.long index (ap length all_texts ∙ texts.size) no_marks;
        grown = λ files loads. grown_there limit loaded new sound limited fits all_lengths base.back files loads (laid new.pieces) (laid_in_any files new.pieces out)
            headers base.long index (ap length all_texts ∙ texts.size) no_marks;
        made = λ files loads. subst (λ (l : List ℕ). StandPacked loaded l (changed new files)) all_texts
            (stand_there limit loaded new sound limited fits all_lengths base.back files loads (laid new.pieces) (laid_in_any files new.pieces out)
            headers base.long index (ap length all_texts ∙ texts.size) no_marks);
      };
      short = omega arith;
      lengths = subst (AreLegalLengths Two) (sym all_lengths)
          (legal_lengths (headers_size (kept_slots loaded)) (texts_size (kept_slots loaded)) (length (kept_slots loaded)) headers_fit fits many);
      told = texts.told;
    }

-- texts together are no more bytes than a number of 64 bits counts
pub texts_small : (limit : ℕ) (loaded : Loaded) → IsSound limit loaded → limit ≤ MOST_SLOTS → texts_size loaded.slots < 2 ^ 64
texts_small limit loaded sound limited =
    omega (arith, sum_by-le slot_text_size MOST_TEXT_BYTES loaded.slots (λ k d low. short (slice_index_or loaded.slots k d) (sound.within k d low)), sound.few_slots)
  where
    short : (slot : LoadedSlot) → IsSlotWithin loaded.headers_len loaded.texts_len slot → slot_text_size slot ≤ MOST_TEXT_BYTES
    short Empty within = omega arith
    short (Killed at) within = omega arith
    short (Live message) within = within.text.short

-- the new base lies among the numbers of the area, or right behind
pub base_within : (loaded : Loaded) → (loaded.base ≤ new_base loaded) × (new_base loaded ≤ loaded.base + length loaded.slots)
base_within loaded =
    let within = packed_base-within (state_of [] loaded) in
    let above = within.0 in
    let below = within.1 in
    (omega arith, omega (arith, length-map loaded.slots (slot_state [])))
