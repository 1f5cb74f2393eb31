-- The bytes that headers take, as they were read and as they stand in the files.
use Rattle.std.proofs.Common.{◌≡◌, ℕ, ◌+◌, ◌<◌, List, length, map, Option, Some, None, ap, sym, ◌∙◌, refl, subst, arith}
use Rattle.std.specs.Prelude.{IfNone, IfSome, AllPairs, All, ◌≢◌, ◌==◌, bit_and, slice_index_or, if◌then◌else◌}
use Rattle.jb_base.specs.declared.attribute.TheConstants.{DELETED}
use Rattle.std.proofs.lemmas.Bool.Decides.{nat_tests}
use Rattle.std.proofs.lemmas.List.{get_or-map, length-map}
use Rattle.std.proofs.lemmas.List.FromFn.{fill_by_all}
use Rattle.jb_disk.specs.Files.{Files}
use Rattle.jb_image.specs.Extents.{AreDisjoint, HoldsByte, IsFirstOverlap}
use Rattle.jb_image.specs.declared.extent.Extent.{Extent}
use Rattle.jb_image.specs.declared.overlapping.Overlap.{Overlap}
use Rattle.jb_state.specs.Sound.{AreApart, Covers, IsSlotWithin}
use Rattle.jb_state.specs.declared.loaded.LoadedSlot.{LoadedSlot}
use Rattle.jb_state.specs.declared.loaded.LoadedSlot.TheVariants as loaded
use Rattle.jb_record.specs.declared.index.IndexRecord.{IndexRecord}
use Rattle.jb_record.specs.declared.index.TheConstants.{EMPTY_SLOT}
use Rattle.jb_record.specs.declared.message.MessageHeader.{MessageHeader}
use Rattle.jb_image.specs.declared.error.Damage.{Damage}
use Rattle.jb_image.specs.declared.error.OpenError.{OpenError}
use Rattle.jb_image.specs.declared.seen.SeenSlot.{SeenSlot}
use Rattle.jb_image.specs.declared.seen.SeenSlot.TheVariants as seen
use Rattle.jb_image.specs.Answers.{AreFirstOverlap, IsDamaged}
use Rattle.jb_image.specs.Overlaps.{extent_in, extent_of, extents_in}
use Rattle.jb_image.specs.Places.{entry_in, fixed_in, header_in}
use Rattle.jb_image.specs.Reading.{AreLoadedFrom, AreSeen, IsLaterRefusal, IsLoadedFrom, IsRefusedAmongSlots, IsSeenAs, IsSeenWithin, extent_seen}
use Rattle.jb_image.specs.Stands.{IsDeleted}
use Rattle.jb_image.specs.Tests.{IsUndeleted, IsWholeSlot, slots_in}
use Rattle.jb_image.proofs.FirstTests.{seen_live}
use Rattle.jb_image.proofs.Refusals.{first_damaged, refused_among_slots, refused_by_slot}

-- a killed header takes its 76 bytes
pub extent_killed : (header : MessageHeader) → IsDeleted header → extent_of header ≡ 76
extent_killed header deleted = grind (arith, nat_tests)

-- a live one takes its subfields too
pub extent_live : (header : MessageHeader) → IsUndeleted header → extent_of header ≡ 76 + header.subfields
extent_live header live = grind (arith, nat_tests)

-- these bytes
extent : ℕ → ℕ → Extent
extent start len = record { start = start; len = len }

-- the extent of an empty slot, and of another
pub extent_empty : (n : ℕ) (one other : Extent) → n ≡ EMPTY_SLOT → (if n == EMPTY_SLOT then one else other) ≡ one
extent_empty n one other empty = grind (arith, nat_tests)

pub extent_full : (n : ℕ) (one other : Extent) → n ≢ EMPTY_SLOT → (if n == EMPTY_SLOT then one else other) ≡ other
extent_full n one other full = grind (arith, nat_tests)

-- the extent that was seen is that of the header in the files
extent_same : (files : Files) (entry : IndexRecord) (slot : SeenSlot) → IsSeenAs files entry slot → extent_seen slot ≡ extent_in files entry
unfolding extent
extent_same files entry seen.Empty is = sym (extent_empty entry.offset (extent 0 0) (extent entry.offset (extent_of (header_in files entry.offset))) is)
extent_same files entry (seen.Killed header_at) is =
    let killed = subst (λ (n : ℕ). IsDeleted (header_in files n)) is.at is.killed.deleted in
    let size : 76 ≡ extent_of (header_in files entry.offset) = sym (extent_killed (header_in files entry.offset) killed) in
    ap (λ (n : ℕ). extent n 76) is.at ∙ ap (extent entry.offset) size
    ∙ sym (extent_full entry.offset (extent 0 0) (extent entry.offset (extent_of (header_in files entry.offset))) is.there)
extent_same files entry (seen.Live message) is =
    let live = seen_live files entry message is in
    let size : 76 + message.header.subfields ≡ extent_of (header_in files entry.offset) =
    ap (λ (n : ℕ). 76 + n) (sym live.1) ∙ sym (extent_live (header_in files entry.offset) live.0) in
    ap (λ (n : ℕ). extent n (76 + message.header.subfields)) is.at ∙ ap (extent entry.offset) size
    ∙ sym (extent_full entry.offset (extent 0 0) (extent entry.offset (extent_of (header_in files entry.offset))) is.there)

-- an extent of the list is that of the slot at its place
extent_at : (slots : List SeenSlot) (k : ℕ) (d : Extent) (e : SeenSlot) → k < length slots → slice_index_or (map extent_seen slots) k d ≡ extent_seen (slice_index_or slots k e)
extent_at slots k d e low = get_or-map extent_seen slots k e d low

-- where all slots were seen, the extents are those of the headers in the files
extents_same : (files : Files) (slots : List SeenSlot) → AreSeen files slots → length slots ≡ slots_in files → map extent_seen slots ≡ extents_in files
extents_same files slots are count_is =
    fill_by_all (λ k. extent_in files (entry_in files k)) (map extent_seen slots) (slots_in files) (record { start = 0; len = 0 }) (length-map slots extent_seen ∙ count_is)
    (λ k low.
    let inside : k < length slots = omega (arith, count_is) in
    extent_at slots k (record { start = 0; len = 0 }) seen.Empty inside
    ∙ extent_same files (entry_in files k) (slice_index_or slots k seen.Empty) (are.each k seen.Empty inside))

-- the first overlap of the extents is that of the headers in the files
pub first_overlap_in : (files : Files) (slots : List SeenSlot) (base : ℕ) (overlap : Overlap) → base ≡ (fixed_in files).base → AreSeen files slots
    → length slots ≡ slots_in files → ((k : ℕ) → k < length slots → IsWholeSlot files (entry_in files k)) → IsFirstOverlap (map extent_seen slots) overlap
    → AreFirstOverlap files (base + overlap.one) (base + overlap.other)
first_overlap_in files slots base overlap base_is are count_is whole first = record {
  whole = λ k low. whole k (omega (arith, count_is));
  overlap = overlap;
  one_is = ap (λ (n : ℕ). n + overlap.one) base_is;
  other_is = ap (λ (n : ℕ). n + overlap.other) base_is;
  first = subst (λ (extents : List Extent). IsFirstOverlap extents overlap) (extents_same files slots are count_is) first;
}

-- the refusal that comes where the slots that were seen are whole
pub later_refused : (files : Files) (base count : ℕ) (slots : List SeenSlot) (damage : Option Damage) (error : OpenError) → base ≡ (fixed_in files).base
    → count ≡ slots_in files → AreSeen files slots → ((k : ℕ) → k < length slots → IsWholeSlot files (entry_in files k))
    → IfNone damage (length slots ≡ count) → IfSome damage (λ _. length slots < count) → IfSome damage (IsDamaged files (entry_in files (length slots)))
    → IsLaterRefusal base slots damage error → IsRefusedAmongSlots files error
later_refused files base count slots None error base_is count_is are whole all part here later =
    subst (IsRefusedAmongSlots files) (sym later.2) (first_overlap_in files slots base later.0 base_is are (all ∙ count_is) whole later.1)
later_refused files base count slots (Some damage) error base_is count_is are whole all part here later =
    refused_among_slots files error (refused_by_slot files (base + length slots) damage error later
    (first_damaged files base (base + length slots) (length slots) damage base_is refl (omega (arith, part)) whole here))

-- a byte that a loaded slot covers is one of the extent that was seen
pub covers_held : (texts_len : ℕ) (slot : SeenSlot) (made : LoadedSlot) (i : ℕ) → IsLoadedFrom texts_len slot made → Covers made i → HoldsByte (extent_seen slot) i
covers_held texts_len seen.Empty loaded.Empty i is covers = absurd covers
covers_held texts_len (seen.Killed header_at) (loaded.Killed loaded_at) i is covers = (omega (arith, is, covers.0), omega (arith, is, covers.1))
covers_held texts_len (seen.Live message) (loaded.Live letter) i is covers = (omega (arith, is.0, covers.0), omega (arith, is.0, is.2, covers.1))
covers_held texts_len _ _ i is covers = absurd is

-- a slot that is loaded lies where it was seen
pub within_loaded : (headers_len texts_len : ℕ) (slot : SeenSlot) (made : LoadedSlot) → IsSeenWithin headers_len slot → IsLoadedFrom texts_len slot made → IsSlotWithin headers_len texts_len made
within_loaded headers_len texts_len seen.Empty loaded.Empty within is = tt
within_loaded headers_len texts_len (seen.Killed header_at) (loaded.Killed loaded_at) within is =
    let inside = within.inside in
    record { after = omega (arith, within.after, is); inside = omega (arith, is); below = omega (arith, within.below, is) }
within_loaded headers_len texts_len (seen.Live message) (loaded.Live letter) within is = record {
  live = ap (λ attribute. bit_and attribute DELETED) is.1 ∙ within.0;
  few_bytes = omega (arith, within.1, is.2);
  header = record {
    after = omega (arith, within.2.after, is.0);
    inside = omega (arith, within.2.inside, is.0, is.2);
    below = omega (arith, within.2.below, is.0, is.2);
  };
  text = is.3;
}
within_loaded headers_len texts_len _ _ within is = absurd is

-- slots that are loaded lie where they were seen
pub all_within : (headers_len texts_len : ℕ) (slots : List SeenSlot) (made : List LoadedSlot) → All (IsSeenWithin headers_len) slots
    → AreLoadedFrom texts_len slots made → All (IsSlotWithin headers_len texts_len) made
all_within headers_len texts_len slots made within are k d low =
    let count_is = are.count_is in
    within_loaded headers_len texts_len (slice_index_or slots k seen.Empty) (slice_index_or made k d) (within k seen.Empty (omega arith)) (are.each k seen.Empty d low)

-- slots that are loaded lie apart where their extents do
pub all_apart : (texts_len : ℕ) (slots : List SeenSlot) (made : List LoadedSlot) → AllPairs AreDisjoint (map extent_seen slots)
    → AreLoadedFrom texts_len slots made → AllPairs AreApart made
all_apart texts_len slots made apart are j k d less low i covers covers' =
    let count_is = are.count_is in
    let size = length-map slots extent_seen in
    let e : Extent = record { start = 0; len = 0 } in
    let held = covers_held texts_len (slice_index_or slots j seen.Empty) (slice_index_or made j d) i (are.each j seen.Empty d (omega arith)) covers in
    let held' = covers_held texts_len (slice_index_or slots k seen.Empty) (slice_index_or made k d) i (are.each k seen.Empty d low) covers' in
    apart j k e less (omega arith) i (subst (λ (x : Extent). HoldsByte x i) (sym (extent_at slots j e seen.Empty (omega arith))) held)
    (subst (λ (x : Extent). HoldsByte x i) (sym (extent_at slots k e seen.Empty (omega arith))) held')
