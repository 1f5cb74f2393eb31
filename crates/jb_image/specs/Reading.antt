-- What is known of the slots of a base once their headers are read, whether the disk tells its contents or not.
use Rattle.std.specs.Prelude.{◌≡◌, ◌≢◌, ℕ, ◌+◌, ◌*◌, ◌/◌, ◌%◌, ◌<◌, ◌≤◌, IsTrue, List, length, slice_index_or, map, Option, Some, None}
use Rattle.std.specs.BTreeSet.{BTreeSet, contains}
use Rattle.std.specs.Ordering.{nat_cmp}
use Rattle.jb_limits.specs.declared.limits.TheConstants.{LASTREAD_CEILING, MOST_SUBFIELD_BYTES}
use Rattle.jb_bytes.specs.declared.subfield.Subfield.{Subfield}
use Rattle.jb_bytes.specs.Subfields.{IsCutAt, IsSubfieldList, subfield_bytes}
use Rattle.jb_disk.specs.Files.{Files}
use Rattle.jb_disk.specs.declared.file.FileId.TheVariants.{Jhr}
use Rattle.jb_image.specs.Extents.{HoldsByte, IsFirstOverlap}
use Rattle.jb_image.specs.declared.extent.Extent.{Extent}
use Rattle.jb_image.specs.declared.overlapping.Overlap.{Overlap}
use Rattle.jb_state.specs.declared.loaded.LoadedSlot.{LoadedSlot}
use Rattle.jb_state.specs.declared.loaded.LoadedSlot.TheVariants as loaded
use Rattle.jb_state.specs.declared.mark.Mark.{Mark}
use Rattle.jb_state.specs.Sound.{IsTextWithin, IsWithin}
use Rattle.jb_record.specs.declared.fixed.FixedHeader.{FixedHeader}
use Rattle.jb_record.specs.declared.index.IndexRecord.{IndexRecord}
use Rattle.jb_record.specs.declared.index.TheConstants.{EMPTY_SLOT}
use Rattle.jb_record.specs.Lastread.{lastread_record_of}
use Rattle.jb_image.specs.declared.error.Damage.{Damage}
use Rattle.jb_image.specs.declared.error.Damage.TheVariants.{HeaderPlace, HeaderSignature, HeaderRevision, Subfields, TextPlace}
use Rattle.jb_image.specs.declared.error.OpenError.{OpenError}
use Rattle.jb_image.specs.declared.error.OpenError.TheVariants as refused
use Rattle.jb_image.specs.declared.lengths.Lengths.{Lengths}
use Rattle.jb_image.specs.declared.seen.SeenMessage.{SeenMessage}
use Rattle.jb_image.specs.declared.seen.SeenSlot.{SeenSlot}
use Rattle.jb_image.specs.declared.seen.SeenSlot.TheVariants as seen
use Rattle.jb_image.specs.Answers.{AreFirstOverlap, IsFirstDamaged, refusal_of}
use Rattle.jb_image.specs.Places.{bytes_at, entry_in, header_in}
use Rattle.jb_image.specs.Stands.{HasHeader, HasSlot, IsKilledAt, mark_record}
use Rattle.jb_image.specs.Tests.{IsUndeleted, IsWholeSlot, slots_in}

-- a header that was read lies, with the subfields of a message that is not killed, within .JHR of this length
abbrev pub IsSeenWithin : ℕ → SeenSlot → Type 0
IsSeenWithin headers_len seen.Empty = Unit {0}
IsSeenWithin headers_len (seen.Killed header_at) = IsWithin headers_len header_at 76
IsSeenWithin headers_len (seen.Live message) =
    IsUndeleted message.header × (message.header.subfields ≤ MOST_SUBFIELD_BYTES)
    × IsWithin headers_len message.header_at (76 + message.header.subfields)

-- the bytes of .JHR that it takes
abbrev pub extent_seen : SeenSlot → Extent
extent_seen seen.Empty = record { start = 0; len = 0 }
extent_seen (seen.Killed header_at) = record { start = header_at; len = 76 }
extent_seen (seen.Live message) = record { start = message.header_at; len = 76 + message.header.subfields }

-- headers that end here end there with these bytes, none of which lies before them
pub record IsEndBehind (extent : Extent) (end behind : ℕ) : Type 0 where
  pub later : end ≤ behind
  pub begin : (i : ℕ) → HoldsByte extent i → end ≤ i
  pub below : (i : ℕ) → HoldsByte extent i → i < behind

-- the index record names this killed header
pub record IsSeenKilled (files : Files) (entry : IndexRecord) (header_at : ℕ) : Type 0 where
  pub there : entry.offset ≢ EMPTY_SLOT
  pub at : header_at ≡ entry.offset
  pub killed : IsKilledAt files header_at

-- the index record names this live header, whose subfields lie where they must
pub record IsSeenLive (files : Files) (entry : IndexRecord) (message : SeenMessage) : Type 0 where
  pub there : entry.offset ≢ EMPTY_SLOT
  pub at : message.header_at ≡ entry.offset
  pub owner : message.owner ≡ entry.user_crc
  pub header : HasHeader files message.header_at
  pub same : message.header ≡ header_in files message.header_at
  pub live : IsUndeleted message.header
  pub few_bytes : message.header.subfields ≤ MOST_SUBFIELD_BYTES
  pub placed : IsWithin (length (files Jhr)) message.header_at (76 + message.header.subfields)

-- the index record names the slot that was read
abbrev pub IsSeenAs : Files → IndexRecord → SeenSlot → Type 0
IsSeenAs files entry seen.Empty = entry.offset ≡ EMPTY_SLOT
IsSeenAs files entry (seen.Killed header_at) = IsSeenKilled files entry header_at
IsSeenAs files entry (seen.Live message) = IsSeenLive files entry message

-- the first slots of the index are these
pub record AreSeen (files : Files) (slots : List SeenSlot) : Type 0 where
  pub few : length slots ≤ slots_in files
  pub each : (k : ℕ) (d : SeenSlot) → k < length slots → IsSeenAs files (entry_in files k) (slice_index_or slots k d)

-- each slot whose index record names one of these places is whole
abbrev pub AreWholeAt : Files → BTreeSet ℕ → Type 0
AreWholeAt files places = (entry : IndexRecord) → IsTrue (contains nat_cmp places entry.offset) → IsWholeSlot files entry

-- the slot is loaded: at the same place, with the same attribute, subfields of as many bytes, and a text within .JDT of this length
abbrev pub IsLoadedFrom : ℕ → SeenSlot → LoadedSlot → Type 0
IsLoadedFrom texts_len seen.Empty loaded.Empty = Unit {0}
IsLoadedFrom texts_len (seen.Killed header_at) (loaded.Killed loaded_at) = loaded_at ≡ header_at
IsLoadedFrom texts_len (seen.Live message) (loaded.Live letter) =
    (letter.header_at ≡ message.header_at) × (letter.head.attribute ≡ message.header.attribute)
    × (length (subfield_bytes letter.subfields) ≡ message.header.subfields)
    × IsTextWithin texts_len letter.text_at letter.text_len
IsLoadedFrom texts_len _ _ = ⊥

-- the slots are loaded, one from each
pub record AreLoadedFrom (texts_len : ℕ) (seen : List SeenSlot) (slots : List LoadedSlot) : Type 0 where
  pub count_is : length slots ≡ length seen
  pub each : (k : ℕ) (d : SeenSlot) (e : LoadedSlot) → k < length slots → IsLoadedFrom texts_len (slice_index_or seen k d) (slice_index_or slots k e)

-- the index names these slots
abbrev pub AreSlotsOf : Files → List LoadedSlot → Type 0
AreSlotsOf files slots = (k : ℕ) (d : LoadedSlot) → k < length slots → HasSlot files (entry_in files k) (slice_index_or slots k d)

-- bytes are refused as a list of subfields: none has them, and this is the place
abbrev pub IsCutBy : List ℕ → Damage → Type 0
IsCutBy bytes (Subfields at) = IsCutAt bytes at × ((fields : List Subfield) → IsSubfieldList fields bytes → ⊥)
IsCutBy bytes _ = ⊥

-- a refusal for the first damaged slot, or for want of a disk or of memory
abbrev pub IsRefusedBySlot : Files → OpenError → Type 0
IsRefusedBySlot files (refused.HeaderPlace number) = IsFirstDamaged files number HeaderPlace
IsRefusedBySlot files (refused.HeaderSignature number) = IsFirstDamaged files number HeaderSignature
IsRefusedBySlot files (refused.HeaderRevision number) = IsFirstDamaged files number HeaderRevision
IsRefusedBySlot files (refused.Subfields number at) = IsFirstDamaged files number (Subfields at)
IsRefusedBySlot files (refused.TextPlace number) = IsFirstDamaged files number TextPlace
IsRefusedBySlot files refused.StoreFault = Unit {0}
IsRefusedBySlot files refused.OutOfMemory = Unit {0}
IsRefusedBySlot files _ = ⊥

-- the lengths and the base number are those of a base of so many slots
pub record IsCount (fixed : FixedHeader) (lengths : Lengths) (limit count : ℕ) : Type 0 where
  pub index : lengths.index ≡ 8 * count
  pub marks : lengths.lastread % 16 ≡ 0
  pub few_marks : lengths.lastread ≤ LASTREAD_CEILING
  pub few_slots : count ≤ limit
  pub numbers : fixed.base + count ≤ 4294967295

-- the first of the tests on lengths and count that fails
abbrev pub IsMiscounted : FixedHeader → Lengths → ℕ → OpenError → Type 0
IsMiscounted fixed lengths limit refused.IndexLength = lengths.index % 8 ≢ 0
IsMiscounted fixed lengths limit refused.LastreadLength =
    (lengths.index % 8 ≡ 0) × ((lengths.lastread % 16 ≡ 0) × (lengths.lastread ≤ LASTREAD_CEILING) → ⊥)
IsMiscounted fixed lengths limit refused.TooManySlots =
    (lengths.index % 8 ≡ 0) × (lengths.lastread % 16 ≡ 0) × (lengths.lastread ≤ LASTREAD_CEILING) × (limit < lengths.index / 8)
IsMiscounted fixed lengths limit refused.NumberRange =
    (lengths.index % 8 ≡ 0) × (lengths.lastread % 16 ≡ 0) × (lengths.lastread ≤ LASTREAD_CEILING) × (lengths.index / 8 ≤ limit)
    × (4294967295 < fixed.base + lengths.index / 8)
IsMiscounted fixed lengths limit _ = ⊥

-- these marks stand in the bytes of the lastread records
pub record AreMarksIn (bytes : List ℕ) (marks : List Mark) : Type 0 where
  pub size : length bytes ≡ 16 * length marks
  pub each : (k : ℕ) (d : Mark) → k < length marks → mark_record (slice_index_or marks k d) ≡ lastread_record_of (bytes_at (16 * k) 16 bytes)

-- the refusal that comes where the slots that were seen are whole
abbrev pub IsLaterRefusal : ℕ → List SeenSlot → Option Damage → OpenError → Type 0
IsLaterRefusal base slots None error =
    (overlap : Overlap) × IsFirstOverlap (map extent_seen slots) overlap × (error ≡ refused.HeadersOverlap (base + overlap.one) (base + overlap.other))
IsLaterRefusal base slots (Some damage) error = error ≡ refusal_of (base + length slots) damage

-- the slots are refused: one is damaged, or all are whole and the headers of two overlap
abbrev pub IsRefusedAmongSlots : Files → OpenError → Type 0
IsRefusedAmongSlots files (refused.HeadersOverlap a b) = AreFirstOverlap files a b
IsRefusedAmongSlots files error = IsRefusedBySlot files error
