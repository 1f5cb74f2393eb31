-- The tests that a base passes before it is opened, each in its place in their order.
use Rattle.std.specs.Prelude.{◌≡◌, ◌≢◌, ℕ, ◌+◌, ◌/◌, ◌%◌, ◌<◌, ◌≤◌, List, length, take, bit_and}
use Rattle.jb_bytes.specs.Number.{number_at}
use Rattle.jb_bytes.specs.Subfields.{IsSubfieldList}
use Rattle.jb_limits.specs.declared.limits.TheConstants.{LASTREAD_CEILING, MOST_SUBFIELD_BYTES}
use Rattle.jb_bytes.specs.declared.subfield.Subfield.{Subfield}
use Rattle.jb_disk.specs.Files.{Files}
use Rattle.jb_disk.specs.declared.file.FileId.TheVariants.{Jhr, Jdt, Jdx, Jlr}
use Rattle.jb_state.specs.Sound.{IsWithin, IsTextWithin}
use Rattle.jb_base.specs.declared.attribute.TheConstants.{DELETED}
use Rattle.jb_record.specs.Fields.{signature}
use Rattle.jb_record.specs.declared.index.IndexRecord.{IndexRecord}
use Rattle.jb_record.specs.declared.index.TheConstants.{EMPTY_SLOT}
use Rattle.jb_record.specs.declared.message.MessageHeader.{MessageHeader}
use Rattle.jb_image.specs.Places.{bytes_at, fixed_in, header_in, subfields_in}

-- how many index records there are
abbrev pub slots_in : Files → ℕ
slots_in files = length (files Jdx) / 8

-- a test of the files as a whole
pub data FileTest : Type 0 where
  long_enough : FileTest
  signed : FileTest
  based : FileTest
  index_whole : FileTest
  marks_whole : FileTest
  few_slots : FileTest
  numbers_left : FileTest

-- its place in their order
abbrev pub file_rank : FileTest → ℕ
file_rank long_enough = 0
file_rank signed = 1
file_rank based = 2
file_rank index_whole = 3
file_rank marks_whole = 4
file_rank few_slots = 5
file_rank numbers_left = 6

-- the files, for a board of at most so many slots, pass this test
abbrev pub PassesAsFiles : ℕ → Files → FileTest → Type 0
PassesAsFiles limit files long_enough = 1024 ≤ length (files Jhr)
PassesAsFiles limit files signed = take 4 (bytes_at 0 1024 (files Jhr)) ≡ signature
PassesAsFiles limit files based = 1 ≤ (fixed_in files).base
PassesAsFiles limit files index_whole = length (files Jdx) % 8 ≡ 0
PassesAsFiles limit files marks_whole = (length (files Jlr) % 16 ≡ 0) × (length (files Jlr) ≤ LASTREAD_CEILING)
PassesAsFiles limit files few_slots = slots_in files ≤ limit
PassesAsFiles limit files numbers_left = (fixed_in files).base + slots_in files ≤ 4294967295

-- a test of the header that an index record names
pub data SlotTest : Type 0 where
  header_placed : SlotTest
  header_signed : SlotTest
  header_revised : SlotTest
  subfields_placed : SlotTest
  subfields_whole : SlotTest
  text_placed : SlotTest

-- its place in their order
abbrev pub slot_rank : SlotTest → ℕ
slot_rank header_placed = 0
slot_rank header_signed = 1
slot_rank header_revised = 2
slot_rank subfields_placed = 3
slot_rank subfields_whole = 4
slot_rank text_placed = 5

-- the message is live
abbrev pub IsUndeleted : MessageHeader → Type 0
IsUndeleted header = bit_and header.attribute DELETED ≡ 0

-- the header at this place passes this test; of a killed one the first three alone are made
abbrev pub PassesAsHeader : Files → ℕ → SlotTest → Type 0
PassesAsHeader files at header_placed = IsWithin (length (files Jhr)) at 76
PassesAsHeader files at header_signed = take 4 (bytes_at at 76 (files Jhr)) ≡ signature
PassesAsHeader files at header_revised = number_at 2 4 (bytes_at at 76 (files Jhr)) ≡ 1
PassesAsHeader files at subfields_placed = IsUndeleted (header_in files at)
    → ((header_in files at).subfields ≤ MOST_SUBFIELD_BYTES) × IsWithin (length (files Jhr)) at (76 + (header_in files at).subfields)
PassesAsHeader files at subfields_whole = IsUndeleted (header_in files at)
    → (fields : List Subfield) × IsSubfieldList fields (subfields_in files at)
PassesAsHeader files at text_placed = IsUndeleted (header_in files at)
    → IsTextWithin (length (files Jdt)) (header_in files at).offset (header_in files at).text_len

-- the slot that this index record names passes this test; an empty one passes all of them, whatever its UserCRC is
abbrev pub PassesAsSlot : Files → IndexRecord → SlotTest → Type 0
PassesAsSlot files entry test = entry.offset ≢ EMPTY_SLOT → PassesAsHeader files entry.offset test

-- it passes all of them
abbrev pub IsWholeSlot : Files → IndexRecord → Type 0
IsWholeSlot files entry = (test : SlotTest) → PassesAsSlot files entry test

-- of the tests of this slot, this one is the first that fails
pub record IsFirstInSlot (files : Files) (entry : IndexRecord) (test : SlotTest) : Type 0 where
  pub earlier : (other : SlotTest) → slot_rank other < slot_rank test → PassesAsSlot files entry other
  pub fails : PassesAsSlot files entry test → ⊥
