-- What the opening of a base answers, and why.
use Rattle.std.specs.Prelude.{◌≡◌, ◌⊎◌, ℕ, ◌+◌, ◌<◌, ◌≤◌, length, Result, Ok, Err, Bool, true, false}
use Rattle.jb_bytes.specs.Subfields.{IsCutAt}
use Rattle.jb_disk.specs.Files.{Files}
use Rattle.jb_state.specs.declared.loaded.Loaded.{Loaded}
use Rattle.jb_record.specs.declared.index.IndexRecord.{IndexRecord}
use Rattle.jb_image.specs.declared.error.OpenError.{OpenError}
use Rattle.jb_image.specs.declared.error.OpenError.TheVariants as refused
use Rattle.jb_image.specs.declared.error.Damage.{Damage}
use Rattle.jb_image.specs.declared.error.Damage.TheVariants.{HeaderPlace, HeaderSignature, HeaderRevision, Subfields, TextPlace}
use Rattle.jb_image.specs.declared.error.ReadError.{ReadError}
use Rattle.jb_image.specs.declared.error.ReadError.TheVariants.{StoreFault as FaultInPart, OutOfMemory as NoMemoryForPart}
use Rattle.jb_image.specs.Extents.{IsFirstOverlap}
use Rattle.jb_image.specs.Overlaps.{extents_in}
use Rattle.jb_image.specs.declared.overlapping.Overlap.{Overlap}
use Rattle.jb_image.specs.Places.{fixed_in, entry_in, subfields_in}
use Rattle.jb_image.specs.Stands.{Loads}
use Rattle.jb_image.specs.Tests.{FileTest, long_enough, signed, based, index_whole, marks_whole, few_slots, numbers_left, file_rank, PassesAsFiles, header_placed, header_signed, header_revised, subfields_placed, subfields_whole, text_placed, IsFirstInSlot, IsWholeSlot, slots_in}

-- of all tests, this one of the files is the first that fails
pub record FailsAsFiles (limit : ℕ) (files : Files) (test : FileTest) : Type 0 where
  pub earlier : (other : FileTest) → file_rank other < file_rank test → PassesAsFiles limit files other
  pub fails : PassesAsFiles limit files test → ⊥

-- the files as a whole pass all of their tests
abbrev pub AreWhole : ℕ → Files → Type 0
AreWhole limit files = (test : FileTest) → PassesAsFiles limit files test

-- the first test that this slot fails is the one by which it is damaged so
abbrev pub IsDamaged : Files → IndexRecord → Damage → Type 0
IsDamaged files entry HeaderPlace = IsFirstInSlot files entry header_placed ⊎ IsFirstInSlot files entry subfields_placed
IsDamaged files entry HeaderSignature = IsFirstInSlot files entry header_signed
IsDamaged files entry HeaderRevision = IsFirstInSlot files entry header_revised
IsDamaged files entry (Subfields at) = IsFirstInSlot files entry subfields_whole × IsCutAt (subfields_in files entry.offset) at
IsDamaged files entry TextPlace = IsFirstInSlot files entry text_placed

-- the slot with this number is the first that is damaged
pub record IsFirstDamaged (files : Files) (number : ℕ) (damage : Damage) : Type 0 where
  pub slot : ℕ
  pub numbered : number ≡ (fixed_in files).base + slot
  pub inside : slot < slots_in files
  pub lower : (k : ℕ) → k < slot → IsWholeSlot files (entry_in files k)
  pub damaged : IsDamaged files (entry_in files slot) damage

-- all tests are passed but that a slot is damaged
abbrev pub FailsAsSlot : ℕ → Files → ℕ → Damage → Type 0
FailsAsSlot limit files number damage = AreWhole limit files × IsFirstDamaged files number damage

-- all slots are whole, and the headers of these two numbers are the first that overlap
pub record AreFirstOverlap (files : Files) (a b : ℕ) : Type 0 where
  pub whole : (k : ℕ) → k < slots_in files → IsWholeSlot files (entry_in files k)
  pub overlap : Overlap
  pub one_is : a ≡ (fixed_in files).base + overlap.one
  pub other_is : b ≡ (fixed_in files).base + overlap.other
  pub first : IsFirstOverlap (extents_in files) overlap

-- why a base of at most so many slots is not opened
abbrev pub IsRefusedBy : ℕ → Files → OpenError → Type 0
IsRefusedBy limit files refused.ShortHeader = FailsAsFiles limit files long_enough
IsRefusedBy limit files refused.BadSignature = FailsAsFiles limit files signed
IsRefusedBy limit files refused.BaseZero = FailsAsFiles limit files based
IsRefusedBy limit files refused.IndexLength = FailsAsFiles limit files index_whole
IsRefusedBy limit files refused.LastreadLength = FailsAsFiles limit files marks_whole
IsRefusedBy limit files refused.TooManySlots = FailsAsFiles limit files few_slots
IsRefusedBy limit files refused.NumberRange = FailsAsFiles limit files numbers_left
IsRefusedBy limit files (refused.HeaderPlace number) = FailsAsSlot limit files number HeaderPlace
IsRefusedBy limit files (refused.HeaderSignature number) = FailsAsSlot limit files number HeaderSignature
IsRefusedBy limit files (refused.HeaderRevision number) = FailsAsSlot limit files number HeaderRevision
IsRefusedBy limit files (refused.Subfields number at) = FailsAsSlot limit files number (Subfields at)
IsRefusedBy limit files (refused.TextPlace number) = FailsAsSlot limit files number TextPlace
IsRefusedBy limit files (refused.HeadersOverlap a b) = AreWhole limit files × AreFirstOverlap files a b
IsRefusedBy limit files refused.StoreFault = Unit {0}
IsRefusedBy limit files refused.OutOfMemory = Unit {0}

-- the files hold this area, and it has at most so many slots
pub record OpensTo (limit : ℕ) (files : Files) (loaded : Loaded) : Type 0 where
  pub loads : Loads loaded files
  pub few_slots : length loaded.slots ≤ limit

-- what an answer says of the files; each but a fault and want of memory excludes the others
abbrev pub AnswersFor : ℕ → Files → Result Loaded OpenError → Type 0
AnswersFor limit files (Ok loaded) = OpensTo limit files loaded
AnswersFor limit files (Err error) = IsRefusedBy limit files error

-- a part that is not read, as a base that is not opened
abbrev pub unopened : ReadError → OpenError
unopened FaultInPart = refused.StoreFault
unopened NoMemoryForPart = refused.OutOfMemory

-- a damaged slot of this number, as a base that is not opened
abbrev pub refusal_of : ℕ → Damage → OpenError
refusal_of number HeaderPlace = refused.HeaderPlace number
refusal_of number HeaderSignature = refused.HeaderSignature number
refusal_of number HeaderRevision = refused.HeaderRevision number
refusal_of number (Subfields at) = refused.Subfields number at
refusal_of number TextPlace = refused.TextPlace number

-- which refusals are faults of the disk
abbrev pub is_read_fault : ReadError → Bool
is_read_fault FaultInPart = true
is_read_fault NoMemoryForPart = false

-- the same of a base that is not opened
abbrev pub is_open_fault : OpenError → Bool
is_open_fault refused.StoreFault = true
is_open_fault _ = false
