-- What the reading and the applying of a record answer, and why.
use Rattle.std.specs.Prelude.{Bool, true, false, Result, Ok, Err}
use Rattle.jb_redo.specs.declared.head.RecordHead.{RecordHead}
use Rattle.jb_disk.specs.Files.{Files}
use Rattle.jb_redo.specs.declared.error.RecordError.{RecordError}
use Rattle.jb_redo.specs.declared.error.RecordError.TheVariants.{Bad, StoreFault}
use Rattle.jb_redo.specs.Reading.{HasRecordOf, IsBadAt}

-- a refusal says of the files that they hold no record, and where
abbrev pub RefusesFor : Files → RecordError → Type 0
RefusesFor files (Bad at) = IsBadAt files at
RefusesFor files StoreFault = Unit {0}

-- the answer to whether there is a record, and with which head; a fault says nothing of the files
abbrev pub AnswersRecord : Files → Result RecordHead RecordError → Type 0
AnswersRecord files (Ok head) = HasRecordOf head files
AnswersRecord files (Err error) = RefusesFor files error

-- a fault of the disk, and no record that is bad
abbrev pub is_record_fault : RecordError → Bool
is_record_fault (Bad at) = false
is_record_fault StoreFault = true
