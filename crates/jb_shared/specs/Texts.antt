-- What .JDT holds of a shared area after its history, and how often the area was packed; and that its texts go on while nobody packs.
use Rattle.std.specs.Prelude.{◌≡◌, ◌<◌, ℕ, ◌+◌, ◌++◌, true, false, List, [], ◌∷◌, Option, Some, None, flat_map, min, unwrap_or}
use mathlib.Core.List.{IsPrefix}
use Rattle.jb_area.specs.Area.{IsDoubtful, IsResting, packs_of, packs_to}
use Rattle.jb_area.specs.Commits.{last_count}
use Rattle.jb_area.specs.declared.area.OpenArea.{OpenArea}
use Rattle.jb_base.specs.declared.area.AreaRules.{AreaRules}
use Rattle.jb_decide.specs.Coming.{Coming}
use Rattle.jb_decide.specs.StepOf.{written_text}
use Rattle.jb_disk.specs.Device.{Device}
use Rattle.jb_model.specs.Answered.{Answered}
use Rattle.jb_model.specs.Standing.{Standing, Settled, InDoubt, after_entry}
use Rattle.jb_model.specs.Step.{step}
use Rattle.jb_model.specs.declared.command.Command.{Command}
use Rattle.jb_model.specs.declared.entry.Entry.{Entry}
use Rattle.jb_model.specs.declared.entry.Entry.TheVariants.{Called, Reopened}
use Rattle.jb_model.specs.declared.entry.Outcome.TheVariants.{Replied, InDoubt as LeftInDoubt, NotBegun}
use Rattle.jb_model.specs.declared.reply.Reply.{Reply}
use Rattle.jb_model.specs.declared.reply.Reply.TheVariants.{Edited, Packed, Posted}
use Rattle.jb_state.specs.State.{AreaState, SlotState, no_message, killed_message, live_message}
use Rattle.jb_turn.specs.Rows.{Begins}
use Rattle.jb_shared.specs.Histories.{first_state}
use Rattle.jb_shared.specs.declared.opening.Opening.{Opening}

-- the bytes of .JDT, and how often the area was packed since it was opened; the last number stands for all more
pub record TextFile : Type 0 where
  pub bytes : List ℕ
  pub packs : ℕ

-- the bytes that the text of a live message has there
abbrev pub slot_text : SlotState → List ℕ
slot_text no_message = []
slot_text killed_message = []
slot_text (live_message message) = message.text

-- what the file holds after a command that was answered so and left this state: a text that was written comes behind the others, a pack
-- leaves those of the live messages in the order of their numbers and is counted, and nothing else changes it
abbrev pub text_file_after : Command → Reply → AreaState → TextFile → TextFile
text_file_after command (Posted number) state file = record file { bytes = file.bytes ++ written_text command }
text_file_after command (Edited number) state file = record file { bytes = file.bytes ++ written_text command }
text_file_after command (Packed base live dropped) state file = record { bytes = flat_map slot_text state.slots; packs = min (file.packs + 1) last_count }
text_file_after command _ state file = file

-- the same, by an answer
abbrev pub file_answered : Command → Answered → TextFile → TextFile
file_answered command answered file = text_file_after command answered.reply answered.state file

-- what the file holds; and where a change is in doubt, what it holds if that stands
pub record TextFiles : Type 0 where
  pub now : TextFile
  pub coming : TextFile

-- no change is in doubt
abbrev pub settled_file : TextFile → TextFiles
settled_file file = record { now = file; coming = file }

-- what it holds after an entry that may come where the area stands so; another entry changes nothing
abbrev pub files_after_entry : AreaRules → Standing → Entry → TextFiles → TextFiles
files_after_entry rules (Settled state) (Called node call user moment command (Replied reply)) files =
    settled_file (file_answered command (step rules state user moment command) files.now)
files_after_entry rules (Settled state) (Called node call user moment command (LeftInDoubt faults)) files =
    record { now = files.now; coming = file_answered command (step rules state user moment command) files.now }
files_after_entry rules (Settled state) (Called node call user moment command (NotBegun faults)) files = files
files_after_entry rules (Settled state) (Reopened stands) files = files
files_after_entry rules (InDoubt before after) (Called node call user moment command outcome) files = files
files_after_entry rules (InDoubt before after) (Reopened false) files = settled_file files.now
files_after_entry rules (InDoubt before (Some after)) (Reopened true) files = settled_file files.coming
files_after_entry rules (InDoubt before None) (Reopened true) files = files

-- what it holds after these entries, where the area stood so and it held this before them
abbrev pub files_from : AreaRules → Standing → TextFiles → List Entry → TextFiles
files_from rules standing files [] = files
files_from rules standing files (entry ∷ rest) = files_from rules (after_entry rules standing entry) (files_after_entry rules standing entry files) rest

-- what it holds after the history, of an area whose disk tells its files
abbrev pub text_files_at : Opening → List Entry → TextFiles
text_files_at opening history =
    files_from opening.rules (Settled (first_state opening)) (settled_file (record { bytes = unwrap_or opening.texts []; packs = opening.packs })) history

-- the change that is in doubt, where there is one, comes to this file
abbrev pub IsTextFileOf : {D : Type 0} → OpenArea D → Option Coming → TextFile → Type 0
IsTextFileOf area None file = Unit {0}
IsTextFileOf area (Some coming) file = (coming.texts ≡ file.bytes) × (packs_to area ≡ file.packs)

-- of a disk that shows itself so, the area that stands so has these texts and this count of packs; one in doubt has those before the
-- change, and comes to those after it
abbrev pub HasTextFiles : {D : Type 0} → (D → Device) → OpenArea D → Standing → TextFiles → Type 0
HasTextFiles shown area (Settled state) files = IsResting shown area files.now.bytes × (packs_of area ≡ files.now.packs)
HasTextFiles shown area (InDoubt before after) files =
    (coming : Option Coming) × IsDoubtful shown area files.now.bytes coming × (packs_of area ≡ files.now.packs) × IsTextFileOf area coming files.coming

-- where no pack that stands lies between two histories of an area, the texts of the first one begin those of the second; the last
-- count tells nothing of that
abbrev pub TextsGoOn : Type 0
TextsGoOn = (opening : Opening) (first last : List Entry) → Begins first last
    → (text_files_at opening first).now.packs ≡ (text_files_at opening last).now.packs → (text_files_at opening first).now.packs < last_count
    → IsPrefix (text_files_at opening first).now.bytes (text_files_at opening last).now.bytes
