-- What a tool that tends the area answers, and what it makes of the files of a base.
use Rattle.std.specs.Prelude.{◌≡◌, ◌⊎◌, ℕ, List, [], ◌∷◌, ◌++◌, Result, Ok, Err, codes}
use Rattle.std.specs.Option.{ForSome}
use Rattle.jb_area.specs.Calls.{OnlyReadsOrCopies}
use Rattle.jb_area_open.specs.Opening.{IsRecovered, OpensAsAtStart, Refuses}
use Rattle.jb_area_open.specs.declared.error.OpeningError.TheVariants.{BadJournal as bad_journal, Base}
use Rattle.jb_base.specs.declared.area.AreaRules.{AreaRules}
use Rattle.jb_base.specs.declared.area.Kind.TheVariants.{Local}
use Rattle.jb_limits.specs.declared.limits.TheConstants.{MOST_SLOTS}
use Rattle.jb_base.specs.declared.user.User.{User}
use Rattle.jb_disk.specs.Device.{Device}
use Rattle.jb_disk.specs.Files.{Files}
use Rattle.jb_disk.specs.Gate.{IsGateOpen}
use Rattle.jb_disk.specs.Runs.{IsAllSynced, LeavesOnly}
use Rattle.jb_image.specs.Stands.{StandsFor}
use Rattle.jb_image.specs.declared.error.OpenError.{OpenError}
use Rattle.jb_image.specs.declared.error.OpenError.TheVariants.{OutOfMemory as no_memory}
use Rattle.jb_journal.specs.Recover.{IsGrowthSafe}
use Rattle.jb_model.specs.Answered.{Answered}
use Rattle.jb_state.specs.State.{AreaState}
use Rattle.jb_model.specs.Step.{step}
use Rattle.jb_model.specs.declared.command.Command.{Command}
use Rattle.jb_model.specs.declared.reply.Reply.{Reply}
use Rattle.jb_model.specs.declared.reply.Reply.TheVariants as reply
use Rattle.jb_redo.specs.Reading.{HasRecord}
use Rattle.jb_redo.specs.Replay.{Replays}
use Rattle.jb_text.specs.Replies.{reply_text}
use Rattle.jb_tool.specs.declared.error.ToolError.{ToolError}
use Rattle.jb_tool.specs.declared.error.ToolError.TheVariants.{BadJournal, Open, AlreadyThere, TextFull, NotEmpty}

-- what a tool answers: the text to print, or why it is refused
abbrev pub ToolAnswer : Type 0
ToolAnswer = Result (List ℕ) ToolError

-- the user as whom a tool tends an area
abbrev pub tool_user : User
tool_user = record { name = codes "Tool"; id = 0; level = 255 }

-- the rules under which it does: that user is the sysop, and the area may have as many slots as any
abbrev pub tool_rules : AreaRules
tool_rules = record { ordinal = 1; address = codes "1:1/1"; kind = Local; read = 0; post = 0; sysop = 255; slots = MOST_SLOTS }

-- what that user's command is answered, and the area then; no command of a tool looks at the moment
abbrev pub tool_answered : Command → AreaState → Answered
tool_answered command area = step tool_rules area tool_user 0 command

-- a reply, as what the tool answers: its line, or that the texts are too long
abbrev pub tool_answer : Reply → ToolAnswer
tool_answer (reply.TextFull length) = Err (TextFull length)
tool_answer answered = Ok (reply_text answered ++ 10 ∷ [])

-- what the tool of a command answers of an area, and the area that it leaves: after a refusal the one that was there
abbrev pub tended : Command → AreaState → ToolAnswer → AreaState → Type 0
tended command area (Ok text) after = (tool_answer (tool_answered command area).reply ≡ Ok text) × (after ≡ (tool_answered command area).state)
tended command area (Err error) after = (tool_answer (tool_answered command area).reply ≡ Err error) × (after ≡ area)

-- what the files replay to stands for this area
pub record OpensFor (area : AreaState) (files : Files) : Type 0 where
  pub after : Files
  pub replays : Replays files after
  pub stands : StandsFor MOST_SLOTS after area

-- files that open to this area, or to the one that the command makes of it
abbrev pub OpensForEither : Command → AreaState → Files → Type 0
OpensForEither command area files = OpensFor area files ⊎ OpensFor (tool_answered command area).state files

-- the disk as the opening left it: recovered, with files that stand for this area; from then on a crash at any moment leaves files that open to it, or to the one that the command makes of it
pub record IsOpenedTo (command : Command) (area : AreaState) (was : Files) (opening after : Device) : Type 0 where
  pub recovered : IsRecovered was opening
  pub stands : ForSome opening.contents (λ files. StandsFor MOST_SLOTS files area)
  pub since : LeavesOnly opening after (OpensForEither command area)

-- the command was answered: of the area for which the files stood once they were opened, to which the base opened at the start where the record behind an open gate writes each byte past an old end; and the files, synced, stand for the area that it leaves
pub record IsTended (command : Command) (answer : ToolAnswer) (was : Files) (after : Device) : Type 0 where
  pub old : AreaState
  pub new : AreaState
  pub outcome : tended command old answer new
  pub record_found : IsGateOpen was → HasRecord was
  pub opening : Device
  pub opened_to : IsOpenedTo command old was opening after
  pub opened : IsGrowthSafe was → OpensFor old was
  pub now : ForSome after.contents (λ files. StandsFor MOST_SLOTS files new)
  pub synced : IsAllSynced after

-- the base was recovered, and after that nothing was written but copies of texts, of a pack, which are synced
pub record IsLeftRecovered (command : Command) (was : Files) (after : Device) : Type 0 where
  pub opening : Device
  pub recovered : IsRecovered was opening
  pub reads : OnlyReadsOrCopies command opening after
  pub synced : IsAllSynced after

-- the area is not tended: there was no memory, and nothing was done; or the base is not opened, or not changed after that, for this; or there was no memory once it was opened
abbrev pub IsNotTended : Command → Device → Device → OpenError → Type 0
IsNotTended command before after error =
    ((error ≡ no_memory) × (after ≡ before))
    ⊎ (Refuses MOST_SLOTS before after (Base error) ⊎ ((error ≡ no_memory) × ForSome before.contents (λ was. IsLeftRecovered command was after)))

-- a tool that has this command done
abbrev pub Tends : Command → Device → Device → ToolAnswer → Type 0
Tends command before after (Ok text) = ForSome before.contents (λ was. IsTended command (Ok text) was after)
Tends command before after (Err (TextFull length)) = ForSome before.contents (λ was. IsTended command (Err (TextFull length)) was after)
Tends command before after (Err (BadJournal at)) = Refuses MOST_SLOTS before after (bad_journal at)
Tends command before after (Err (Open error)) = IsNotTended command before after error
Tends command before after (Err AlreadyThere) = ⊥
Tends command before after (Err (NotEmpty file)) = ⊥

-- the base opened to an area, and these files open to it or to the one that the command makes of it
pub record IsOldOrNew (command : Command) (was files : Files) : Type 0 where
  pub old : AreaState
  pub before : OpensFor old was
  pub now : OpensFor old files ⊎ OpensFor (tool_answered command old).state files

-- a crash at any moment leaves files that open to just what some open to that it might have left at the start, or to one of these two areas
abbrev pub KeepsOrTends : Command → Device → Device → Type 0
KeepsOrTends command before after = ForSome before.contents (λ was. IsGrowthSafe was
    → LeavesOnly before after (λ files. OpensAsAtStart before.moments files ⊎ IsOldOrNew command was files))
