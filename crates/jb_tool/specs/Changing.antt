-- What a command of a tool makes of an open area.
use Rattle.std.specs.Prelude.{◌≡◌, ◌⊎◌, ℕ, List, Ok, Err, IfErr, IfOk, OnOk}
use Rattle.std.specs.Option.{ForSome}
use Rattle.jb_area.specs.Area.{IsResting}
use Rattle.jb_area.specs.Calls.{OnlyReadsOrCopies}
use Rattle.jb_area.specs.declared.area.OpenArea.{OpenArea}
use Rattle.jb_limits.specs.declared.limits.TheConstants.{MOST_SLOTS}
use Rattle.jb_decide.specs.declared.error.AreaError.{AreaError}
use Rattle.jb_decide.specs.declared.error.AreaError.TheVariants as failed
use Rattle.jb_disk.specs.Device.{CountsFaults, Device, OnlyReads}
use Rattle.jb_disk.specs.Runs.{IsAllSynced, LeavesOnly}
use Rattle.jb_image.specs.Stands.{StandsFor}
use Rattle.jb_image.specs.declared.error.OpenError.TheVariants as refused
use Rattle.jb_state.specs.State.{AreaState, state_of}
use Rattle.jb_model.specs.declared.command.Command.{Command}
use Rattle.jb_model.specs.declared.reply.Reply.{Reply}
use Rattle.jb_model.specs.declared.reply.Reply.TheVariants as reply
use Rattle.jb_area_open.specs.declared.error.OpeningError.{OpeningError}
use Rattle.jb_area_open.specs.declared.error.OpeningError.TheVariants as opening
use Rattle.jb_tool.specs.Recovered.{is_tool_fault}
use Rattle.jb_tool.specs.Tending.{ToolAnswer, OpensForEither, tool_answered, tool_answer}
use Rattle.jb_tool.specs.declared.error.ToolError.{ToolError}
use Rattle.jb_tool.specs.declared.error.ToolError.TheVariants.{BadJournal, Open, TextFull}

-- a failed call of an area, as the refusal of a tool
abbrev pub of_area : AreaError → ToolError
of_area failed.StoreFault = Open refused.StoreFault
of_area failed.OutOfMemory = Open refused.OutOfMemory

-- a base that is not opened, as the refusal of a tool
abbrev pub of_opening : OpeningError → ToolError
of_opening (opening.BadJournal at) = BadJournal at
of_opening (opening.Base error) = Open error

-- why no line is printed of a reply: its texts are too long, or there was no memory for the line
abbrev pub HasNoLine : Reply → ToolError → Type 0
HasNoLine said error = (error ≡ Open refused.OutOfMemory) ⊎ ((length : ℕ) × (error ≡ TextFull length) × (said ≡ reply.TextFull length))

-- of a disk that shows itself so
module _ {D : Type 0} (shown : D → Device) where
  -- this of the area at rest, where the disk tells what it holds
  abbrev pub WhereAreaTold : OpenArea D → (AreaState → Type 0) → Type 0
  WhereAreaTold area claim = ForSome (shown area.disk).contents (λ files. (texts : List ℕ) → IsResting shown area texts → claim (state_of texts area.held))

  -- nothing was written but copies of texts, of a pack, and all is synced as it was
  pub record LeavesSynced (command : Command) (old new : OpenArea D) : Type 0 where
    pub reads : OnlyReadsOrCopies command (shown old.disk) (shown new.disk)
    pub synced : (texts : List ℕ) → IsResting shown old texts → IsAllSynced (shown new.disk)

  -- why the command was not done: a fault, or want of memory, or texts that are too long, and after these nothing was written, but for the copies of a pack that wants memory
  abbrev pub IsStoppedBy : Command → OpenArea D → OpenArea D → ToolError → Type 0
  IsStoppedBy command old new error =
      (error ≡ Open refused.StoreFault)
      ⊎ (((error ≡ Open refused.OutOfMemory) × LeavesSynced command old new)
      ⊎ ((length : ℕ) × (error ≡ TextFull length) × OnlyReads (shown old.disk) (shown new.disk)
      × WhereAreaTold old (λ area. tool_answer (tool_answered command area).reply ≡ Err (TextFull length))))

  -- the command was done, and this is its line; or it was not
  pub record DoesCommand (command : Command) (old new : OpenArea D) (result : ToolAnswer) : Type 0 where
    pub answered : IfOk result (λ text. WhereAreaTold old (λ area. tool_answer (tool_answered command area).reply ≡ Ok text))
    pub now : OnOk result (WhereAreaTold old (λ area. ForSome (shown new.disk).contents (λ files. StandsFor MOST_SLOTS files (tool_answered command area).state)))
    pub synced : OnOk result (IsAllSynced (shown new.disk))
    pub failed : IfErr result (IsStoppedBy command old new)
    pub crash : WhereAreaTold old (λ area. LeavesOnly (shown old.disk) (shown new.disk) (OpensForEither command area))
    pub faults : CountsFaults is_tool_fault (shown old.disk) (shown new.disk) result
