-- What the call of a tool answers, and what it makes of the files of a base.
use Rattle.std.specs.Prelude.{ℕ, List, Some, Ok, Err}
use Rattle.std.specs.Option.{ForSome}
use Rattle.jb_limits.specs.declared.limits.TheConstants.{MOST_SLOTS}
use Rattle.jb_disk.specs.Device.{CountsFaults, Device}
use Rattle.jb_disk.specs.Files.{Files}
use Rattle.jb_image.specs.Stands.{StandsFor}
use Rattle.jb_journal.specs.Recover.{IsFound}
use Rattle.jb_journal.specs.declared.error.Recovered.{Recovered}
use Rattle.jb_state.specs.State.{AreaState}
use Rattle.jb_model.specs.declared.command.Command.TheVariants as command
use Rattle.jb_tool.specs.Making.{AnswersMake, KeepsOrMakes}
use Rattle.jb_tool.specs.Outcome.{tool_outcome}
use Rattle.jb_tool.specs.Recovered.{IsRecoveredTo, KeepsReplay, RefusesReading, is_tool_fault}
use Rattle.jb_tool.specs.Tending.{ToolAnswer, KeepsOrTends, Tends}
use Rattle.jb_tool.specs.declared.tool.Tool.{Tool}
use Rattle.jb_tool.specs.declared.tool.Tool.TheVariants as tool

-- the files stand for an area of which a tool that looks prints this, at whatever moment, once recovery has found this
pub record IsShown (shown : Tool) (found : Recovered) (text : List ℕ) (files : Files) : Type 0 where
  pub area : AreaState
  pub stands : StandsFor MOST_SLOTS files area
  pub outcome : (moment : ℕ) → tool_outcome shown moment found (Some area) text area

-- a tool that looks: it prints what recovery has found and what the files stand for, which are those to which the base replayed; or they are refused
abbrev pub LooksAt : Tool → Device → Device → ToolAnswer → Type 0
LooksAt shown before after (Ok text) = ForSome before.contents (λ was. (found : Recovered) × IsFound found was × IsRecoveredTo (IsShown shown found text) was after)
LooksAt shown before after (Err error) = RefusesReading before after error

-- what a tool answers at a moment over the disk of the base, before it and after it
abbrev pub SaysAs : Tool → ℕ → Device → Device → ToolAnswer → Type 0
SaysAs tool.List moment before after answer = LooksAt tool.List before after answer
SaysAs tool.Check moment before after answer = LooksAt tool.Check before after answer
SaysAs tool.Make moment before after answer = AnswersMake moment before after answer
SaysAs tool.Relink moment before after answer = Tends command.Relink before after answer
SaysAs tool.Pack moment before after answer = Tends command.Pack before after answer

-- and what it does to the count of faults
pub record AnswersTool (tool : Tool) (moment : ℕ) (before after : Device) (answer : ToolAnswer) : Type 0 where
  pub says : SaysAs tool moment before after answer
  pub faults : CountsFaults is_tool_fault before after answer

-- what a crash at any moment of it leaves
abbrev pub KeepsUnderTool : Tool → ℕ → Device → Device → Type 0
KeepsUnderTool tool.List moment before after = KeepsReplay before after
KeepsUnderTool tool.Check moment before after = KeepsReplay before after
KeepsUnderTool tool.Make moment before after = KeepsOrMakes moment before after
KeepsUnderTool tool.Relink moment before after = KeepsOrTends command.Relink before after
KeepsUnderTool tool.Pack moment before after = KeepsOrTends command.Pack before after
