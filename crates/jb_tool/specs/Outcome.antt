-- What each tool prints, and the area that it leaves.
use Rattle.std.specs.Prelude.{◌≡◌, ℕ, List, [], Ok, Option, Some, None}
use Rattle.jb_change.specs.NewBase.{new_area}
use Rattle.jb_journal.specs.declared.error.Recovered.{Recovered}
use Rattle.jb_state.specs.State.{AreaState}
use Rattle.jb_model.specs.declared.command.Command.TheVariants as command
use Rattle.jb_tool.specs.Check.{IsCheck}
use Rattle.jb_tool.specs.Listing.{listing_of}
use Rattle.jb_tool.specs.Tending.{tended}
use Rattle.jb_tool.specs.declared.tool.Tool.{Tool}
use Rattle.jb_tool.specs.declared.tool.Tool.TheVariants as tool

-- what a tool prints at a moment of the area to which a base opens, once recovery has found this, and the area that it leaves; where the files are empty there is none
abbrev pub tool_outcome : Tool → ℕ → Recovered → Option AreaState → List ℕ → AreaState → Type 0
tool_outcome tool.List moment found (Some area) text after = (text ≡ listing_of area) × (after ≡ area)
tool_outcome tool.Check moment found (Some area) text after = IsCheck area found text × (after ≡ area)
tool_outcome tool.Make moment found (Some area) text after = ⊥
tool_outcome tool.Relink moment found (Some area) text after = tended command.Relink area (Ok text) after
tool_outcome tool.Pack moment found (Some area) text after = tended command.Pack area (Ok text) after
tool_outcome tool.Make moment found None text after = (text ≡ []) × (after ≡ new_area moment)
tool_outcome _ moment found None text after = ⊥
