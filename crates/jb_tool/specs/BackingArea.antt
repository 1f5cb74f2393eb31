-- What becomes of an open area that is backed up, and of the disk that it is copied onto.
use Rattle.std.specs.Prelude.{◌≡◌, ◌⊎◌, ℕ, List, OnOk, IfOk, IfErr}
use Rattle.std.specs.Option.{ForSome}
use Rattle.jb_area.specs.Backups.{IsBackup, OpensToState, capped_state}
use Rattle.jb_area.specs.declared.area.OpenArea.{OpenArea}
use Rattle.jb_backup.specs.Begin.{BeginsAs}
use Rattle.jb_backup.specs.Target.{AreEmpty}
use Rattle.jb_disk.specs.Device.{Device, OnlyReads}
use Rattle.jb_disk.specs.Runs.{Shows}
use Rattle.jb_image.specs.declared.error.OpenError.TheVariants.{OutOfMemory as no_memory, StoreFault}
use Rattle.jb_state.specs.Live.{live_count}
use Rattle.jb_state.specs.State.{state_of}
use Rattle.jb_tool.specs.Backing.{CountsInOne, IsFoundFull, backed_line}
use Rattle.jb_tool.specs.Changing.{WhereAreaTold}
use Rattle.jb_tool.specs.Tending.{ToolAnswer}
use Rattle.jb_tool.specs.declared.error.ToolError.{ToolError}
use Rattle.jb_tool.specs.declared.error.ToolError.TheVariants.{AlreadyThere, BadJournal, NotEmpty, Open, TextFull}

-- why an open area is not backed up: there was no memory, and the target was not asked; a fault; or a file of the target that is not empty
abbrev pub MayRefuse : Device → Device → ToolError → Type 0
MayRefuse target target_now (Open error) = ((error ≡ no_memory) × (target_now ≡ target)) ⊎ (error ≡ StoreFault)
MayRefuse target target_now (NotEmpty file) = IsFoundFull file target target_now
MayRefuse target target_now (BadJournal at) = ⊥
MayRefuse target target_now AlreadyThere = ⊥
MayRefuse target target_now (TextFull length) = ⊥

-- of a disk that shows itself so
module _ {D : Type 0} (shown : D → Device) where
  -- the area was copied onto an empty target, which opens to it then; or not, and the target is as begun or as before
  pub record CopiesArea (old new : OpenArea D) (target target_now : Device) (result : ToolAnswer) : Type 0 where
    pub reads : OnlyReads (shown old.disk) (shown new.disk)
    pub line : IfOk result (λ text. (texts : List ℕ) → text ≡ backed_line (live_count (state_of texts old.held).slots))
    pub empty : OnOk result (ForSome target.contents AreEmpty)
    pub opens : OnOk result (WhereAreaTold shown old (λ state. Shows (OpensToState (capped_state state)) target_now))
    pub failed : IfErr result (MayRefuse target target_now)
    pub crash : WhereAreaTold shown old (λ state. BeginsAs (IsBackup state) target target_now)
    pub faults : CountsInOne (shown old.disk) (shown new.disk) target target_now result
