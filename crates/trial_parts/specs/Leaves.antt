-- What a call leaves of an open area.
use Rattle.std.specs.Prelude.{Result, Ok, Err}
use Rattle.jb_area.specs.Area.{HasBegun, HasDoubt}
use Rattle.jb_area.specs.Calls.{HasRest}
use Rattle.jb_area.specs.declared.area.OpenArea.{OpenArea}
use Rattle.jb_decide.specs.declared.error.AreaError.{AreaError}
use Rattle.jb_decide.specs.declared.error.AreaError.TheVariants.{StoreFault, OutOfMemory}
use Rattle.jb_disk.specs.Device.{Device}
use Rattle.jb_journal.specs.declared.stopped.Stopped.{Stopped}
use Rattle.jb_model.specs.declared.reply.Reply.{Reply}

module _ {D : Type 0} (shown : D → Device) where
  -- a call that was not done leaves an area in doubt behind a fault, and at rest without memory
  abbrev pub LeavesFailed : OpenArea D → AreaError → Type 0
  LeavesFailed area StoreFault = HasDoubt shown area
  LeavesFailed area OutOfMemory = HasRest shown area

  -- one that was done leaves an area at rest
  abbrev pub LeavesAtRest : {A : Type 0} → OpenArea D → Result A AreaError → Type 0
  LeavesAtRest area (Ok done) = HasRest shown area
  LeavesAtRest area (Err error) = LeavesFailed area error

  -- one that was begun leaves an area with the call begun
  abbrev pub LeavesBegun : OpenArea D → Result (Unit {0}) AreaError → Type 0
  LeavesBegun area (Ok _) = HasBegun shown area
  LeavesBegun area (Err error) = LeavesFailed area error

  -- one that is finished leaves an area at rest behind a reply, and else in doubt
  abbrev pub LeavesEnded : OpenArea D → Result Reply Stopped → Type 0
  LeavesEnded area (Ok reply) = HasRest shown area
  LeavesEnded area (Err stopped) = HasDoubt shown area
