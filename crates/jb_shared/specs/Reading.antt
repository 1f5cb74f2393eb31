-- What a turn leaves that only reads the area.
use Rattle.std.specs.Prelude.{◌≤◌}
use Rattle.jb_area.specs.Area.{device_of}
use Rattle.jb_area.specs.Backups.{IsSameButDisk}
use Rattle.jb_area.specs.declared.area.OpenArea.{OpenArea}
use Rattle.jb_disk.specs.Device.{Device, OnlyReads}

-- of a disk that shows itself so, the area is as it was but for its disk, and that was only read; it may have failed meanwhile
pub record WasRead {D : Type 0} (shown : D → Device) (old new : OpenArea D) : Type 0 where
  pub same : IsSameButDisk old new
  pub reads : OnlyReads (device_of shown old) (device_of shown new)
  pub later : (device_of shown old).faults ≤ (device_of shown new).faults
