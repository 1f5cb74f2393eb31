-- What the layers above a host go on with: nothing else of it has changed, over one call after another.
use Rattle.std.proofs.Common.{◌∙◌, refl}
use Rattle.jb_host.specs.Desk.{Desk, KeepsRest}

-- no call
pub keeps_none : (host : Desk) → KeepsRest host host
keeps_none host = record { settings = refl; console = refl; readings = refl; faults = refl; failed = refl; waiting = refl; doors = refl; bell = refl }

-- one call, and those behind it
pub keeps_more : (old mid new : Desk) → KeepsRest old mid → KeepsRest mid new → KeepsRest old new
keeps_more old mid new one more = record {
  settings = more.settings ∙ one.settings;
  console = more.console ∙ one.console;
  readings = more.readings ∙ one.readings;
  faults = more.faults ∙ one.faults;
  failed = more.failed ∙ one.failed;
  waiting = more.waiting ∙ one.waiting;
  doors = more.doors ∙ one.doors;
  bell = more.bell ∙ one.bell;
}

-- the same, of calls for doors
pub keeps_more_doors : (old mid new : Desk) → KeepsRest old (record mid { waiting = old.waiting; doors = old.doors })
    → KeepsRest mid (record new { waiting = mid.waiting; doors = mid.doors }) → KeepsRest old (record new { waiting = old.waiting; doors = old.doors })
keeps_more_doors old mid new one more = record {
  settings = more.settings ∙ one.settings;
  console = more.console ∙ one.console;
  readings = more.readings ∙ one.readings;
  faults = more.faults ∙ one.faults;
  failed = more.failed ∙ one.failed;
  waiting = refl;
  doors = refl;
  bell = more.bell ∙ one.bell;
}

-- the same, of calls that take disks back
pub keeps_more_back : (old mid new : Desk) → KeepsRest old (record mid { failed = old.failed }) → KeepsRest mid (record new { failed = mid.failed })
    → KeepsRest old (record new { failed = old.failed })
keeps_more_back old mid new one more = record {
  settings = more.settings ∙ one.settings;
  console = more.console ∙ one.console;
  readings = more.readings ∙ one.readings;
  faults = more.faults ∙ one.faults;
  failed = refl;
  waiting = more.waiting ∙ one.waiting;
  doors = more.doors ∙ one.doors;
  bell = more.bell ∙ one.bell;
}
