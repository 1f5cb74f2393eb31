-- What of a host stays where its counts, or its console, may be others.
use Rattle.std.proofs.Common.{◌≡◌, ℕ, Option, refl, ap, ◌∙◌}
use Rattle.jb_host.specs.Desk.{Desk, KeepsRest}
use Rattle.jb_host.specs.Wire.{Wire}

-- what keeps all but its disks and its calls, whatever its counts are, keeps all but its counts too
pub but_counts : (old new : Desk) (faults failed : ℕ) → KeepsRest old (record new { faults = faults; failed = failed })
    → KeepsRest old (record new { faults = old.faults; failed = old.failed })
but_counts old new faults failed rest = record {
  settings = rest.settings;
  console = rest.console;
  readings = rest.readings;
  faults = refl;
  failed = refl;
  waiting = rest.waiting;
  doors = rest.doors;
  bell = rest.bell;
}

-- and all but its counts and its doors
pub but_doors : (old new : Desk) → KeepsRest old (record new { faults = old.faults; failed = old.failed })
    → KeepsRest old (record new { faults = old.faults; failed = old.failed; waiting = old.waiting; doors = old.doors })
but_doors old new rest = record {
  settings = rest.settings;
  console = rest.console;
  readings = rest.readings;
  faults = refl;
  failed = refl;
  waiting = refl;
  doors = refl;
  bell = rest.bell;
}

-- one call after another, of which each may have counted
pub keeps_more_counts : (old mid new : Desk) → KeepsRest old (record mid { faults = old.faults; failed = old.failed })
    → KeepsRest mid (record new { faults = mid.faults; failed = mid.failed }) → KeepsRest old (record new { faults = old.faults; failed = old.failed })
keeps_more_counts old mid new one more = record {
  settings = more.settings ∙ one.settings;
  console = more.console ∙ one.console;
  readings = more.readings ∙ one.readings;
  faults = refl;
  failed = refl;
  waiting = more.waiting ∙ one.waiting;
  doors = more.doors ∙ one.doors;
  bell = more.bell ∙ one.bell;
}

-- calls before and behind a use of the console
pub keeps_around : (old opened served new : Desk) (console : Option Wire) → KeepsRest old opened → served ≡ record opened { console = console }
    → KeepsRest served (record new { failed = served.failed }) → KeepsRest old (record new { console = old.console; failed = old.failed })
keeps_around old opened served new console before used after = record {
  settings = after.settings ∙ ap (λ (d : Desk). d.settings) used ∙ before.settings;
  console = refl;
  readings = after.readings ∙ ap (λ (d : Desk). d.readings) used ∙ before.readings;
  faults = after.faults ∙ ap (λ (d : Desk). d.faults) used ∙ before.faults;
  failed = refl;
  waiting = after.waiting ∙ ap (λ (d : Desk). d.waiting) used ∙ before.waiting;
  doors = after.doors ∙ ap (λ (d : Desk). d.doors) used ∙ before.doors;
  bell = after.bell ∙ ap (λ (d : Desk). d.bell) used ∙ before.bell;
}
