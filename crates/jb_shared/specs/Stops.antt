-- To what the files of a shared area open after a stop of the machine.
use Rattle.std.specs.Prelude.{◌≡◌, ℕ, Bool, List, [], ◌∷◌, ◌++◌, length, Option, Some, None}
use Rattle.jb_area.specs.Holds.{Opens}
use Rattle.jb_disk.specs.Device.{Device}
use Rattle.jb_disk.specs.Files.{Files}
use Rattle.jb_disk.specs.Runs.{LeavesOnly}
use Rattle.jb_model.specs.Standing.{Settled}
use Rattle.jb_state.specs.State.{state_of}
use Rattle.jb_model.specs.declared.entry.Entry.{Entry}
use Rattle.jb_model.specs.declared.entry.Entry.TheVariants.{Reopened}
use Rattle.jb_state.specs.declared.loaded.Loaded.{Loaded}
use Rattle.jb_turn.specs.Rows.{Begins}
use Rattle.jb_shared.specs.Histories.{IsHistory, leads_to}
use Rattle.jb_shared.specs.declared.opening.Opening.{Opening}

-- a history as it is, or once its doubt has ended so
abbrev pub ended : List Entry → Option Bool → List Entry
ended history None = history
ended history (Some stands) = history ++ Reopened stands ∷ []

-- as they are opened, these files hold the area after this history, which is legal
pub record OpensAfter (opening : Opening) (history : List Entry) (files : Files) : Type 0 where
  pub legal : IsHistory opening history
  pub loaded : Loaded
  pub texts : List ℕ
  pub opens : Opens loaded texts files
  pub leads : leads_to opening history ≡ Settled (state_of texts loaded)

-- they hold the area after this history; where that is in doubt, once the doubt has ended one way or the other
abbrev pub OpensAtLast : Opening → List Entry → Files → Type 0
OpensAtLast opening history files = (end : Option Bool) × OpensAfter opening (ended history end) files

-- they hold the area after a history that begins with the first one and begins the second one
pub record OpensBetween (opening : Opening) (first last : List Entry) (files : Files) : Type 0 where
  pub part : List Entry
  pub from : Begins first part
  pub within : Begins part last
  pub opens : OpensAtLast opening part files

-- they hold the area after this history, once its doubt has ended where it has one, and that begins with these entries
pub record OpensBehind (opening : Opening) (entries history : List Entry) (files : Files) : Type 0 where
  pub end : Option Bool
  pub begins : Begins entries (ended history end)
  pub opens : OpensAfter opening (ended history end) files

-- since the sharing the disk has come by this part of the history, and never went back behind it: up to one moment a crash left what opens
-- to the area after a beginning of the part, and from then on what opens to it after a beginning of the history that begins with the part
pub record ComesBy (opening : Opening) (part history : List Entry) (device : Device) : Type 0 where
  pub shared : Device
  pub counted : length shared.moments ≡ opening.moments
  pub middle : Device
  pub before : LeavesOnly shared middle (OpensBetween opening [] part)
  pub behind : LeavesOnly middle device (OpensBetween opening part history)
