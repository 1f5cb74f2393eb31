-- What each run does over the areas that the settings say: they are opened in order, used, and closed, and their disks put back.
use Rattle.std.specs.Prelude.{◌≡◌, ℕ, ◌<◌, ◌≤◌, true, Bool, List, ◌∷◌, ◌++◌, length, slice_index_or, Some, Ok}
use Rattle.std.specs.Option.{ForSome, option_map}
use Rattle.jb_bytes.specs.Fault.{Rose}
use Rattle.jb_conf.specs.Settings.{ReadsSettings}
use Rattle.jb_conf.specs.declared.board.Board.{Board}
use Rattle.jb_conf.specs.declared.board.BoardArea.{BoardArea}
use Rattle.jb_disk.specs.Device.{Device}
use Rattle.jb_host.specs.Desk.{Desk, HostCall, asked_settings}
use Rattle.jb_shared.specs.Passes.{PassView}
use Rattle.jb_shared.specs.declared.opening.Opening.{Opening}
use Rattle.jb_run.specs.All.{OpenAs, any}
use Rattle.jb_run.specs.Desks.{BasePlace, Stand, asked_for, places_of, with_each}
use Rattle.jb_run.specs.Lives.{Ends}
use Rattle.jb_run.specs.Rows.{IsColumn}
use Rattle.jb_run.specs.Workers.{Rows}

-- the disk of one of these areas has failed meanwhile
abbrev pub OneFailed : List BoardArea → List Device → List Device → Type 0
OneFailed areas befores afters =
    (k : ℕ) × (k < length areas) × ((before after : Device) → Rose (slice_index_or befores k before).faults (slice_index_or afters k after).faults)

-- there are as many devices, before and after, and answers as areas
pub record AreAsMany (areas : List BoardArea) (befores afters : List Device) (doubts : List Bool) : Type 0 where
  pub were : length befores ≡ length areas
  pub are : length afters ≡ length areas
  pub told : length doubts ≡ length areas

-- the area at this place goes on from this opening and is closed with the pass that each has of it: there is one history, of which each
-- knows its part, and the disk is left as it says
pub record EndsFrom (rows : Rows) (place : ℕ) (opening : Opening) (is_doubtful : Bool) (after : Device) : Type 0 where
  pub passes : List PassView
  pub column : IsColumn rows place passes
  pub ends : Ends passes is_doubtful after
  pub from : ends.opening ≡ opening

-- each area is closed so
abbrev pub EndAll : List Opening → Rows → List Bool → List Device → Type 0
EndAll openings rows doubts afters = (k : ℕ) (opening : Opening) (doubt : Bool) (after : Device) → k < length openings
    → EndsFrom rows k (slice_index_or openings k opening) (slice_index_or doubts k doubt) (slice_index_or afters k after)

-- a run over the areas of the board that the settings say: it asks for this behind them, and the passes are these, as it begins and as
-- it ends, and so the disks that come back; those at these other places come back so
pub record OverAreas (path : List ℕ) (board : Board) (asked : List HostCall) (from to : Rows) (afters : List Device) (others : List BasePlace) (left : List Device) (is_doubtful : Bool) (old new : Desk) : Type 0 where
  -- the settings are read first
  pub bytes : List ℕ
  pub was : ForSome old.settings (λ pages. pages path ≡ Some bytes)
  pub reads : ReadsSettings bytes (Ok board)
  -- then the areas are opened, in order; no other call of the host comes behind
  pub calls : new.calls ≡ option_map (λ earlier. earlier ++ asked_settings path ∷ asked_for (places_of board.areas) ++ asked) old.calls
  pub befores : List Device
  pub were : ForSome old.disks (Stand (places_of board.areas) befores)
  pub openings : List Opening
  pub opens : OpenAs board.areas befores openings from
  -- each is closed with all that its nodes know, from its opening on, and its disk put back; no other disk has changed but those at these places
  pub disks : ForSome old.disks (λ disks. new.disks ≡ Some (with_each others left (with_each (places_of board.areas) afters disks)))
  pub doubts : List Bool
  pub ends : EndAll openings to doubts afters
  pub count : AreAsMany board.areas befores afters doubts
  -- one is in doubt only where its disk has failed, which the host then counts
  pub doubt : is_doubtful ≡ any doubts
  pub cause : is_doubtful ≡ true → OneFailed board.areas befores afters
  pub failing : is_doubtful ≡ true → Rose old.failed new.failed
  pub no_fewer : old.failed ≤ new.failed
