-- That what the pager of a node has sent and taken is what was asked in the sessions of its callers, and that what came of each target of a
-- packer is what its one backup answered.
use Rattle.std.specs.Prelude.{◌≡◌, ◌⊎◌, ℕ, ◌+◌, ◌<◌, ◌≤◌, List, [], ◌∷◌, ◌++◌, length, slice_index_or, Contains, None, Some, Result}
use Rattle.jb_backup.specs.declared.error.BackupError.{BackupError}
use Rattle.jb_base.specs.declared.user.User.{User}
use Rattle.jb_conf.specs.declared.board.Board.{Board}
use Rattle.jb_disk.specs.Device.{Device}
use Rattle.jb_host.specs.Wire.{Wire}
use Rattle.jb_page.specs.Pagers.{PagerView}
use Rattle.jb_session.specs.Exchanges.{Exchange, NodeState}
use Rattle.jb_session.specs.Pages.{TellsPages}
use Rattle.jb_session.specs.declared.end.SessionEnd.{SessionEnd}
use Rattle.jb_shared.specs.Backups.{BacksUp}
use Rattle.jb_shared.specs.Passes.{Known, PassView}
use Rattle.jb_shared.specs.declared.backed.Backed.{Backed}
use Rattle.jb_turn.specs.Rows.{Begins}
use Rattle.jb_server.specs.Packers.{PackerState}
use Rattle.jb_server.specs.Rounds.{Rung, RungsRun, ring_numbers}
use Rattle.jb_server.specs.Sessions.{ServedAs, Session, SessionsRun}
use Rattle.jb_server.specs.declared.service.Service.{Service}
use Rattle.jb_server.specs.declared.service.Service.TheVariants.{Menus, News}

-- what was asked in a session, and answered
abbrev pub asked_in : (service : Service) (board : Board) (given : Wire) (from : NodeState) (end : SessionEnd) (back : Wire) (to : NodeState)
    → ServedAs service board given from end back to → List Exchange
asked_in Menus board given from end back to served = served.exchanges
asked_in News board given from end back to served = served.exchanges

-- and in sessions, one after another
abbrev pub exchanges_of : (service : Service) (board : Board) (from : NodeState) (sessions : List Session) (to : NodeState)
    → SessionsRun (ServedAs service board) from sessions to → List Exchange
exchanges_of service board from [] to run = []
exchanges_of service board from (session ∷ sessions) to run =
    asked_in service board session.given from session.end session.back run.0 run.1 ++ exchanges_of service board run.0 sessions to run.2

-- through the sessions of a node its pager tells just the pages that were sent and taken in them
abbrev pub PagesAreOfSessions : Type 0
PagesAreOfSessions = (service : Service) (board : Board) (from : NodeState) (sessions : List Session) (to : NodeState) (pager : PagerView)
    → (run : SessionsRun (ServedAs service board) from sessions to) → from.pager ≡ Some pager → 0 < pager.number → pager.number ≤ length pager.rows
    → (after : PagerView) × (to.pager ≡ Some after) × TellsPages (exchanges_of service board from sessions to run) pager after

-- no ring came for the area at this place: its target is as it was, and no backup was tried
pub record IsNotBackedUp (k : ℕ) (rungs : List Rung) (from to : PackerState) : Type 0 where
  pub unrung : Contains (ring_numbers rungs) (k + 1) → ⊥
  pub target : slice_index_or to.targets k None ≡ slice_index_or from.targets k None
  pub backup : slice_index_or to.backups k None ≡ None

-- a ring came for it: it was backed up onto its target once, on its pass, and that is how the target was left and what came of it
pub record IsBackedUp (k : ℕ) (first : Device) (rungs : List Rung) (from to : PackerState) : Type 0 where
  pub rung : Contains (ring_numbers rungs) (k + 1)
  pub before : Known
  pub after : Known
  pub left : Device
  pub result : Result Backed BackupError
  pub opening : (pass : PassView) → before.opening ≡ (slice_index_or from.node.passes k pass).known.opening
  pub begins : (pass : PassView) → Begins (slice_index_or from.node.passes k pass).known.front before.front
  pub backs : BacksUp before after first left result
  pub ends : (pass : PassView) → Begins after.front (slice_index_or to.node.passes k pass).known.front
  pub target : slice_index_or to.targets k None ≡ Some left
  pub backup : slice_index_or to.backups k None ≡ Some result

-- of the rings of a packer, and the area at a place, onto whose target no backup was tried before: that happened once where a ring came for it
abbrev pub BackupsAreOfRings : Type 0
BackupsAreOfRings = (user : User) (rungs : List Rung) (from to : PackerState) (k : ℕ) (first : Device) → RungsRun user from rungs to
    → length from.backups ≡ length from.targets → k < length from.node.passes
    → slice_index_or from.targets k None ≡ Some first → slice_index_or from.backups k None ≡ None
    → IsNotBackedUp k rungs from to ⊎ IsBackedUp k first rungs from to
