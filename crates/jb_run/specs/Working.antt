-- What the workers of a run do, on areas that are open.
use Rattle.std.specs.Prelude.{◌≡◌, ℕ, ◌+◌, ◌-◌, ◌<◌, All, Bool, List, [], length, map, slice_index_or, Option}
use Rattle.jb_run.specs.All.{Abandons, ClosesAll, OpenAs, any}
use Rattle.jb_conf.specs.declared.board.Board.{Board}
use Rattle.jb_disk.specs.Device.{Device}
use Rattle.jb_host.specs.Desk.{Desk, GivesBell, TakesBell}
use Rattle.jb_host.specs.Gate.{Gate}
use Rattle.jb_host.specs.Rings.{Rings}
use Rattle.jb_host.specs.declared.host.HostError.{HostError}
use Rattle.jb_page.specs.Pagers.{PagerView}
use Rattle.jb_server.specs.Packers.{PackerState}
use Rattle.jb_server.specs.Rounds.{PackerWorks}
use Rattle.jb_server.specs.Sessions.{ServedAs, Works}
use Rattle.jb_server.specs.Tallies.{no_tally}
use Rattle.jb_server.specs.declared.tally.Tally.{Tally}
use Rattle.jb_session.specs.Exchanges.{AreOf, node_with}
use Rattle.jb_shared.specs.Passes.{PassView}
use Rattle.jb_shared.specs.declared.opening.Opening.{Opening}
use Rattle.jb_shared.specs.declared.shared.SharedArea.{SharedArea}
use Rattle.jb_run.specs.Desks.{HandsOut, PutsBack}
use Rattle.jb_run.specs.Lines.{HandsDoors, Line, PutsDoors, lines_for, nodes_of}
use Rattle.jb_run.specs.NodePages.{HasPaged, pager_of}
use Rattle.jb_run.specs.Backed.{Targets, none_of, packer_at}
use Rattle.jb_run.specs.Targets.{StopsAsking, targets_for}
use Rattle.jb_run.specs.Workers.{Rows, packer}
use Rattle.jb_run.specs.declared.nodes_end.NodesEnd.{NodesEnd}

-- each has a pass of each area, in order
abbrev pub AreAllOf : {D : Type 0} → List (SharedArea D) → Rows → Type 0
AreAllOf areas rows = (n : ℕ) → n < length rows → AreOf areas (slice_index_or rows n [])

-- the passes that a line is on
abbrev pub row_of : Rows → Line → List PassView
row_of rows line = slice_index_or rows (line.node - 1) []

-- the packer as it begins, on the passes behind those of the nodes, with these targets, of which none was used yet
abbrev pub packer_before : Option (List ℕ) → Board → Rows → Targets → PackerState
packer_before readings board from targets = packer_at readings (slice_index_or from board.nodes []) targets.first (none_of targets.first)

-- and as it ends
abbrev pub packer_after : Option (List ℕ) → Board → Rows → Targets → PackerState
packer_after readings board to targets = packer_at readings (slice_index_or to board.nodes []) targets.left targets.backups

-- the workers of these lines and the packer have worked, from these passes, pagers, doors and this bell to those, each with a clock of its own
-- that began with these readings, the packer with these targets
pub record WorkAll (readings : Option (List ℕ)) (board : Board) (lines : List Line) (gates gates_after : List Gate) (rings rings_after : Rings) (from to : Rows) (pagers pagers_after : List PagerView) (targets : Targets) (tallies : List Tally) : Type 0 where
  pub doors : length gates ≡ length lines
  pub doors_after : length gates_after ≡ length lines
  pub counts : length tallies ≡ length lines
  pub started : length from ≡ length lines + 1
  pub ended : length to ≡ length lines + 1
  -- on each line one caller after another was served as it says, on the links of its door, until that was shut or failed
  pub served : (k : ℕ) (line : Line) (gate gate_after : Gate) (tally : Tally) → k < length lines
      → (left : Option (List ℕ)) × Works (ServedAs (slice_index_or lines k line).service board)
      (slice_index_or gates k gate) (node_with readings (row_of from (slice_index_or lines k line)) (pager_of pagers (slice_index_or lines k line))) no_tally
      (slice_index_or gates_after k gate_after) (node_with left (row_of to (slice_index_or lines k line)) (pager_of pagers_after (slice_index_or lines k line))) (slice_index_or tallies k tally)
  -- the packer has packed at each ring and backed each area up once, until its bell was shut
  pub packs : ℕ
  pub left : Option (List ℕ)
  pub packed : PackerWorks packer rings (packer_before readings board from targets) 0 rings_after (packer_after left board to targets) packs
  pub kept : length targets.left ≡ length targets.first

-- they have worked, each node with a pager of its own, and the packer with these targets; their doors and the bell are put back, and the pages
-- closed
pub record WorkToTheEnd (readings : Option (List ℕ)) (board : Board) (lines : List Line) (gates : List Gate) (rings : Rings) (from to : Rows) (targets : Targets) (old new : Desk) (door_failed : Bool) : Type 0 where
  pub gates_after : List Gate
  pub rings_after : Rings
  pub tallies : List Tally
  pub pagers : List PagerView
  pub pagers_after : List PagerView
  pub paged : HasPaged board.nodes pagers pagers_after
  pub works : WorkAll readings board lines gates gates_after rings rings_after from to pagers pagers_after targets tallies
  pub mid : Desk
  pub bell : TakesBell rings_after old mid
  pub doors : PutsDoors (nodes_of lines) gates_after mid new
  pub failed : door_failed ≡ any (map (λ tally. tally.door_failed) tallies)

-- a run on areas that are open, with these passes: targets, doors and the bell are handed out, all work, and everything is closed and put back
pub record RunsOn (door_for : Option ℕ → Gate → Type 0) (bell_over : ℕ → ℕ → Option ℕ → Rings → Type 0) (board : Board) (most : Option ℕ) (backup : Option (List ℕ)) (from : Rows) (old new : Desk) (end : NodesEnd) : Type 0 where
  pub targets : Targets
  pub targeted : Desk
  pub out : HandsOut (targets_for backup board.areas) targets.first old targeted
  pub gates : List Gate
  pub lined : Desk
  pub doors : HandsDoors (lines_for board most) gates targeted lined
  pub made : All (door_for most) gates
  pub rings : Rings
  pub rung : Desk
  pub bell : GivesBell (length board.areas) board.pack_minutes most rings lined rung
  pub rounds : bell_over (length board.areas) board.pack_minutes most rings
  pub to : Rows
  pub worked : Desk
  pub works : WorkToTheEnd old.readings board (lines_for board most) gates rings from to targets rung worked end.door_failed
  pub closed : Desk
  pub closes : ClosesAll board.areas to worked closed end.is_doubtful
  pub back : PutsBack (targets_for backup board.areas) targets.left closed new

-- a target, a door or the bell was refused; the doors that were handed out are put back, the areas closed as they were opened, and the targets put back
pub record GivesUp (board : Board) (most : Option ℕ) (backup : Option (List ℕ)) (from : Rows) (old new : Desk) (error : HostError) : Type 0 where
  pub targets : List Device
  pub gates : List Gate
  pub asked : Desk
  pub stops : StopsAsking board most backup targets gates error old asked
  pub shut : Desk
  pub doors : PutsDoors (nodes_of stops.done) gates asked shut
  pub closed : Desk
  pub abandons : (befores : List Device) (openings : List Opening) → OpenAs board.areas befores openings from → Abandons board.areas befores shut closed
  pub back : PutsBack stops.placed targets closed new
