-- The workers of a run: made ready as their doors are handed out, and taken apart when they are done.
use Rattle.std.specs.Prelude.{◌≡◌, ◌≢◌, ℕ, ◌+◌, ◌-◌, ◌<◌, ◌≤◌, All, AllPairs, Bool, false, List, [], ◌∷◌, ◌++◌, codes, length, map, option_to_list, reverse, set, Option, Some, None}
use Rattle.std.specs.List.{AllZip, flat_map}
use Rattle.std.specs.Option.{option_map}
use Rattle.jb_base.specs.declared.user.User.{User}
use Rattle.jb_conf.specs.declared.board.Board.{Board}
use Rattle.jb_host.specs.Desk.{Desk, GivesBell, GivesDoor, TakesBell, TakesDoor}
use Rattle.jb_host.specs.Gate.{Gate}
use Rattle.jb_host.specs.Real.{silent_gate}
use Rattle.jb_host.specs.Rings.{Rings}
use Rattle.jb_host.specs.declared.host.HostError.{HostError}
use Rattle.jb_page.specs.Pagers.{PagerView}
use Rattle.jb_server.specs.Backups.{HasTargets}
use Rattle.jb_server.specs.Tallies.{no_tally}
use Rattle.jb_server.specs.declared.tally.Tally.{Tally}
use Rattle.jb_server.specs.declared.service.Service.TheVariants as service
use Rattle.jb_server.specs.declared.worker.NodeSlot.{NodeSlot}
use Rattle.jb_server.specs.declared.worker.PackSlot.{PackSlot}
use Rattle.jb_server.specs.declared.worker.Worker.{Worker}
use Rattle.jb_server.specs.declared.worker.Worker.TheVariants.{News, Node, Packer}
use Rattle.jb_shared.specs.Passes.{PassView}
use Rattle.jb_run.specs.Lines.{HandsDoors, Line, StopsLines, lines_for}

-- the user as whom areas are packed
abbrev pub packer : User
packer = record { name = codes "Packer"; id = 0; level = 255 }

-- the passes of a run: of each node from 1 on, behind them of the packer, and then of news where it is served, one of each area in order
abbrev pub Rows : Type 0
Rows = List (List PassView)

-- the number of a pager, where there is one
abbrev pub pager_number : Option PagerView → Option ℕ
pager_number pager = option_map (λ one. one.number) pager

module _ {R B C E : Type 0} where
  -- its passes
  abbrev pub worker_passes : Worker R B C E → List PassView
  worker_passes (Node slot) = slot.passes.items
  worker_passes (Packer slot) = slot.passes.items
  worker_passes (News slot) = slot.passes.items

  -- and their number, from 1
  abbrev pub number_of : Worker R B C E → ℕ
  number_of (Node slot) = slot.node
  number_of (Packer slot) = slot.node
  number_of (News slot) = slot.node

  -- the numbers of theirs
  abbrev pub numbers_of : List (Worker R B C E) → List ℕ
  numbers_of workers = map number_of workers

  -- its pager, where it has one
  abbrev pub worker_pager : Worker R B C E → Option PagerView
  worker_pager (Node slot) = slot.pager
  worker_pager (Packer slot) = None
  worker_pager (News slot) = slot.pager

  -- the pagers of theirs, in order
  abbrev pub pagers_of : List (Worker R B C E) → List PagerView
  pagers_of workers = flat_map (λ worker. option_to_list (worker_pager worker)) workers

  -- what it has counted; a packer counts no callers
  abbrev pub tally_of : Worker R B C E → Tally
  tally_of (Node slot) = slot.tally
  tally_of (Packer slot) = no_tally
  tally_of (News slot) = slot.tally

  -- what each has counted
  abbrev pub tallies_of : List (Worker R B C E) → List Tally
  tallies_of workers = map tally_of workers

  -- the passes of all, with those of these workers at their places
  abbrev pub with_passes : List (Worker R B C E) → Rows → Rows
  with_passes [] rows = rows
  with_passes (worker ∷ workers) rows = set (with_passes workers rows) (number_of worker - 1) (worker_passes worker)

  -- these pagers, and those of these workers behind them, the last worker's first
  abbrev pub with_pagers : List (Worker R B C E) → List PagerView → List PagerView
  with_pagers workers pagers = pagers ++ reverse (pagers_of workers)

  -- the passes of each are its own, among so many
  pub record HaveOwn (count : ℕ) (workers : List (Worker R B C E)) : Type 0 where
    pub within : All (λ worker. (0 < number_of worker) × (number_of worker ≤ count)) workers
    pub apart : AllPairs (λ one other. number_of one ≢ number_of other) workers

  -- it has a door
  abbrev pub HasDoor : Worker R B C E → Type 0
  HasDoor (Packer slot) = ⊥
  HasDoor _ = Unit {0}

  -- it serves the callers of the line, those of a node with the pager of its number
  abbrev pub HasLine : Line → Worker R B C E → Type 0
  HasLine line (Node slot) = (line.service ≡ service.Menus) × (slot.node ≡ line.node) × (pager_number slot.pager ≡ Some line.node)
  HasLine line (Packer slot) = ⊥
  HasLine line (News slot) = (line.service ≡ service.News) × (slot.node ≡ line.node) × (pager_number slot.pager ≡ None)

-- of doors that show themselves so
module _ {R B C E : Type 0} (gate : R → Gate) where
  -- its door; a packer has none
  abbrev pub gate_of : Worker R B C E → Gate
  gate_of (Node slot) = gate slot.door
  gate_of (Packer slot) = silent_gate 0 false None
  gate_of (News slot) = gate slot.door

  -- the door of each
  abbrev pub gates_of : List (Worker R B C E) → List Gate
  gates_of workers = map gate_of workers

-- of clocks that tell their readings so, where a clock of the host tells these: it has one, and has counted nothing yet
pub record IsFreshSlot {R C : Type 0} (readings : C → Option (List ℕ)) (told : Option (List ℕ)) (slot : NodeSlot R C) : Type 0 where
  pub clock : readings slot.clock ≡ told
  pub none : slot.tally ≡ no_tally

module _ {R B C E : Type 0} (readings : C → Option (List ℕ)) (told : Option (List ℕ)) where
  -- who is ready is one with a door
  abbrev pub IsFresh : Worker R B C E → Type 0
  IsFresh (Node slot) = IsFreshSlot readings told slot
  IsFresh (Packer slot) = ⊥
  IsFresh (News slot) = IsFreshSlot readings told slot

-- the packer is ready: on the passes behind those of the nodes, with a clock of the host, as the user who packs, with its targets, and has packed
-- and backed up nothing yet
pub record PackerIsReady {B C E : Type 0} (readings : C → Option (List ℕ)) (told : Option (List ℕ)) (board : Board) (slot : PackSlot B C E) : Type 0 where
  pub number : slot.node ≡ board.nodes + 1
  pub clock : readings slot.clock ≡ told
  pub user : slot.user ≡ packer
  pub none : slot.packs ≡ 0
  pub targets : HasTargets slot.targets.items slot.backups.items
  pub untried : slot.backups.items ≡ map (λ _. None) slot.targets.items

-- of doors and clocks that show themselves so, where what a door for so many calls is as it is handed out is this: one was, for these passes
-- and at this port, and who serves there is ready
pub record OpensLine {R C : Type 0} (gate : R → Gate) (readings : C → Option (List ℕ)) (door_for : Option ℕ → Gate → Type 0) (most : Option ℕ) (node port : ℕ) (slot : NodeSlot R C) (old new : Desk) : Type 0 where
  pub number : slot.node ≡ node
  pub ready : IsFreshSlot readings old.readings slot
  pub gives : GivesDoor node port most (gate slot.door) old new
  pub made : door_for most (gate slot.door)

module _ {R B C E : Type 0} (gate : R → Gate) (readings : C → Option (List ℕ)) (door_for : Option ℕ → Gate → Type 0) (most : Option ℕ) where
  -- the doors of these lines were handed out, and those who serve there are ready
  pub record HasWorkers (lines : List Line) (workers : List (Worker R B C E)) (old new : Desk) : Type 0 where
    pub each : AllZip HasLine lines workers
    pub doors : HandsDoors lines (gates_of gate workers) old new
    pub made : All (door_for most) (gates_of gate workers)
    pub ready : All (IsFresh readings old.readings) workers

  -- all lines are open, and the bell was handed out, which is what one over so many areas is then
  pub record OpensLines (board : Board) (bell_over : ℕ → ℕ → Option ℕ → Rings → Type 0) (rings : Rings) (workers : List (Worker R B C E)) (old new : Desk) : Type 0 where
    pub mid : Desk
    pub has : HasWorkers (lines_for board most) workers old mid
    pub gives : GivesBell (length board.areas) board.pack_minutes most rings mid new
    pub rounds : bell_over (length board.areas) board.pack_minutes most rings

-- the doors of the first lines were handed out to these workers, and the next door or the bell was refused
pub record StopsAt {R B C E : Type 0} (gate : R → Gate) (board : Board) (most : Option ℕ) (workers : List (Worker R B C E)) (error : HostError) (old new : Desk) : Type 0 where
  pub stops : StopsLines board most (gates_of gate workers) error old new
  pub each : AllZip HasLine stops.done workers

-- the last of these workers is taken apart, and its door put back
pub record PartsLast {R B C E : Type 0} (gate : R → Gate) (more fewer : List (Worker R B C E)) (old new : Desk) (has_failed : Bool) : Type 0 where
  pub worker : Worker R B C E
  pub is : more ≡ fewer ++ worker ∷ []
  pub back : TakesDoor (number_of worker) (gate_of gate worker) old new
  pub failed : has_failed ≡ (tally_of worker).door_failed

-- the last of these workers is the packer
pub record EndsWithPacker {R B C E : Type 0} (workers : List (Worker R B C E)) : Type 0 where
  pub front : List (Worker R B C E)
  pub slot : PackSlot B C E
  pub is : workers ≡ front ++ Packer slot ∷ []

-- it is taken apart, the bell put back, and these are its targets
pub record PartsPacker {R B C E : Type 0} (rings : B → Rings) (more fewer : List (Worker R B C E)) (targets : List (Option E)) (old new : Desk) : Type 0 where
  pub slot : PackSlot B C E
  pub is : more ≡ fewer ++ Packer slot ∷ []
  pub back : TakesBell (rings slot.bell) old new
  pub left : targets ≡ slot.targets.items
