-- The workers of a server.
use Rattle.std.specs.Prelude.{◌≡◌, ℕ, ◌≤◌, List, length, Option, Some, None}
use Rattle.jb_limits.specs.declared.limits.TheConstants.{MOST_NAME_BYTES}
use Rattle.jb_conf.specs.declared.board.Board.{Board}
use Rattle.jb_disk.specs.Device.{Device}
use Rattle.jb_host.specs.Gate.{Gate}
use Rattle.jb_host.specs.Rings.{Rings}
use Rattle.jb_page.specs.Pagers.{HasPager, PagerView, PagesView}
use Rattle.jb_session.specs.Exchanges.{AreOf, node_with}
use Rattle.jb_shared.specs.declared.shared.SharedArea.{SharedArea}
use Rattle.jb_server.specs.Backups.{HasTargets}
use Rattle.jb_server.specs.Packers.{PackerState, packer_with}
use Rattle.jb_server.specs.Rounds.{PackerWorks}
use Rattle.jb_server.specs.Sessions.{ServedAs, Works, reach_of}
use Rattle.jb_server.specs.declared.service.Service.{Service}
use Rattle.jb_server.specs.declared.service.Service.TheVariants as service
use Rattle.jb_server.specs.declared.worker.NodeSlot.{NodeSlot}
use Rattle.jb_server.specs.declared.worker.PackSlot.{PackSlot}
use Rattle.jb_server.specs.declared.worker.Worker.{Worker}
use Rattle.jb_server.specs.declared.worker.Worker.TheVariants.{News, Node, Packer}

module _ {D R B C E : Type 0} (areas : List (SharedArea D)) (pages : PagesView) (board : Board) where
  -- a worker has a pass of each area, in order, and one that serves callers so a pager of these pages; a packer has a name that an area
  -- takes, and its targets
  abbrev pub IsAtWork : Worker R B C E → Type 0
  IsAtWork (Node slot) = AreOf areas slot.passes.items × HasPager pages (reach_of service.Menus board) slot.pager
  IsAtWork (News slot) = AreOf areas slot.passes.items × HasPager pages (reach_of service.News board) slot.pager
  IsAtWork (Packer slot) =
      AreOf areas slot.passes.items × (length slot.user.name ≤ MOST_NAME_BYTES) × HasTargets slot.targets.items slot.backups.items

-- the pager keeps its number and its queues, and what it did stands at as many; where there was none there is none
abbrev pub KeepsPager : Option PagerView → Option PagerView → Type 0
KeepsPager (Some old) (Some new) = (new.number ≡ old.number) × (new.queues ≡ old.queues) × (length new.rows ≡ length old.rows)
KeepsPager None None = Unit {0}
KeepsPager _ _ = ⊥

-- of doors and clocks that show themselves so
module _ {R C : Type 0} (gate : R → Gate) (readings : C → Option (List ℕ)) (board : Board) where
  -- one with a door has served its callers so, until that was shut or failed
  pub record HasServed (service : Service) (old new : NodeSlot R C) : Type 0 where
    pub node : new.node ≡ old.node
    pub pager : KeepsPager old.pager new.pager
    pub works : Works (ServedAs service board) (gate old.door) (node_with (readings old.clock) old.passes.items old.pager) old.tally
        (gate new.door) (node_with (readings new.clock) new.passes.items new.pager) new.tally

-- of clocks and disks that show themselves so, a packer as contracts see it
abbrev pub packer_of : {B C E : Type 0} → (C → Option (List ℕ)) → (E → Device) → PackSlot B C E → PackerState
packer_of readings device slot = packer_with device (readings slot.clock) slot.passes.items slot.targets.items slot.backups.items

-- of bells, clocks and disks that show themselves so
module _ {B C E : Type 0} (rings : B → Rings) (readings : C → Option (List ℕ)) (device : E → Device) where
  -- a packer has packed and backed up until its bell was shut
  pub record PackerHasWorked (old new : PackSlot B C E) : Type 0 where
    pub node : new.node ≡ old.node
    pub user : new.user ≡ old.user
    pub count : length new.targets.items ≡ length old.targets.items
    pub works : PackerWorks old.user (rings old.bell) (packer_of readings device old) old.packs
        (rings new.bell) (packer_of readings device new) new.packs

-- of doors, bells, clocks and disks that show themselves so
module _ {R B C E : Type 0} (gate : R → Gate) (rings : B → Rings) (readings : C → Option (List ℕ)) (device : E → Device) (board : Board) where
  -- a worker has done its work
  abbrev pub HasWorked : Worker R B C E → Worker R B C E → Type 0
  HasWorked (Node old) (Node new) = HasServed gate readings board service.Menus old new
  HasWorked (News old) (News new) = HasServed gate readings board service.News old new
  HasWorked (Packer old) (Packer new) = PackerHasWorked rings readings device old new
  HasWorked _ _ = ⊥
