-- All areas of a board: opened and shared in order, refused at the first that is, and closed.
use Rattle.std.specs.Prelude.{◌≡◌, ℕ, ◌+◌, ◌<◌, ◌≤◌, All, AllPairs, Bool, false, ◌||◌, List, [], ◌∷◌, ◌++◌, length, slice_index_or, vec_capacity}
use Rattle.std.specs.List.{fold}
use Rattle.jb_limits.specs.declared.limits.TheConstants.{MOST_ADDRESS_BYTES, MOST_AREAS, MOST_SLOTS}
use Rattle.jb_conf.specs.declared.board.BoardArea.{BoardArea}
use Rattle.jb_disk.specs.Device.{Device}
use Rattle.jb_host.specs.Desk.{Desk, TakesBack}
use Rattle.jb_shared.specs.Areas.{IsOf, passes_of}
use Rattle.jb_shared.specs.Passes.{PassView, first_known}
use Rattle.jb_shared.specs.declared.opening.Opening.{Opening}
use Rattle.jb_run.specs.Desks.{HandsOut, PutsBack, places_of}
use Rattle.jb_run.specs.AreasErrors.{AsksNothing, RefusesArea}
use Rattle.jb_run.specs.Lives.{Ends, HasLive, KeepsArea, GoesOnFrom}
use Rattle.jb_run.specs.Rows.{HaveRoom, IsColumn, IsDealt, lists_of}
use Rattle.jb_run.specs.declared.areas_error.AreasError.{AreasError}
use Rattle.jb_run.specs.declared.opening.SharedAreas.{SharedAreas}

-- areas as the settings of a board say them: with places of their own
pub record AreOpenable (areas : List BoardArea) : Type 0 where
  pub few : length areas ≤ MOST_AREAS
  pub slots : All (λ area. area.rules.slots ≤ MOST_SLOTS) areas
  pub address : All (λ area. length area.rules.address ≤ MOST_ADDRESS_BYTES) areas
  pub places : AllPairs (λ one other. (one.dir ≡ other.dir) × (one.base ≡ other.base) → ⊥) areas

module _ {D : Type 0} where
  -- the passes of a node, of which the first is counted 0, in the order of the areas
  abbrev pub passes_at : SharedAreas D → ℕ → List PassView
  passes_at shared node = slice_index_or (lists_of shared.nodes.items) node []

  -- so many areas, each shared with so many nodes, which are numbered from 1 and have a pass of it each, and room to close each
  pub record AreShared (shared : SharedAreas D) (nodes count : ℕ) : Type 0 where
    pub areas : length shared.areas.items ≡ count
    pub lists : length shared.nodes.items ≡ nodes
    pub rooms : length shared.rooms.items ≡ count
    pub passes : (n : ℕ) → n < nodes → length (passes_at shared n) ≡ count
    pub each : (n k : ℕ) (area : _) (pass : PassView) → n < nodes → k < count
        → IsOf (slice_index_or shared.areas.items k area) (slice_index_or (passes_at shared n) k pass)
    pub numbers : (n k : ℕ) (pass : PassView) → n < nodes → k < count → (slice_index_or (passes_at shared n) k pass).known.node ≡ n + 1
    pub all : (k : ℕ) (area : _) → k < count → passes_of (slice_index_or shared.areas.items k area) ≡ nodes
    pub empty : (k : ℕ) (room : _) → k < count → (slice_index_or shared.rooms.items k room).items ≡ []
    pub fits : (k : ℕ) (room : _) → k < count → nodes ≤ vec_capacity (slice_index_or shared.rooms.items k room)

  -- room for so many areas, as many passes of each node, and as many counts
  pub record HasAreaRoom (shared : SharedAreas D) (count : ℕ) : Type 0 where
    pub areas : count ≤ vec_capacity shared.areas
    pub passes : HaveRoom count shared.nodes.items
    pub rooms : count ≤ vec_capacity shared.rooms
    pub counts : count ≤ vec_capacity shared.live

-- the areas go on from these openings over these disks, of which no node has seen more
pub record OpenAs (areas : List BoardArea) (befores : List Device) (openings : List Opening) (nodes : List (List PassView)) : Type 0 where
  pub count : length openings ≡ length areas
  pub opens : (k : ℕ) (area : BoardArea) (device : Device) (opening : Opening) → k < length areas
      → GoesOnFrom (slice_index_or areas k area).rules (slice_index_or befores k device) (slice_index_or openings k opening)
  pub fresh : (n k : ℕ) (pass : PassView) (opening : Opening) → n < length nodes → k < length areas
      → (slice_index_or (slice_index_or nodes n []) k pass).known ≡ first_known (n + 1) (slice_index_or openings k opening)

-- so many messages of each area were live as it was opened
pub record AreLive (openings : List Opening) (live : List ℕ) : Type 0 where
  pub count : length live ≡ length openings
  pub each : (k : ℕ) (opening : Opening) (one : ℕ) → k < length openings → HasLive (slice_index_or live k one) (slice_index_or openings k opening).loaded

-- all disks were handed out, and each area is open and shared with so many nodes
pub record OpensAll {D : Type 0} (areas : List BoardArea) (nodes : ℕ) (old new : Desk) (shared : SharedAreas D) : Type 0 where
  pub befores : List Device
  pub openings : List Opening
  pub out : HandsOut (places_of areas) befores old new
  pub start : OpenAs areas befores openings (lists_of shared.nodes.items)
  pub live : AreLive openings shared.live.items
  pub whole : AreShared shared nodes (length areas)

-- the last of the areas that are open is closed with its passes, and its disk is back
pub record ClosesLast {D : Type 0} (areas : List BoardArea) (more fewer : SharedAreas D) (old new : Desk) (is_doubtful : Bool) : Type 0 where
  pub after : Device
  pub row : List PassView
  pub count : length more.areas.items ≡ length fewer.areas.items + 1
  pub passes : IsDealt (lists_of fewer.nodes.items) row (lists_of more.nodes.items)
  pub back : (area : BoardArea)
      → TakesBack (slice_index_or areas (length fewer.areas.items) area).dir (slice_index_or areas (length fewer.areas.items) area).base after old new
  pub ends : Ends row is_doubtful after

-- the area at this place is closed with the pass that each node has of it
abbrev pub EndsAt : List (List PassView) → ℕ → Bool → Device → Type 0
EndsAt nodes place is_doubtful after = (row : List PassView) × IsColumn nodes place row × Ends row is_doubtful after

-- one of them is so
abbrev pub any : List Bool → Bool
any bits = fold (λ so_far bit. so_far || bit) false bits

-- all disks are put back, each as the history of its area has left it
pub record ClosesAll (areas : List BoardArea) (nodes : List (List PassView)) (old new : Desk) (is_doubtful : Bool) : Type 0 where
  pub afters : List Device
  pub doubts : List Bool
  pub back : PutsBack (places_of areas) afters old new
  pub count : length doubts ≡ length areas
  pub ends : (k : ℕ) (doubt : Bool) (after : Device) → k < length areas → EndsAt nodes k (slice_index_or doubts k doubt) (slice_index_or afters k after)
  pub doubt : is_doubtful ≡ any doubts

-- each area was opened and closed again: its disk is left as its files opened
abbrev pub KeepEach : List BoardArea → List Device → List Device → Type 0
KeepEach areas befores afters = (k : ℕ) (area : BoardArea) (before after : Device) → k < length areas
    → KeepsArea (slice_index_or areas k area).rules (slice_index_or befores k before) (slice_index_or afters k after)

-- all disks are put back, each left as its files opened over these disks
pub record Abandons (areas : List BoardArea) (befores : List Device) (old new : Desk) : Type 0 where
  pub afters : List Device
  pub back : PutsBack (places_of areas) afters old new
  pub kept : KeepEach areas befores afters

-- the next area is refused, or memory was wanting before
abbrev pub RefusesNext : ℕ → List BoardArea → Desk → Desk → AreasError → Type 0
RefusesNext place [] old new error = AsksNothing old new error
RefusesNext place (area ∷ areas) old new error = RefusesArea place area old new error

-- the first areas are open, and the next was refused
pub record StopsAt {D : Type 0} (areas : List BoardArea) (nodes : ℕ) (old new : Desk) (shared : SharedAreas D) (error : AreasError) : Type 0 where
  pub done : List BoardArea
  pub left : List BoardArea
  pub parts : areas ≡ done ++ left
  pub mid : Desk
  pub opens : OpensAll done nodes old mid shared
  pub refuses : RefusesNext (length done + 1) left mid new error

-- the areas are not opened: some were, the next was refused, and the disks of those are put back
pub record RefusesAll (areas : List BoardArea) (old new : Desk) (error : AreasError) : Type 0 where
  pub done : List BoardArea
  pub left : List BoardArea
  pub parts : areas ≡ done ++ left
  pub befores : List Device
  pub afters : List Device
  pub mid : Desk
  pub last : Desk
  pub out : HandsOut (places_of done) befores old mid
  pub refuses : RefusesNext (length done + 1) left mid last error
  pub back : PutsBack (places_of done) afters last new
  pub kept : KeepEach done befores afters
