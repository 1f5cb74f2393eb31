-- What closing a shared area shows.
use Rattle.std.specs.Prelude.{◌≡◌, ℕ, ◌<◌, ◌≤◌, List, [], map, Some}
use Rattle.jb_area.specs.declared.area.OpenArea.{OpenArea}
use Rattle.jb_disk.specs.Device.{Device}
use Rattle.jb_model.specs.History.{calls_of}
use Rattle.jb_model.specs.declared.entry.Entry.{Entry}
use Rattle.jb_turn.specs.Rows.{Begins, Has}
use Rattle.jb_shared.specs.Histories.{settled_of}
use Rattle.jb_shared.specs.Passes.{Known, PassView}
use Rattle.jb_shared.specs.Standing.{StandsForHistory}
use Rattle.jb_shared.specs.declared.error.CloseError.{CloseError}
use Rattle.jb_shared.specs.declared.error.CloseError.TheVariants.{PassMissing}
use Rattle.jb_shared.specs.declared.opening.Opening.{Opening}

-- what the passes know
abbrev pub known_by : List PassView → List Known
known_by passes = map (λ pass. pass.known) passes

-- the node with this number is among them
abbrev pub HasNode : List Known → ℕ → Type 0
HasNode all node = (known : Known) × Has all known × (known.node ≡ node)

-- each node from 1 to this number is among them
abbrev pub HasEachNode : List Known → ℕ → Type 0
HasEachNode all count = (node : ℕ) → 0 < node → node ≤ count → HasNode all node

-- this is the lowest number up to the other one whose node is not among them
abbrev pub IsLowestMissing : List Known → ℕ → ℕ → Type 0
IsLowestMissing all count node = (0 < node) × (node ≤ count) × (HasNode all node → ⊥) × ((lower : ℕ) → 0 < lower → lower < node → HasNode all lower)

-- what a node knows is of this history: a beginning of it is its front, just its calls there are its own, and what its looks
-- showed begins all that is settled
pub record IsPartOf (opening : Opening) (history : List Entry) (known : Known) : Type 0 where
  pub from : known.opening ≡ Some opening
  pub front : Begins known.front history
  pub mine : calls_of known.node history ≡ known.mine
  pub shown : Begins known.shown (settled_of history)

-- there is one legal history, for which the area stands: the longest front, of which each pass knows a part; no other node has
-- a call in it
pub record Closes {D : Type 0} (shown : D → Device) (passes : List PassView) (area : OpenArea D) : Type 0 where
  pub opening : Opening
  pub history : List Entry
  pub stands : StandsForHistory shown area opening history
  pub each : (known : Known) → Has (known_by passes) known → IsPartOf opening history known
  pub others : (node : ℕ) → (HasNode (known_by passes) node → ⊥) → calls_of node history ≡ []
  pub longest : (known : Known) × Has (known_by passes) known × (known.front ≡ history)

-- the lowest node, from 1, whose pass is not there
abbrev pub IsMissing : List PassView → ℕ → CloseError → Type 0
IsMissing passes count (PassMissing node) = IsLowestMissing (known_by passes) count node
