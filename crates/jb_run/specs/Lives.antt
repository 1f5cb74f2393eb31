-- One area of a board, from its disk as the host had it to its disk as the host has it back.
use Rattle.std.specs.Prelude.{◌≡◌, ℕ, ◌≤◌, Bool, true, false, not, List, [], length, Option, is_some}
use Rattle.std.specs.Option.{ForSome}
use Rattle.jb_area.specs.Area.{DoubtOpens, device_of, loaded_of, rules_of}
use Rattle.jb_area.specs.Calls.{HasRest}
use Rattle.jb_area.specs.Holds.{IsAtRest, Opens}
use Rattle.jb_area.specs.declared.area.OpenArea.{OpenArea}
use Rattle.jb_area_open.specs.Opening.{IsOpenAt, IsRecovered, KeepsOpening, OpensFirmly}
use Rattle.jb_bytes.specs.Fault.{Rose}
use Rattle.jb_base.specs.declared.area.AreaRules.{AreaRules}
use Rattle.jb_conf.specs.declared.board.BoardArea.{BoardArea}
use Rattle.jb_decide.specs.Coming.{Coming}
use Rattle.jb_disk.specs.Device.{Device, TellsAlike}
use Rattle.jb_disk.specs.Runs.{IsAllSynced}
use Rattle.jb_host.specs.Desk.{Desk, GivesDisk}
use Rattle.jb_journal.specs.Recover.{IsGrowthSafe}
use Rattle.jb_model.specs.History.{calls_of, last_faults}
use Rattle.jb_state.specs.Live.{live_count}
use Rattle.jb_model.specs.Standing.{Standing, Settled, InDoubt, StandsWithin, is_settled}
use Rattle.jb_state.specs.State.{state_of}
use Rattle.jb_model.specs.declared.entry.Entry.{Entry}
use Rattle.jb_state.specs.declared.loaded.Loaded.{Loaded}
use Rattle.jb_turn.specs.Rows.{Begins, Has}
use Rattle.jb_shared.specs.Areas.{IsShared}
use Rattle.jb_shared.specs.Closing.{HasNode, IsPartOf, known_by}
use Rattle.jb_shared.specs.Histories.{IsHistory, Tells, leads_to, stopped_last}
use Rattle.jb_shared.specs.Passes.{Known, PassView}
use Rattle.jb_shared.specs.Stops.{ComesBy}
use Rattle.jb_shared.specs.Standing.{doubt_between}
use Rattle.jb_shared.specs.declared.opening.Opening.{Opening}
use Rattle.jb_shared.specs.declared.shared.SharedArea.{SharedArea}

-- what an area goes on from is just what its files open to, where a record behind an open gate is growth safe, by the rules of the board,
-- with no more slots than they allow; the opening raised no count of faults; and whatever stood in the journal, the disk was recovered and then had files that hold the area at rest
pub record GoesOnFrom (by : AreaRules) (before : Device) (opening : Opening) : Type 0 where
  pub rules : opening.rules ≡ by
  pub few : length opening.loaded.slots ≤ by.slots
  pub faults : opening.faults ≡ before.faults
  pub told : is_some opening.texts ≡ is_some before.contents
  pub opens : ForSome before.contents (λ was. IsGrowthSafe was → ForSome opening.texts (λ texts. Opens opening.loaded texts was))
  pub now : Device
  pub counted : opening.moments ≡ length now.moments
  pub recovered : ForSome before.contents (λ was. IsRecovered was now)
  pub crash : KeepsOpening before now
  pub firm : OpensFirmly before now
  pub holds : ForSome now.contents (λ files. ForSome opening.texts (λ texts. IsAtRest opening.loaded texts files))

-- so many messages of what is loaded are live
abbrev pub HasLive : ℕ → Loaded → Type 0
HasLive live loaded = (texts : List ℕ) → live ≡ live_count (state_of texts loaded).slots

-- of a disk that shows itself so
module _ {D : Type 0} (shown : D → Device) where
  -- the area is open over this disk, which was recovered, at rest and by these rules
  pub record OpensOver (by : AreaRules) (before : Device) (opened : OpenArea D) : Type 0 where
    pub rules : rules_of opened ≡ by
    pub rest : HasRest shown opened
    pub opens : ForSome before.contents (λ was. IsGrowthSafe was → IsOpenAt shown was opened)
    pub recovered : ForSome before.contents (λ was. IsRecovered was (device_of shown opened))
    pub faults : (device_of shown opened).faults ≡ before.faults
    pub crash : KeepsOpening before (device_of shown opened)
    pub firm : OpensFirmly before (device_of shown opened)
    pub alike : TellsAlike before (device_of shown opened)

  -- the host handed the disk of the area out, and it is open with so many live messages and shared among so many nodes
  pub record SharesArea (area : BoardArea) (nodes : ℕ) (old new : Desk) (shared : SharedArea D) (passes : List PassView) (live : ℕ) : Type 0 where
    pub before : Device
    pub gives : GivesDisk area.dir area.base before old new
    pub opened : OpenArea D
    pub opens : OpensOver area.rules before opened
    pub shares : IsShared shown opened nodes shared passes
    pub counts : HasLive live (loaded_of opened)

-- the disk holds the area so: settled, with nothing on its way, or between two states, to one of which its files open
abbrev pub HoldsAt : Standing → Device → Type 0
HoldsAt (Settled state) device = IsAllSynced device
    × ForSome device.contents (λ files. (loaded : Loaded) × (texts : List ℕ) × IsAtRest loaded texts files × (state_of texts loaded ≡ state))
HoldsAt (InDoubt before after) device = ForSome device.contents (λ files. (loaded : Loaded) × (texts : List ℕ) × (coming : Option Coming)
    × DoubtOpens loaded texts coming files × StandsWithin (doubt_between texts loaded coming) (InDoubt before after))

-- the disk is left as the history says: it has failed no less often than the history tells, since backups read it too, and the area is in doubt just where the
-- device stopped the last call, which then has raised its count of faults. At each moment since the area was shared a crash left what opens
-- to the area after a beginning of the history: up to some moment no more than each beginning, and from then on no less
pub record LeavesArea (opening : Opening) (entries : List Entry) (is_doubtful : Bool) (after : Device) : Type 0 where
  pub history : IsHistory opening entries
  pub faults : last_faults opening.faults entries ≤ after.faults
  pub told : is_some after.contents ≡ is_some opening.texts
  pub standing : Standing
  pub leads : Tells opening → standing ≡ leads_to opening entries
  pub doubt : is_doubtful ≡ not (is_settled standing)
  pub stopped : is_doubtful ≡ stopped_last entries
  pub cause : is_doubtful ≡ true → Rose opening.faults after.faults
  pub holds : HoldsAt standing after
  pub crash : Tells opening → (part : List Entry) → Begins part entries → ComesBy opening part entries after

-- an area was opened and closed again with no call: its disk is left settled at just what its files opened to
pub record KeepsArea (by : AreaRules) (before after : Device) : Type 0 where
  pub opening : Opening
  pub opens : GoesOnFrom by before opening
  pub leaves : LeavesArea opening [] false after

-- an area is closed with these passes: there is one history, the longest front, of which each knows a part and in which no other node
-- has a call, and the disk is left as it says
pub record Ends (passes : List PassView) (is_doubtful : Bool) (after : Device) : Type 0 where
  pub opening : Opening
  pub history : List Entry
  pub leaves : LeavesArea opening history is_doubtful after
  pub each : (known : Known) → Has (known_by passes) known → IsPartOf opening history known
  pub others : (node : ℕ) → (HasNode (known_by passes) node → ⊥) → calls_of node history ≡ []
  pub longest : (known : Known) × Has (known_by passes) known × (known.front ≡ history)
