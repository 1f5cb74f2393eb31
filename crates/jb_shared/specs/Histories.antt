-- The history of a shared area: from what it goes on, when it is legal, where it leads, and how much of it is settled.
use Rattle.std.specs.Prelude.{Bool, false, List, [], ◌∷◌, IsSome, filter_map, is_some, unwrap_or, if◌then◌else◌}
use Rattle.jb_model.specs.History.{AllowsEach, AreNumbered, Rises, faults_of, standing_after}
use Rattle.jb_model.specs.Standing.{Standing, Settled, InDoubt}
use Rattle.jb_state.specs.State.{AreaState, state_of}
use Rattle.jb_model.specs.declared.entry.Entry.{Entry}
use Rattle.jb_shared.specs.declared.opening.Opening.{Opening}

-- the disk of the area tells its files
abbrev pub Tells : Opening → Type 0
Tells opening = IsSome opening.texts

-- the state from which the history goes on; its texts are those that were told
abbrev pub first_state : Opening → AreaState
first_state opening = state_of (unwrap_or opening.texts []) opening.loaded

-- where the history leads
abbrev pub leads_to : Opening → List Entry → Standing
leads_to opening history = standing_after opening.rules (first_state opening) history

-- the entry is a call that the device stopped
abbrev pub is_stopped : Entry → Bool
is_stopped entry = is_some (faults_of entry)

-- an entry before what is settled of those behind it
abbrev pub settled_with : Entry → List Entry → List Entry
settled_with entry [] = if is_stopped entry then [] else entry ∷ []
settled_with entry (next ∷ rest) = entry ∷ next ∷ rest

-- all that is settled: the longest beginning that does not end with a stopped call. Of a legal history, where the disk tells its
-- files, that is the longest one after which the area is settled
abbrev pub settled_of : List Entry → List Entry
settled_of [] = []
settled_of (entry ∷ rest) = settled_with entry (settled_of rest)

-- behind these entries the last one is a call that the device stopped; behind none, as it is said before them
abbrev pub stopped_behind : Bool → List Entry → Bool
stopped_behind before [] = before
stopped_behind before (entry ∷ history) = stopped_behind (is_stopped entry) history

-- the last entry is a call that the device stopped
abbrev pub stopped_last : List Entry → Bool
stopped_last history = stopped_behind false history

-- the state at which an area is settled, or was before the change that is in doubt
abbrev pub state_at : Standing → AreaState
state_at (Settled state) = state
state_at (InDoubt before after) = before

-- the calls of each node are numbered 1, 2, 3 and so on, the counts of faults rise from that of the opening, and where the
-- disk tells its files, each entry follows from those before it: then the history is legal
pub record IsHistory (opening : Opening) (history : List Entry) : Type 0 where
  pub numbered : AreNumbered history
  pub risen : Rises opening.faults (filter_map faults_of history)
  pub allowed : Tells opening → AllowsEach opening.rules (Settled (first_state opening)) history
