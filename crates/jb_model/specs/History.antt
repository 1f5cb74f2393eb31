-- The history of an area: what was asked of it and what came of it, in one order.
use Rattle.std.specs.Prelude.{◌≡◌, ℕ, zero, suc, ◌==◌, Bool, false, List, [], ◌∷◌, Option, Some, None, filter, filter_map, length, map, take, IfSome, ◌+◌, if◌then◌else◌}
use Rattle.std.specs.List.{range_with_len}
use Rattle.jb_bytes.specs.Fault.{Rose}
use Rattle.jb_base.specs.declared.area.AreaRules.{AreaRules}
use Rattle.jb_model.specs.Standing.{Standing, Settled, Allows, after_entry, is_settled}
use Rattle.jb_state.specs.State.{AreaState}
use Rattle.jb_model.specs.declared.entry.Entry.{Entry}
use Rattle.jb_model.specs.declared.entry.Entry.TheVariants.{Called, Reopened}
use Rattle.jb_model.specs.declared.entry.Outcome.{Outcome}
use Rattle.jb_model.specs.declared.entry.Outcome.TheVariants.{Replied, InDoubt, NotBegun}

-- where an area that stood so stands after these entries
abbrev pub standing_from : AreaRules → Standing → List Entry → Standing
standing_from rules standing [] = standing
standing_from rules standing (entry ∷ rest) = standing_from rules (after_entry rules standing entry) rest

-- each entry may come where the area then stands
abbrev pub AllowsEach : AreaRules → Standing → List Entry → Type 0
AllowsEach rules standing [] = Unit {0}
AllowsEach rules standing (entry ∷ rest) = Allows rules standing entry × AllowsEach rules (after_entry rules standing entry) rest

-- where the area stands after this history, from a settled first state
abbrev pub standing_after : AreaRules → AreaState → List Entry → Standing
standing_after rules first history = standing_from rules (Settled first) history

-- the entry is a call of this node
abbrev pub is_call_of : ℕ → Entry → Bool
is_call_of node (Called caller call user moment command outcome) = caller == node
is_call_of node (Reopened stands) = false

-- the calls of a node, in order
abbrev pub calls_of : ℕ → List Entry → List Entry
calls_of node history = filter (is_call_of node) history

-- the number of a call among those of its node
abbrev pub call_number : Entry → ℕ
call_number (Called node call user moment command outcome) = call
call_number (Reopened stands) = 0

-- the calls of each node are numbered 1, 2, 3 and so on
abbrev pub AreNumbered : List Entry → Type 0
AreNumbered history = (node : ℕ) → map call_number (calls_of node history) ≡ range_with_len 1 (length (calls_of node history))

-- the device's count that an outcome tells
abbrev pub faults_told : Outcome → Option ℕ
faults_told (Replied reply) = None
faults_told (InDoubt faults) = Some faults
faults_told (NotBegun faults) = Some faults

-- the device's count that an entry tells
abbrev pub faults_of : Entry → Option ℕ
faults_of (Called node call user moment command outcome) = faults_told outcome
faults_of (Reopened stands) = None

-- each count rose from the one before it, the first from this one
abbrev pub Rises : ℕ → List ℕ → Type 0
Rises before [] = Unit {0}
Rises before (faults ∷ rest) = Rose before faults × Rises faults rest

-- a history from this state, of which no entry is without its cause; the device's count stood at `faults` before it
pub record IsLegal (rules : AreaRules) (first : AreaState) (faults : ℕ) (history : List Entry) : Type 0 where
  pub allowed : AllowsEach rules (Settled first) history
  pub numbered : AreNumbered history
  pub risen : Rises faults (filter_map faults_of history)

-- the longest prefix of at most so many entries after which the area is settled
abbrev pub settled_within : AreaRules → AreaState → List Entry → ℕ → List Entry
settled_within rules first history zero = []
settled_within rules first history (suc n) =
    if is_settled (standing_after rules first (take (suc n) history)) then take (suc n) history else settled_within rules first history n

-- the longest prefix after which the area is settled
abbrev pub settled_prefix : AreaRules → AreaState → List Entry → List Entry
settled_prefix rules first history = settled_within rules first history (length history)

-- the last of these counts, or this one where there is none
abbrev pub last_told : ℕ → List ℕ → ℕ
last_told before [] = before
last_told before (faults ∷ rest) = last_told faults rest

-- the last count that the entries tell, or the one before them
abbrev pub last_faults : ℕ → List Entry → ℕ
last_faults before history = last_told before (filter_map faults_of history)

-- a call is the next of its node
abbrev pub IsNextCall : List Entry → Entry → Type 0
IsNextCall history (Called node call user moment command outcome) = call ≡ length (calls_of node history) + 1
IsNextCall history (Reopened stands) = Unit {0}

-- an entry that makes a legal history of a legal one, behind which it goes
pub record MayFollow (rules : AreaRules) (first : AreaState) (faults : ℕ) (history : List Entry) (entry : Entry) : Type 0 where
  pub allowed : Allows rules (standing_after rules first history) entry
  pub numbered : IsNextCall history entry
  pub risen : IfSome (faults_of entry) (λ told. Rose (last_faults faults history) told)
