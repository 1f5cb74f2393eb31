-- What is known of a door before and after a call.
use Rattle.std.specs.Prelude.{◌≡◌, ℕ, ◌+◌, ◌<◌, Bool, true, List, [], ◌∷◌, ◌++◌, Option, Some}
use Rattle.std.specs.Option.{option_map}
use Rattle.jb_host.specs.declared.door.Accepted.{Accepted}
use Rattle.jb_host.specs.declared.door.Accepted.TheVariants.{Call, Shut}
use Rattle.jb_host.specs.Wire.{Wire}

-- a door, as its user sees it
pub record Gate : Type 0 where
  -- how often it has failed
  pub faults : ℕ
  -- whether it has answered that it is shut
  pub is_shut : Bool
  -- how many calls are left until it is shut, where their number has an end
  pub left : Option ℕ
  -- for how many links, as they are hung up, it has a place
  pub room : ℕ
  -- the links still to come, as it will give them, where it tells them
  pub to_come : Option (List Wire)
  -- the links that were hung up, each as it was then, where it tells them
  pub hung : Option (List Wire)

-- a link more, where the door tells them
abbrev pub and_link : Wire → Option (List Wire) → Option (List Wire)
and_link wire wires = option_map (λ earlier. earlier ++ wire ∷ []) wires

-- the door gave this link, the first of those to come, and has a place for it; no fault was counted
pub record GivesLink (wire : Wire) (old new : Gate) : Type 0 where
  pub first : old.to_come ≡ option_map (λ rest. wire ∷ rest) new.to_come
  pub left : old.left ≡ option_map (λ n. n + 1) new.left
  pub room : 0 < new.room
  pub hung : new.hung ≡ old.hung
  pub shut : new.is_shut ≡ old.is_shut
  pub faults : new.faults ≡ old.faults

-- the door gave no link, and has as many yet
pub record GivesNone (old new : Gate) : Type 0 where
  pub to_come : new.to_come ≡ old.to_come
  pub left : new.left ≡ old.left
  pub room : new.room ≡ old.room
  pub hung : new.hung ≡ old.hung

-- the door answered that it is shut, since no call was left; no fault was counted
pub record IsFoundShut (old new : Gate) : Type 0 where
  pub over : old.left ≡ Some 0
  pub none : GivesNone old new
  pub shut : new.is_shut ≡ true
  pub faults : new.faults ≡ old.faults

-- what the answer of a door means
abbrev pub Accepts : {L : Type 0} → (L → Wire) → Gate → Accepted L → Gate → Type 0
Accepts wire old (Call link) new = GivesLink (wire link) old new
Accepts wire old Shut new = IsFoundShut old new

-- the door failed, and gave no link
pub record FailsToGive (old new : Gate) : Type 0 where
  pub none : GivesNone old new
  pub shut : new.is_shut ≡ old.is_shut

-- a link was hung up: where the door has a place, behind those before
pub record HangsUp (wire : Wire) (old new : Gate) : Type 0 where
  pub hung : 0 < old.room → new.hung ≡ and_link wire old.hung
  pub to_come : new.to_come ≡ old.to_come
  pub left : new.left ≡ old.left
  pub shut : new.is_shut ≡ old.is_shut
  pub faults : new.faults ≡ old.faults
