-- The live messages that have an id, in the order of the ids.
use Rattle.std.specs.Prelude.{◌≡◌, ◌≢◌, ◌↔◌, ℕ, ◌<◌, ◌≤◌, List, [], AllPairs, Contains, IsSome, Option, Some, None, option_and_then, unwrap_or}
use Rattle.jb_bytes.specs.Subfields.{first_of}
use Rattle.jb_link.specs.Ids.{hash_of}
use Rattle.jb_state.specs.Plan.{loaded_at}
use Rattle.jb_state.specs.declared.loaded.Loaded.{Loaded}
use Rattle.jb_link.specs.Order.{IsRising, id_order}

-- the first subfield of this kind of the live message that a number names, where there are both
abbrev pub id_at : ℕ → Loaded → ℕ → Option (List ℕ)
id_at kind loaded number = option_and_then (λ message. first_of kind message.subfields) (loaded_at loaded number)

-- by what the message with this number stands among the others: its id, and then the number
abbrev pub id_place : ℕ → Loaded → ℕ → List ℕ × ℕ
id_place kind loaded number = (unwrap_or (id_at kind loaded number) [], number)

-- the hash of its id
abbrev pub hash_at : ℕ → Loaded → ℕ → ℕ
hash_at kind loaded number = hash_of (id_place kind loaded number).0

-- the numbers are those of the live messages that have an id of this kind, each once, in the order of the ids and, of equal
-- ones, in their own
pub record IsIdList (kind : ℕ) (loaded : Loaded) (numbers : List ℕ) : Type 0 where
  pub listed : (number : ℕ) → Contains numbers number ↔ IsSome (id_at kind loaded number)
  pub rising : IsRising id_order (id_place kind loaded) numbers

-- the same, but for one number
pub record IsIdListBut (kind : ℕ) (loaded : Loaded) (other : ℕ) (numbers : List ℕ) : Type 0 where
  pub listed : (number : ℕ) → Contains numbers number ↔ (IsSome (id_at kind loaded number) × (number ≢ other))
  pub rising : IsRising id_order (id_place kind loaded) numbers

-- the numbers of the messages with an id of this kind that are below one number, in their own order
pub record AreIdsBelow (kind : ℕ) (loaded : Loaded) (end : ℕ) (numbers : List ℕ) : Type 0 where
  pub listed : (number : ℕ) → Contains numbers number ↔ ((number < end) × IsSome (id_at kind loaded number))
  pub rising : AllPairs (λ one other. one < other) numbers

-- the least number of a message with this id, where there is one
abbrev pub IsLeastWith : ℕ → Loaded → List ℕ → Option ℕ → Type 0
IsLeastWith kind loaded id None = (other : ℕ) → id_at kind loaded other ≢ Some id
IsLeastWith kind loaded id (Some number) = (id_at kind loaded number ≡ Some id) × ((other : ℕ) → id_at kind loaded other ≡ Some id → number ≤ other)

-- the least of those from one number on
abbrev pub IsNextWith : ℕ → Loaded → List ℕ → ℕ → Option ℕ → Type 0
IsNextWith kind loaded id from None = (other : ℕ) → from ≤ other → id_at kind loaded other ≢ Some id
IsNextWith kind loaded id from (Some number) =
    (id_at kind loaded number ≡ Some id) × (from ≤ number) × ((other : ℕ) → from ≤ other → id_at kind loaded other ≡ Some id → number ≤ other)

-- the greatest
abbrev pub IsGreatestWith : ℕ → Loaded → List ℕ → Option ℕ → Type 0
IsGreatestWith kind loaded id None = (other : ℕ) → id_at kind loaded other ≢ Some id
IsGreatestWith kind loaded id (Some number) = (id_at kind loaded number ≡ Some id) × ((other : ℕ) → id_at kind loaded other ≡ Some id → other ≤ number)
