-- How much of the texts one step of a packer copies.
use Rattle.std.specs.Prelude.{◌≡◌, ◌⊎◌, ℕ, ◌+◌, ◌-◌, ◌<◌, ◌≤◌, List, ◌++◌, drop, length, replicate}
use Rattle.jb_limits.specs.declared.limits.TheConstants.{SHADOW_CEILING}
use Rattle.jb_state.specs.declared.loaded.LoadedSlot.{LoadedSlot}
use Rattle.jb_pack.specs.Shadow.{Shadow, left_first, lefts, nothing_copied}

-- what was left of the first so many slots is copied behind what .NDT had, and of the others as much is left as before
pub record CopiesFirst (count : ℕ) (slots : List LoadedSlot) (old new : Shadow) : Type 0 where
  pub within : count ≤ length slots
  pub left : lefts new.texts slots ≡ replicate count 0 ++ drop count (lefts old.texts slots)
  pub len : new.len ≡ old.len + left_first count old slots

-- the texts that are left are copied whole and in the order of the numbers, as many as together have no more bytes than this
pub record CopiesWithin (budget : ℕ) (slots : List LoadedSlot) (old new : Shadow) : Type 0 where
  pub count : ℕ
  pub copies : CopiesFirst count slots old new
  pub fits : left_first count old slots ≤ budget
  pub stops : (count ≡ length slots) ⊎ (budget < left_first (count + 1) old slots)
  pub below : new.len ≤ SHADOW_CEILING

-- before the next of them .NDT would pass its ceiling: it begins anew, and what is left of the budget is copied from the
-- first slot on
pub record CopiesAnew (budget : ℕ) (slots : List LoadedSlot) (old new : Shadow) : Type 0 where
  pub count : ℕ
  pub fits : left_first (count + 1) old slots ≤ budget
  pub room : old.len + left_first count old slots ≤ SHADOW_CEILING
  pub full : SHADOW_CEILING < old.len + left_first (count + 1) old slots
  pub again : CopiesWithin (budget - left_first count old slots) slots nothing_copied new

-- one step
abbrev pub Copies : ℕ → List LoadedSlot → Shadow → Shadow → Type 0
Copies budget slots old new = CopiesWithin budget slots old new ⊎ CopiesAnew budget slots old new
