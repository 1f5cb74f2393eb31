-- How far the texts that are left may be copied, and why no further.
use Rattle.std.specs.Prelude.{◌≡◌, ◌≢◌, ◌⊎◌, ℕ, ◌+◌, ◌-◌, ◌<◌, ◌≤◌, Bool, true, false, List, [], length}
use Rattle.jb_limits.specs.declared.limits.TheConstants.{SHADOW_CEILING}
use Rattle.jb_state.specs.declared.loaded.LoadedSlot.{LoadedSlot}
use Rattle.jb_pack.specs.Shadow.{Shadow, left_first, lefts}
use Rattle.jb_pack.specs.declared.reaching.Reach.{Reach}
use Rattle.jb_pack.specs.declared.reaching.Stop.{Stop}
use Rattle.jb_pack.specs.declared.reaching.Stop.TheVariants.{Budget, Ceiling, End}

-- why no further than behind the first so many slots
abbrev pub StopsFor : Stop → ℕ → ℕ → List LoadedSlot → Shadow → Type 0
StopsFor End count budget slots shadow = count ≡ length slots
StopsFor Budget count budget slots shadow = budget < left_first (count + 1) shadow slots
StopsFor Ceiling count budget slots shadow =
    (left_first (count + 1) shadow slots ≤ budget) × (SHADOW_CEILING < shadow.len + left_first (count + 1) shadow slots)

-- a text is left behind
abbrev pub leaves_more : Stop → Bool
leaves_more End = false
leaves_more Budget = true
leaves_more Ceiling = true

-- so many bytes are copied at most: those that are reached, or where .NDT is emptied before, those of the budget
abbrev pub most_for : Stop → ℕ → ℕ → ℕ
most_for End budget bytes = bytes
most_for Budget budget bytes = bytes
most_for Ceiling budget bytes = budget

-- so it is where a step begins with this
abbrev pub most_of : ℕ → Reach → ℕ
most_of budget reach = most_for reach.stop budget reach.bytes

-- the texts that are left of the first slots fit the budget and .NDT
pub record IsReach (budget : ℕ) (slots : List LoadedSlot) (shadow : Shadow) (reach : Reach) : Type 0 where
  pub behind : reach.behind ≡ shadow.len
  pub within : reach.slots ≤ length slots
  pub bytes : reach.bytes ≡ left_first reach.slots shadow slots
  pub fits : reach.bytes ≤ budget
  pub room : shadow.len + reach.bytes ≤ SHADOW_CEILING
  pub stops : StopsFor reach.stop reach.slots budget slots shadow

-- the texts are copied behind what .NDT has
pub record GoesOn (budget : ℕ) (slots : List LoadedSlot) (old new : Shadow) (reach : Reach) : Type 0 where
  pub same : new ≡ old
  pub is : IsReach budget slots old reach
  pub fits : reach.stop ≢ Ceiling

-- the next text would take it past its ceiling, and it is empty now
pub record BeginsAnew (budget : ℕ) (slots : List LoadedSlot) (old new : Shadow) (reach : Reach) : Type 0 where
  pub before : Reach
  pub was : IsReach budget slots old before
  pub full : before.stop ≡ Ceiling
  pub empty : new.len ≡ 0
  pub none : lefts new.texts slots ≡ lefts [] slots
  pub is : IsReach (budget - before.bytes) slots new reach

-- one or the other
abbrev pub Starts : ℕ → List LoadedSlot → Shadow → Shadow → Reach → Type 0
Starts budget slots old new reach = GoesOn budget slots old new reach ⊎ BeginsAnew budget slots old new reach
