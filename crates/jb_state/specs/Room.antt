-- Room that grows by doubling: there are places for as many as a power of two.
use Rattle.std.specs.Prelude.{◌≡◌, ℕ, ◌+◌, ◌*◌, ◌<◌, ◌≤◌, true, Option, Some}
use Rattle.std.specs.Int.{IsPowerOfTwo, is_power_of_two}

-- no more are taken than a power of two, for which there are places
pub record HasPlaces (taken places : ℕ) : Type 0 where
  pub most : ℕ
  pub power : IsPowerOfTwo most
  pub within : taken ≤ most
  pub room : most ≤ places

-- these are more places than are taken, at most twice as many, and as many as a power of two
pub record IsWider (taken places : ℕ) : Type 0 where
  pub more : taken < places
  pub few : places ≤ 2 * taken + 1
  pub power : IsPowerOfTwo places

-- where as many are taken as a power of two, so that no place may be free, there are these, which are more
abbrev pub HasPlaceBeside : ℕ → Option ℕ → Type 0
HasPlaceBeside taken wider = is_power_of_two taken ≡ true → (places : ℕ) × (wider ≡ Some places) × IsWider taken places
