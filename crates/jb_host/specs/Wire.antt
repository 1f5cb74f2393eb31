-- What is known of a link before and after a call.
use Rattle.std.specs.Prelude.{◌≡◌, ◌<◌, ℕ, List, ◌++◌, length, Option}
use Rattle.std.specs.Option.{option_map}

-- a link, as its user sees it
pub record Wire : Type 0 where
  -- how often it has failed
  pub faults : ℕ
  -- how often a read into a slice that is not empty gave 0
  pub ends : ℕ
  -- how often a write has failed
  pub unsent : ℕ
  -- the bytes still to come, where it tells them
  pub to_come : Option (List ℕ)
  -- the bytes sent, where it tells them
  pub sent : Option (List ℕ)

-- these bytes are the first of what was to come, where the link tells
abbrev pub Takes : Option (List ℕ) → List ℕ → Option (List ℕ) → Type 0
Takes before bytes now = before ≡ option_map (λ rest. bytes ++ rest) now

-- these bytes were sent besides, where the link tells
abbrev pub Sends : Option (List ℕ) → List ℕ → Option (List ℕ) → Type 0
Sends before bytes now = now ≡ option_map (λ sent. sent ++ bytes) before

-- the second list begins with the first, and goes on
pub record IsFrontOf {T : Type 0} (front whole : List T) : Type 0 where
  pub rest : List T
  pub is : whole ≡ front ++ rest
  pub more : 0 < length rest
