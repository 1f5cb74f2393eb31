-- How a pattern goes along a name to its first `*`.
use Rattle.std.specs.Prelude.{◌≡◌, ℕ, ◌<◌, ◌≤◌, Bool, true, false, List, length}
use Rattle.jb_wildmat.specs.declared.pattern.Along.{Along}
use Rattle.jb_wildmat.specs.declared.pattern.Along.TheVariants.{Taken, Missed, Star}
use Rattle.jb_wildmat.specs.Wildmats.{pattern_takes, rest_passes, some_end}

-- the sign takes no byte at the front of the name
abbrev pub TakesNone : ℕ → List ℕ → Type 0
TakesNone sign name = (test : List ℕ → Bool) → rest_passes sign test name ≡ false

-- both are left so behind the first `*`: some end of what is left of the name decides, and no later end of the name takes more
pub record IsBehindStar (pattern name later left : List ℕ) : Type 0 where
  pub same : pattern_takes pattern name ≡ some_end (pattern_takes later) left
  pub no_later : some_end (pattern_takes pattern) name ≡ pattern_takes pattern name
  pub shorter : length later < length pattern
  pub within : length left ≤ length name

-- the pattern goes along the name so
abbrev pub IsAlong : Along → List ℕ → List ℕ → Type 0
IsAlong Taken pattern name = pattern_takes pattern name ≡ true
IsAlong Missed pattern name = pattern_takes pattern name ≡ false
IsAlong (Star rest) pattern name = IsBehindStar pattern name rest.pattern.now rest.name.now
