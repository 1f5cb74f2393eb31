-- What a decoder has read, whatever bytes come next.
use Rattle.std.specs.Prelude.{ℕ, ◌↔◌, List, [], ◌∷◌, ◌++◌, Option, Some, None}
use Rattle.jb_telnet.specs.declared.event.Event.{Event}
use Rattle.jb_telnet.specs.Units.{StartsWith, CutsInto}

-- the events that a push gives
abbrev pub events_given : Option Event → List Event
events_given None = []
events_given (Some event) = event ∷ []

-- whatever follows, the same unit stands first, and the same bytes behind it
abbrev pub ActsAs : List ℕ → List ℕ → Type 0
ActsAs kept rest = (more : List ℕ) (event : Event) (behind : List ℕ)
    → StartsWith event (rest ++ more) behind ↔ StartsWith event (kept ++ more) behind

-- the bytes are cut into these events, and a rest for which stands what is kept
pub record HasRead (kept bytes : List ℕ) (events : List Event) : Type 0 where
  pub rest : List ℕ
  pub cuts : CutsInto bytes events rest
  pub acts : ActsAs kept rest
