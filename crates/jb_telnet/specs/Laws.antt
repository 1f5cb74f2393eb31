-- That any bytes are cut in exactly one way, and that the events of more bytes begin with those of fewer.
use Rattle.std.specs.Prelude.{◌≡◌, ℕ, List, [], ◌++◌}
use Rattle.jb_telnet.specs.declared.event.Event.{Event}
use Rattle.jb_telnet.specs.Units.{CutsInto}

-- the bytes are cut into these events, others behind them, and a rest
pub record GoesOnWith (bytes : List ℕ) (events : List Event) : Type 0 where
  pub more : List Event
  pub rest : List ℕ
  pub cuts : CutsInto bytes (events ++ more) rest

-- any bytes are cut into events and a rest
abbrev pub EachIsCut : Type 0
EachIsCut = (bytes : List ℕ) → GoesOnWith bytes []

-- no bytes are cut in two ways
abbrev pub CutsOneWay : Type 0
CutsOneWay = (bytes : List ℕ) (events others : List Event) (rest other : List ℕ)
    → CutsInto bytes events rest → CutsInto bytes others other → (events ≡ others) × (rest ≡ other)

-- more bytes give the events of fewer, and then others
abbrev pub EventsGrow : Type 0
EventsGrow = (bytes more : List ℕ) (events : List Event) (rest : List ℕ) → CutsInto bytes events rest → GoesOnWith (bytes ++ more) events
