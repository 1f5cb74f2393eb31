-- Whole lists of events: how the options stand behind them, and the answers to them.
use Rattle.std.specs.Prelude.{◌≡◌, ℕ, List, [], ◌∷◌, ◌++◌}
use Rattle.std.specs.List.{fold}
use Rattle.jb_telnet.specs.declared.event.Event.{Event}
use Rattle.jb_option.specs.Table.{Sides, first_sides, sides_after, option_answer}

-- how the options stand behind these events, from the greeting on
abbrev pub sides_of : List Event → Sides
sides_of events = fold sides_after first_sides events

-- the answers to the events behind these: to each, by all events before it
abbrev pub answers_behind : List Event → List Event → List (List ℕ)
answers_behind before [] = []
answers_behind before (event ∷ events) = option_answer (sides_of before) event ∷ answers_behind (before ++ event ∷ []) events

-- the answers to these events
abbrev pub option_answers : List Event → List (List ℕ)
option_answers events = answers_behind [] events

-- these events have led to how the options stand, and were given these answers
pub record HasLedTo (sides : Sides) (events : List Event) (answers : List (List ℕ)) : Type 0 where
  pub reached : sides ≡ sides_of events
  pub given : answers ≡ option_answers events
