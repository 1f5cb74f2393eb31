-- The one other message whose header a post changes.
use Rattle.std.specs.Prelude.{◌≡◌, ℕ, ◌-◌, List, Option, option_map}
use Rattle.jb_state.specs.Change.{IsNeighbourOf, headed_where}
use Rattle.jb_state.specs.Plan.{loaded_at}
use Rattle.jb_state.specs.Posted.{spliced_slots}
use Rattle.jb_state.specs.Sound.{IsSound}
use Rattle.jb_state.specs.State.{AreaState, state_of}
use Rattle.jb_state.specs.declared.change.HeadAt.{HeadAt}
use Rattle.jb_state.specs.declared.loaded.Loaded.{Loaded}
use Rattle.jb_state.specs.declared.loaded.LoadedMessage.{LoadedMessage}
use Rattle.jb_state.specs.declared.message.Head.{Head}

-- the header's fields with another first reply
abbrev pub first_reply_head : ℕ → Head → Head
first_reply_head number head = record head { reply_first = number }

-- the header's fields with another next reply
abbrev pub next_reply_head : ℕ → Head → Head
next_reply_head number head = record head { reply_next = number }

-- the message that a number names, with its header's fields changed, where there is one
abbrev pub neighbour_at : Loaded → ℕ → (Head → Head) → Option HeadAt
neighbour_at loaded number change =
    option_map (λ (message : LoadedMessage). record { place = number - loaded.base; head = change message.head }) (loaded_at loaded number)

-- the state with the slots as a new reply leaves them
abbrev pub spliced_state : AreaState → ℕ → ℕ → AreaState
spliced_state state parent number = record state { slots = spliced_slots state parent number }

-- a message with this number that answers this parent has this neighbour; the area stays sound when its header is written
pub record HasNeighbour (loaded : Loaded) (parent number : ℕ) (neighbour : Option HeadAt) : Type 0 where
  pub fits : IsNeighbourOf neighbour loaded
  pub spliced : (texts : List ℕ) → state_of texts (headed_where neighbour loaded) ≡ spliced_state (state_of texts loaded) parent number
  pub sound : (limit : ℕ) → IsSound limit loaded → IsSound limit (headed_where neighbour loaded)
