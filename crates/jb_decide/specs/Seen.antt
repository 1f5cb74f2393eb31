-- A loaded area as its commands see it.
use Rattle.std.specs.Prelude.{◌≡◌, ℕ, ◌-◌, ◌≤◌, List, Option, Some, None, if◌then◌else◌}
use Rattle.jb_base.specs.Access.{Envelope, is_visible}
use Rattle.jb_bytes.specs.Subfields.{receiver_of, sender_of}
use Rattle.jb_base.specs.declared.area.AreaRules.{AreaRules}
use Rattle.jb_base.specs.declared.user.User.{User}
use Rattle.jb_state.specs.Plan.{loaded_at}
use Rattle.jb_state.specs.Loaded.{IsMessageAt}
use Rattle.jb_state.specs.State.{LiveMessage, text_of}
use Rattle.jb_state.specs.declared.loaded.Loaded.{Loaded}
use Rattle.jb_state.specs.declared.loaded.LoadedMessage.{LoadedMessage}
use Rattle.jb_state.specs.declared.message.Head.{Head}

-- the loaded message with other fields in its header
abbrev pub with_head : Head → LoadedMessage → LoadedMessage
with_head head message = record message { head = head }

-- the loaded message with these fields in its header and this text
abbrev pub shown_message : Head → LoadedMessage → List ℕ → LiveMessage
shown_message head message text = record { owner = message.owner; head = head; subfields = message.subfields; text = text }

-- what the rules of an area look at of a loaded message
abbrev pub loaded_envelope : LoadedMessage → Envelope
loaded_envelope message =
    record { sender = sender_of message.subfields; receiver = receiver_of message.subfields; attribute = message.head.attribute }

-- the loaded message, where the user sees it
abbrev pub if_seen : AreaRules → User → Option LoadedMessage → Option LoadedMessage
if_seen rules user None = None
if_seen rules user (Some message) = if is_visible user rules (loaded_envelope message) then Some message else None

-- the loaded message that a number names, where the user sees it
abbrev pub seen_at : AreaRules → User → Loaded → ℕ → Option LoadedMessage
seen_at rules user loaded number = if_seen rules user (loaded_at loaded number)

-- the number names the message at this place
pub record IsNamed (loaded : Loaded) (number place : ℕ) (message : LoadedMessage) : Type 0 where
  pub low : loaded.base ≤ number
  pub placed : place ≡ number - loaded.base
  pub here : IsMessageAt loaded place message
