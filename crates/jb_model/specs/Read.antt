-- A message is read, or looked at.
use Rattle.std.specs.Prelude.{ℕ, ◌+◌, min, ◌==◌, bit_or, None, if◌then◌else◌}
use Rattle.jb_base.specs.Access.{first_refusal}
use Rattle.jb_bytes.specs.Name.{same_name}
use Rattle.jb_bytes.specs.Subfields.{receiver_of}
use Rattle.jb_base.specs.declared.area.Action.TheVariants.{List as Listing}
use Rattle.jb_base.specs.declared.area.AreaRules.{AreaRules}
use Rattle.jb_base.specs.declared.attribute.TheConstants.{READ}
use Rattle.jb_base.specs.declared.user.User.{User}
use Rattle.jb_model.specs.Answered.{Answered, unless_denied, with_message}
use Rattle.jb_state.specs.Live.{counted, with_slot}
use Rattle.jb_model.specs.Letter.{letter_of}
use Rattle.jb_state.specs.State.{AreaState, LiveMessage, live_message}
use Rattle.jb_state.specs.Visible.{visible_at}
use Rattle.jb_state.specs.declared.message.Head.{Head}
use Rattle.jb_model.specs.declared.reply.Reply.TheVariants.{Text}

-- TimesRead is one more, and stays at its greatest value
abbrev pub read_once_more : Head → Head
read_once_more head = record head { times_read = min (head.times_read + 1) 4294967295 }

-- READ is set, and DateReceived is the moment where there was none
abbrev pub received_at : ℕ → Head → Head
received_at moment head =
    record head { attribute = bit_or head.attribute READ; received = if head.received == 0 then moment else head.received }

-- the message as a reading by this user leaves it; only its receiver receives it
abbrev pub read_message : User → ℕ → LiveMessage → LiveMessage
read_message user moment message =
    if same_name user.name (receiver_of message.subfields)
    then record message { head = received_at moment (read_once_more message.head) }
    else record message { head = read_once_more message.head }

-- the message stands in the area and is shown, as it now is
abbrev pub read_done : AreaState → ℕ → LiveMessage → Answered
read_done state number message =
    record { reply = Text (letter_of number message); state = counted (with_slot state number (live_message message)) }

-- a reading of the message that the number names
abbrev pub read_step : AreaRules → AreaState → User → ℕ → ℕ → Answered
read_step rules state user moment number =
    unless_denied state (first_refusal user rules Listing None)
    (with_message state number (visible_at rules user state number)
    (λ message. read_done state number (read_message user moment message)))

-- a look at the message that the number names, which changes nothing
abbrev pub peek_step : AreaRules → AreaState → User → ℕ → Answered
peek_step rules state user number =
    unless_denied state (first_refusal user rules Listing None)
    (with_message state number (visible_at rules user state number)
    (λ message. record { reply = Text (letter_of number message); state = state }))
