-- A message is read, or looked at.
use Rattle.std.specs.Prelude.{ℕ, List, if◌then◌else◌}
use Rattle.jb_base.specs.declared.area.AreaRules.{AreaRules}
use Rattle.jb_base.specs.declared.user.User.{User}
use Rattle.jb_bytes.specs.Name.{same_name}
use Rattle.jb_bytes.specs.Subfields.{receiver_of}
use Rattle.jb_state.specs.Loaded.{IsMessageAt}
use Rattle.jb_model.specs.Letter.{letter_of}
use Rattle.jb_model.specs.Read.{read_once_more, received_at}
use Rattle.jb_state.specs.State.{text_of}
use Rattle.jb_state.specs.declared.change.Change.TheVariants.{Headed, Nothing}
use Rattle.jb_state.specs.declared.change.HeadAt.{HeadAt}
use Rattle.jb_model.specs.declared.command.Command.TheVariants.{Peek, Read}
use Rattle.jb_state.specs.declared.loaded.Loaded.{Loaded}
use Rattle.jb_state.specs.declared.loaded.LoadedMessage.{LoadedMessage}
use Rattle.jb_state.specs.declared.message.Head.{Head}
use Rattle.jb_model.specs.declared.reply.Reply.{Reply}
use Rattle.jb_model.specs.declared.reply.Reply.TheVariants.{Text}
use Rattle.jb_decide.specs.Seen.{shown_message}
use Rattle.jb_decide.specs.StepOf.{IsStepOf}

-- the header's fields of the message as a reading by this user leaves them; only its receiver receives it
abbrev pub read_head : User → ℕ → LoadedMessage → Head
read_head user moment message =
    if same_name user.name (receiver_of message.subfields)
    then received_at moment (read_once_more message.head)
    else read_once_more message.head

-- the letter of a message with this number, with these fields in its header and its text out of these texts
abbrev pub letter_in : ℕ → Head → LoadedMessage → List ℕ → Reply
letter_in number head message texts = Text (letter_of number (shown_message head message (text_of texts message)))

-- this is what the user's reading of the number does to the area at that moment; it answers with the letter as it is afterwards
pub record IsReading (rules : AreaRules) (loaded : Loaded) (user : User) (moment number : ℕ) (at : HeadAt) : Type 0 where
  pub message : LoadedMessage
  pub here : IsMessageAt loaded at.place message
  pub step : IsStepOf rules loaded user moment (Read number) (letter_in number at.head message) (Headed at)

-- at every moment the user's look at the number shows the message at this place, and changes nothing
pub record IsLooking (rules : AreaRules) (loaded : Loaded) (user : User) (number place : ℕ) : Type 0 where
  pub message : LoadedMessage
  pub here : IsMessageAt loaded place message
  pub step : (moment : ℕ) → IsStepOf rules loaded user moment (Peek number) (letter_in number message.head message) Nothing
