-- A list of commands, one after another.
use Rattle.std.specs.Prelude.{List, [], ◌∷◌, map}
use Rattle.jb_base.specs.declared.area.AreaRules.{AreaRules}
use Rattle.jb_state.specs.State.{AreaState, LiveMessage, SlotState, no_message, killed_message, live_message}
use Rattle.jb_model.specs.Step.{step}
use Rattle.jb_state.specs.declared.area.Area.{Area}
use Rattle.jb_state.specs.declared.area.Message.{Message}
use Rattle.jb_state.specs.declared.area.Slot.{Slot}
use Rattle.jb_state.specs.declared.area.Slot.TheVariants.{Empty, Killed, Live}
use Rattle.jb_model.specs.declared.command.Asked.{Asked}
use Rattle.jb_model.specs.declared.reply.Reply.{Reply}

-- the replies, in order, and the last state
pub record Ran : Type 0 where
  pub replies : List Reply
  pub state : AreaState

-- an answer in front of what follows it
abbrev pub after_answer : Reply → Ran → Ran
after_answer reply later = record { replies = reply ∷ later.replies; state = later.state }

-- the replies to these commands, and the state after the last
abbrev pub run_of : AreaRules → AreaState → List Asked → Ran
run_of rules state [] = record { replies = []; state = state }
run_of rules state (asked ∷ rest) =
    after_answer (step rules state asked.user asked.moment asked.command).reply
    (run_of rules (step rules state asked.user asked.moment asked.command).state rest)

-- the message without the UserCRC of its index record
abbrev pub plain_message : LiveMessage → Message
plain_message message = record { head = message.head; subfields = message.subfields; text = message.text }

-- the slot as a plain value
abbrev pub plain_slot : SlotState → Slot
plain_slot no_message = Empty
plain_slot killed_message = Killed
plain_slot (live_message message) = Live (plain_message message)

-- the area of a state as a plain value
abbrev pub area_of : AreaState → Area
area_of state = record { base = state.base; slots = map plain_slot state.slots; marks = state.marks }
