-- The answer to a command: a reply, and the state that it leaves. A refusal leaves the state as it was.
use Rattle.std.specs.Prelude.{ℕ, Option, Some, None}
use Rattle.jb_base.specs.declared.area.Rule.{Rule}
use Rattle.jb_state.specs.State.{AreaState, LiveMessage}
use Rattle.jb_model.specs.declared.reply.Reply.{Reply}
use Rattle.jb_model.specs.declared.reply.Reply.TheVariants.{Denied, NoMessage}

-- a reply, and the state after it
pub record Answered : Type 0 where
  pub reply : Reply
  pub state : AreaState

-- a refusal keeps the state
abbrev pub refused : AreaState → Reply → Answered
refused state reply = record { reply = reply; state = state }

-- the refusal, where there is one, and else the rest
abbrev pub unless_refused : AreaState → Option Reply → Answered → Answered
unless_refused state (Some refusal) rest = refused state refusal
unless_refused state None rest = rest

-- Denied with the rule that refuses, where one does, and else the rest
abbrev pub unless_denied : AreaState → Option Rule → Answered → Answered
unless_denied state (Some rule) rest = refused state (Denied rule)
unless_denied state None rest = rest

-- what is done with the message that the number names; NoMessage where it names none
abbrev pub with_message : AreaState → ℕ → Option LiveMessage → (LiveMessage → Answered) → Answered
with_message state number None act = refused state (NoMessage number)
with_message state number (Some message) act = act message
