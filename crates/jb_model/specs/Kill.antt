-- A message is killed; its number stays taken.
use Rattle.std.specs.Prelude.{ℕ, Some, None}
use Rattle.jb_base.specs.Access.{first_refusal}
use Rattle.jb_base.specs.declared.area.Action.TheVariants.{List as Listing, Kill as Killing}
use Rattle.jb_base.specs.declared.area.AreaRules.{AreaRules}
use Rattle.jb_base.specs.declared.user.User.{User}
use Rattle.jb_model.specs.Answered.{Answered, unless_denied, with_message}
use Rattle.jb_state.specs.Live.{counted, with_slot}
use Rattle.jb_state.specs.Message.{envelope_of}
use Rattle.jb_state.specs.State.{AreaState, killed_message}
use Rattle.jb_state.specs.Visible.{visible_at}
use Rattle.jb_model.specs.declared.reply.Reply.TheVariants.{Killed}

-- the number names a killed message; no other slot changes, and no link
abbrev pub kill_done : AreaState → ℕ → Answered
kill_done state number = record { reply = Killed number; state = counted (with_slot state number killed_message) }

-- a kill of the message that the number names, by its sender, its receiver or the sysop
abbrev pub kill_step : AreaRules → AreaState → User → ℕ → Answered
kill_step rules state user number =
    unless_denied state (first_refusal user rules Listing None)
    (with_message state number (visible_at rules user state number)
    (λ message. unless_denied state (first_refusal user rules Killing (Some (envelope_of message))) (kill_done state number)))
