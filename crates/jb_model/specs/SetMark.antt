-- A user's mark is set.
use Rattle.std.specs.Prelude.{ℕ, max, nat_le, ◌&&◌, is_none, length, Option, Some, None, if◌then◌else◌}
use Rattle.jb_base.specs.Access.{first_refusal}
use Rattle.jb_bytes.specs.Crc.{jam_crc_of}
use Rattle.jb_base.specs.declared.area.Action.TheVariants.{List as Listing}
use Rattle.jb_base.specs.declared.area.AreaRules.{AreaRules}
use Rattle.jb_limits.specs.declared.limits.TheConstants.{MOST_MARKS}
use Rattle.jb_base.specs.declared.user.User.{User}
use Rattle.jb_model.specs.Answered.{Answered, unless_denied, unless_refused}
use Rattle.jb_state.specs.Marks.{with_mark}
use Rattle.jb_state.specs.State.{AreaState, next_number}
use Rattle.jb_state.specs.Visible.{highest_read_by, mark_of_user}
use Rattle.jb_state.specs.declared.mark.Mark.{Mark}
use Rattle.jb_model.specs.declared.reply.Reply.{Reply}
use Rattle.jb_model.specs.declared.reply.Reply.TheVariants.{Marked, MarksFull, NoMessage}

-- the number is not below the next one, or the user has no mark and there is no room for one
abbrev pub mark_refusal : AreaState → User → ℕ → Option Reply
mark_refusal state user number =
    if nat_le (next_number state) number then Some (NoMessage number)
    else if is_none (mark_of_user user state) && nat_le MOST_MARKS (length state.marks) then Some (MarksFull MOST_MARKS)
    else None

-- the user's mark at this number; the highest number that it has had never falls
abbrev pub mark_at : AreaState → User → ℕ → Mark
mark_at state user number =
    record { user_crc = jam_crc_of user.name; user_id = user.id; last = number; high = max (highest_read_by user state) number }

-- the mark takes the place of the user's, or goes last
abbrev pub mark_done : AreaState → Mark → Answered
mark_done state mark = record { reply = Marked mark.last mark.high; state = record state { marks = with_mark mark state.marks } }

-- the user's mark is set to this number
abbrev pub set_mark_step : AreaRules → AreaState → User → ℕ → Answered
set_mark_step rules state user number =
    unless_denied state (first_refusal user rules Listing None)
    (unless_refused state (mark_refusal state user number) (mark_done state (mark_at state user number)))
