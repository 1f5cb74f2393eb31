-- A user's mark is set.
use Rattle.std.specs.Prelude.{ℕ, ◌+◌, max, nat_le, ◌&&◌, is_none, length, Option, Some, None, option_map, unwrap_or, if◌then◌else◌}
use Rattle.jb_bytes.specs.Crc.{jam_crc_of}
use Rattle.jb_limits.specs.declared.limits.TheConstants.{MOST_MARKS}
use Rattle.jb_base.specs.declared.user.User.{User}
use Rattle.jb_state.specs.Marks.{mark_of}
use Rattle.jb_state.specs.declared.loaded.Loaded.{Loaded}
use Rattle.jb_state.specs.declared.mark.Mark.{Mark}
use Rattle.jb_model.specs.declared.reply.Reply.{Reply}
use Rattle.jb_model.specs.declared.reply.Reply.TheVariants.{MarksFull, NoMessage}

-- the mark that the user has in the area, where there is one
abbrev pub present_mark : Loaded → User → Option Mark
present_mark loaded user = mark_of (jam_crc_of user.name) user.id loaded.marks

-- why the mark of a user who has this one is not set to the number
abbrev pub set_refusal : Loaded → Option Mark → ℕ → Option Reply
set_refusal loaded present number =
    if nat_le (loaded.base + length loaded.slots) number then Some (NoMessage number)
    else if is_none present && nat_le MOST_MARKS (length loaded.marks) then Some (MarksFull MOST_MARKS)
    else None

-- the mark at this number, of a user who has this one
abbrev pub raised : Option Mark → User → ℕ → Mark
raised present user number =
    record { user_crc = jam_crc_of user.name; user_id = user.id; last = number; high = max (unwrap_or (option_map (λ mark. mark.high) present) 0) number }
