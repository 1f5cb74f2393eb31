-- How an index of replies is held.
use Rattle.std.specs.Prelude.{◌≤◌}
use Rattle.jb_link.specs.declared.replies.Replies.TheInside.{Inside}
use Rattle.jb_link.specs.Index.{ReplyIndex}

-- the lists and the room that are held so
abbrev pub reply_index_of : Inside → ReplyIndex
reply_index_of held = record { ids = held.ids.items; answers = held.answers.items; kept = held.kept.items; room = held.room }

-- each list has the room
pub record HasListRoom (held : Inside) : Type 0 where
  pub ids : held.room ≤ held.ids.room
  pub answers : held.room ≤ held.answers.room
  pub kept : held.room ≤ held.kept.room
