-- How an area is kept in memory.
use Rattle.std.specs.Prelude.{◌≡◌, ◌+◌, ◌≤◌, length}
use Rattle.std.specs.Int.{IsPowerOfTwo}
use Rattle.jb_limits.specs.declared.limits.TheConstants.{MOST_MARKS}
use Rattle.jb_marks.specs.Order.{IsOrdered}
use Rattle.jb_link.specs.Index.{IsIndexOf}
use Rattle.jb_state.specs.Change.{live_messages}
use Rattle.jb_held.specs.declared.held.HeldArea.TheInside.{Inside}

-- the count of live messages and the indexes of marks and of replies are those of what is loaded; there is room for all marks, and in
-- the index of replies for as many messages as the next power of two
pub record IsKeptWhole (held : Inside) : Type 0 where
  pub live : held.live ≡ live_messages held.loaded
  pub marks : IsOrdered held.loaded.marks held.mark_index.order
  pub mark_room : MOST_MARKS ≤ held.mark_index.room
  pub replies : IsIndexOf held.replies held.loaded
  pub reply_room : IsPowerOfTwo (length held.loaded.slots + held.replies.room)
