-- The index of an area's replies.
use Rattle.std.specs.Prelude.{◌≡◌, ℕ, List}
use Rattle.jb_bytes.specs.declared.subfield.TheConstants.{MSGID, REPLYID}
use Rattle.jb_state.specs.declared.loaded.Loaded.{Loaded}
use Rattle.jb_link.specs.IdLists.{IsIdList}
use Rattle.jb_link.specs.Kept.{IsKeptList}

-- numbers of messages with a MSGID and with a REPLYID, pairs of a kept ReplyTo and the number that keeps it, and for how many
-- messages more there is room
pub record ReplyIndex : Type 0 where
  pub ids : List ℕ
  pub answers : List ℕ
  pub kept : List (ℕ × ℕ)
  pub room : ℕ

-- each list has the live messages of its kind, and is in its order
pub record IsIndexOf (replies : ReplyIndex) (loaded : Loaded) : Type 0 where
  pub ids : IsIdList MSGID loaded replies.ids
  pub answers : IsIdList REPLYID loaded replies.answers
  pub kept : IsKeptList loaded replies.kept

-- the lists are the same
pub record HasSameLists (old new : ReplyIndex) : Type 0 where
  pub ids : new.ids ≡ old.ids
  pub answers : new.answers ≡ old.answers
  pub kept : new.kept ≡ old.kept
