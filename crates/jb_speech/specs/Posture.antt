-- A speaker, as whoever it speaks to sees it.
use Rattle.std.specs.Prelude.{◌≡◌, ℕ, Bool, true, false, List, []}
use Rattle.jb_conf.specs.declared.board.Board.{Board}
use Rattle.jb_menu.specs.declared.given.Given.{Given}
use Rattle.jb_menu.specs.declared.given.Given.TheVariants.{Line}
use Rattle.jb_speech.specs.declared.end.TalkEnd.{TalkEnd}
use Rattle.jb_speech.specs.declared.end.TalkEnd.TheVariants.{OutOfMemory}

-- how many bytes it has taken, what is to be sent, how many bytes it wants now, how many requests may follow on this board without more
-- bytes, and how it ends where no more bytes and answers come
pub record Posture : Type 0 where
  pub taken : ℕ
  pub owed : List ℕ
  pub wanted : ℕ
  pub most_asked : Board → ℕ
  pub end : TalkEnd

-- memory was wanting: nothing is owed, and nothing more is wanted
pub record HasFailed (speaker : Posture) : Type 0 where
  pub none : speaker.owed ≡ []
  pub off : speaker.wanted ≡ 0
  pub ends : speaker.end ≡ OutOfMemory

-- it is a line and no answer
abbrev pub is_line : Given → Bool
is_line (Line typed) = true
is_line _ = false
