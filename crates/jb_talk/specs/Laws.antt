-- That requests are made only for the user who is logged in, and only while there is one.
use Rattle.std.specs.Prelude.{◌≡◌, true, ℕ, List, [], ◌∷◌, ◌++◌, None}
use Rattle.jb_conf.specs.declared.board.Board.{Board}
use Rattle.jb_telnet.specs.declared.event.Event.{Event}
use Rattle.jb_menu.specs.declared.given.Given.{Given}
use Rattle.jb_menu.specs.Menu.{user_in}
use Rattle.jb_speech.specs.Conversations.{IsAsked, conversation}
use Rattle.jb_speech.specs.Laws.{IsFront}
use Rattle.jb_speech.specs.declared.end.TalkEnd.{TalkEnd}
use Rattle.jb_speech.specs.declared.request.Request.{Request}
use Rattle.jb_talk.specs.Conversations.{Talks, is_waiting, manner_of}
use Rattle.jb_talk.specs.Talking.{MayAsk}
use Rattle.jb_talk.specs.Turns.{Place}

-- the answer to the request is waited for, and it may be asked there
pub record IsWaitedFor (board : Board) (place : Place) (request : Request) : Type 0 where
  pub waits : is_waiting place.standing ≡ true
  pub of : MayAsk board place.menu request

-- each request of a conversation may be asked where it is asked: an area for the user who is logged in there, and pages while one is
abbrev pub CallersAsk : Type 0
CallersAsk = (board : Board) (bytes out : List ℕ) (answers : List Given) (asked before : List Request) (request : Request) (end : TalkEnd)
    (talked : Talks board bytes answers out asked end) → IsFront (before ++ request ∷ []) asked
    → IsAsked (manner_of board) talked.events answers before request (IsWaitedFor board)

-- where nobody is logged in over any beginning of the bytes and answers, nothing is asked
abbrev pub NobodyAsks : Type 0
NobodyAsks = (board : Board) (bytes out : List ℕ) (answers : List Given) (asked : List Request) (end : TalkEnd) (talked : Talks board bytes answers out asked end)
    → ((front : List Event) (given : List Given) → IsFront front talked.events → IsFront given answers
    → user_in (conversation (manner_of board) given front).course.place.menu ≡ None) → asked ≡ []
