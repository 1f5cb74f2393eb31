-- A conversation of a news reader as it is held, but for what was handed out of it.
use Rattle.std.specs.Prelude.{◌≡◌, ℕ, ◌+◌, ◌-◌, ◌<◌, ◌≤◌, ◌==◌, min, ◌&&◌, List, length, Option, Some, None, IfSome, if◌then◌else◌}
use Rattle.std.specs.Option.{is_some}
use Rattle.jb_limits.specs.declared.limits.TheConstants.{MOST_SESSION_BYTES}
use Rattle.jb_base.specs.declared.user.User.{User}
use Rattle.jb_conf.specs.declared.board.Board.{Board}
use Rattle.jb_menu.specs.declared.given.Given.{Given}
use Rattle.jb_news.specs.Reading.{HasRead}
use Rattle.jb_news.specs.declared.numbers.NumberRange.{NumberRange}
use Rattle.jb_speech.specs.Conversations.{HasSaid, Held}
use Rattle.jb_speech.specs.Posture.{Posture}
use Rattle.jb_speech.specs.declared.request.Request.{Request}
use Rattle.jb_speech.specs.declared.request.Request.TheVariants.{Area, Clock}
use Rattle.jb_speech.specs.declared.speaker.TheConstants.{MOST_PIECE_BYTES}
use Rattle.jb_news_talk.specs.Conversations.{end_of, is_going, is_waiting, manner_of}
use Rattle.jb_news_talk.specs.Newsgroups.{IsGroupAt, news_user}
use Rattle.jb_news_talk.specs.declared.place.NewsPlace.{NewsPlace}
use Rattle.jb_news_talk.specs.declared.place.NewsStage.{NewsStage}
use Rattle.jb_news_talk.specs.declared.place.NewsStage.TheVariants as stage

-- as it is held: what is kept of a line, and as whom articles are read
pub record NewsTalking : Type 0 where
  pub held : Held (List ℕ) NewsPlace
  pub user : User

-- over these bytes and answers, these bytes and requests were handed out, and the rest stands ready: whatever answers come later
abbrev pub NewsHasTalked : Board → NewsTalking → List ℕ → List Given → List ℕ → List Request → Type 0
NewsHasTalked board talk = HasSaid (manner_of board) HasRead talk.held

-- the area whose answer is awaited
abbrev pub area_awaited : NewsStage → Option ℕ
area_awaited (stage.Listing wildmat area text) = Some area
area_awaited (stage.Choosing area range) = Some area
area_awaited (stage.Entering area range figures) = Some area
area_awaited (stage.Telling told area next last head) = Some area
area_awaited (stage.Following area) = Some area
area_awaited (stage.Seeking area found top) = Some area
area_awaited (stage.Showing part area number how) = Some area
area_awaited _ = None

-- the numbers between which an article is sought are in order
abbrev pub IsInOrder : NewsStage → Type 0
IsInOrder (stage.Seeking area (Some found) top) = found ≤ top
IsInOrder _ = Unit

-- the area of a stage is a group of the board
pub record IsStageOn (board : Board) (at : NewsStage) : Type 0 where
  pub area : IfSome (area_awaited at) (IsGroupAt board)
  pub order : IsInOrder at

-- the areas of a place are groups of the board
pub record IsPlaceOn (board : Board) (place : NewsPlace) : Type 0 where
  pub group : IfSome place.chosen.group (IsGroupAt board)
  pub stage : IsStageOn board place.stage

-- an area that is asked is the board's, and no page is sent or taken
abbrev pub IsRequestOn : Board → Request → Type 0
IsRequestOn board (Area asked) = asked.area < length board.areas
IsRequestOn board Clock = Unit
IsRequestOn board _ = ⊥

-- the conversation is one on this board, and waits for an answer exactly where it hands out a request
pub record NewsHands (board : Board) (talk : NewsTalking) (request : Option Request) : Type 0 where
  pub user : talk.user ≡ news_user board
  pub place : IsPlaceOn board talk.held.place
  pub waits : is_waiting talk.held.place.stage ≡ is_some request
  pub of : IfSome request (IsRequestOn board)

-- from the first number of a range to the last
abbrev pub spread : Option NumberRange → ℕ
spread None = 0
spread (Some range) = range.last - range.first

-- how many requests may follow at a stage without another line, at most
abbrev pub most_asked : Board → NewsStage → ℕ
most_asked board (stage.Listing wildmat area text) = length board.areas - area
most_asked board (stage.Choosing area range) = 3 + spread range
most_asked board (stage.Entering area range figures) = 2 + spread range
most_asked board (stage.Telling told area next last head) = 1 + (last - next)
most_asked board (stage.Following area) = 1
most_asked board (stage.Seeking area None top) = 1 + top
most_asked board (stage.Seeking area (Some found) top) = top - found
most_asked board (stage.Showing part area number how) = 1
most_asked board stage.Dating = 1
most_asked board _ = 0

-- the most bytes that are wanted now: none before all that is owed is sent, none past the limit of a session
abbrev pub most_wanted : Held (List ℕ) NewsPlace → ℕ
most_wanted talk =
    if is_going talk.place.stage && (length talk.owed == 0) then min MOST_PIECE_BYTES (MOST_SESSION_BYTES - talk.taken) else 0

-- as whoever speaks with it sees it
abbrev pub posture_of : NewsTalking → Posture
posture_of talk = record {
  taken = talk.held.taken;
  owed = talk.held.owed;
  wanted = most_wanted talk.held;
  most_asked = λ board. most_asked board talk.held.place.stage;
  end = end_of talk.held.place.stage talk.held.taken;
}
