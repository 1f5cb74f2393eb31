-- A talk as it is held: the conversation so far, but for what was handed out of it.
use Rattle.std.specs.Prelude.{◌≡◌, ℕ, ◌-◌, ◌<◌, ◌≤◌, ◌==◌, true, min, ◌&&◌, List, length, Option, option_map, Some, IfSome, if◌then◌else◌}
use Rattle.std.specs.List.{slice_get}
use Rattle.std.specs.Option.{is_some}
use Rattle.jb_limits.specs.declared.limits.TheConstants.{MOST_SESSION_BYTES}
use Rattle.jb_conf.specs.declared.board.Board.{Board}
use Rattle.jb_telnet.specs.Reading.{HasRead}
use Rattle.jb_menu.specs.declared.given.Given.{Given}
use Rattle.jb_menu.specs.Awaits.{IsFor}
use Rattle.jb_menu.specs.Menu.{user_in}
use Rattle.jb_menu.specs.declared.state.State.{State}
use Rattle.jb_base.specs.declared.user.User.{User}
use Rattle.jb_speech.specs.Conversations.{HasSaid, Held}
use Rattle.jb_speech.specs.Posture.{Posture}
use Rattle.jb_speech.specs.declared.request.AreaRequest.{AreaRequest}
use Rattle.jb_speech.specs.declared.request.Request.{Request}
use Rattle.jb_speech.specs.declared.request.Request.TheVariants.{Area, Clock, Send, Take}
use Rattle.jb_speech.specs.declared.speaker.TheConstants.{MOST_PIECE_BYTES}
use Rattle.jb_talk.specs.Asking.{most_asked}
use Rattle.jb_talk.specs.Turns.{Place}
use Rattle.jb_talk.specs.Conversations.{end_of, is_going, is_waiting, manner_of}

-- a talk as it is held: what is kept is the unit that the decoder is in
abbrev pub Talking : Type 0
Talking = Held (List ℕ) Place

-- over these bytes and answers, these bytes and requests were handed out, and the rest stands ready: whatever answers come later
abbrev pub HasTalked : Board → Talking → List ℕ → List Given → List ℕ → List Request → Type 0
HasTalked board = HasSaid (manner_of board) HasRead

-- the user is the one who is logged in, and the board has the area
pub record IsOfCaller (board : Board) (menu : State) (request : AreaRequest) : Type 0 where
  pub logged_in : user_in menu ≡ Some request.user
  pub user : request.user < length board.users
  pub area : request.area < length board.areas

-- what may be asked: an area for the user who is logged in, and while one is, that a page is sent to a node of the board or taken
abbrev pub MayAsk : Board → State → Request → Type 0
MayAsk board menu (Area request) = IsOfCaller board menu request
MayAsk board menu Clock = ⊥
MayAsk board menu (Send to text) = (is_some (user_in menu) ≡ true) × (0 < to) × (to ≤ board.nodes)
MayAsk board menu Take = is_some (user_in menu) ≡ true

-- the talk is one on this board, and waits for an answer exactly where it hands out a request
pub record Hands (board : Board) (talk : Talking) (request : Option Request) : Type 0 where
  pub menu : IsFor board talk.place.menu
  pub waits : is_waiting talk.place.standing ≡ is_some request
  pub of : IfSome request (MayAsk board talk.place.menu)

-- the most bytes that are wanted now: none before all that is owed is sent, none past the limit of a session
abbrev pub most_wanted : Talking → ℕ
most_wanted talk =
    if is_going talk.place.standing && (length talk.owed == 0) then min MOST_PIECE_BYTES (MOST_SESSION_BYTES - talk.taken) else 0

-- a talk, as whoever speaks with it sees it
abbrev pub posture_of : Talking → Posture
posture_of talk = record {
  taken = talk.taken;
  owed = talk.owed;
  wanted = most_wanted talk;
  most_asked = λ board. most_asked board talk.place.menu;
  end = end_of talk.place.standing talk.taken;
}

-- for whom an area is asked, where the board has that user
abbrev pub asker_of : Board → AreaRequest → Option User
asker_of board request = option_map (λ one. one.user) (slice_get board.users request.user)
