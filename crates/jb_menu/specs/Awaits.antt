-- What a menu waits for, and which boards its states are of.
use Rattle.std.specs.Prelude.{◌≡◌, ◌<◌, ◌≤◌, ℕ, Bool, true, false, IsTrue, length, Option, Some, None}
use Rattle.jb_conf.specs.declared.board.Board.{Board}
use Rattle.jb_state.specs.declared.look.Answer.TheVariants as answer
use Rattle.jb_state.specs.declared.look.Question.{Question}
use Rattle.jb_state.specs.declared.look.Question.TheVariants as question
use Rattle.jb_menu.specs.Pages.{HasAreaAt, area_at, user_at}
use Rattle.jb_menu.specs.declared.given.Given.{Given}
use Rattle.jb_menu.specs.declared.given.Given.TheVariants as given
use Rattle.jb_menu.specs.declared.moves.Move.{Move}
use Rattle.jb_menu.specs.declared.moves.Move.TheVariants as move
use Rattle.jb_menu.specs.declared.state.At.{At}
use Rattle.jb_menu.specs.declared.state.MenuStage.{MenuStage}
use Rattle.jb_menu.specs.declared.state.MenuStage.TheVariants.{Acting, EditSubject, Listing, Marking, Peeking, Private, Prompt, Reading, Seeking, Subject, Text, To}
use Rattle.jb_menu.specs.declared.state.PageStage.{PageStage}
use Rattle.jb_menu.specs.declared.state.PageStage.TheVariants.{Sending, Taking, Writing}
use Rattle.jb_menu.specs.declared.state.State.{State}
use Rattle.jb_menu.specs.declared.state.State.TheVariants.{Area, Counting, Ended, Entering, Name, Paging, Password, Top}

-- the kinds of what a menu is given
pub data Wanted : Type 0 where
  a_line : Wanted
  a_reply : Wanted
  a_list : Wanted
  figures : Wanted
  a_count : Wanted
  a_sent : Wanted
  a_page : Wanted
  nothing : Wanted

-- what a question asks for
abbrev pub wanted_of : Question → Wanted
wanted_of question.Figures = figures
wanted_of _ = a_list

-- what a move asks for; behind a text that is a line
abbrev pub wanted_by : Move → Wanted
wanted_by (move.Say text mask) = a_line
wanted_by (move.Ask area command) = a_reply
wanted_by (move.Look area question) = wanted_of question
wanted_by (move.Count area) = a_count
wanted_by (move.Send to text) = a_sent
wanted_by move.Take = a_page
wanted_by (move.End text end) = nothing

-- what a menu waits for in an area
abbrev pub awaited_at : MenuStage → Wanted
awaited_at Prompt = a_line
awaited_at Listing = a_list
awaited_at Seeking = a_list
awaited_at (Reading marks) = a_reply
awaited_at (Marking letter) = a_reply
awaited_at Peeking = a_reply
awaited_at Acting = a_reply
awaited_at To = a_line
awaited_at (Subject to) = a_line
awaited_at (Private to subject) = a_line
awaited_at (EditSubject number subject) = a_line
awaited_at (Text draft text) = a_line

-- what it waits for where pages are sent or taken
abbrev pub awaited_of_pages : PageStage → Wanted
awaited_of_pages (Writing to) = a_line
awaited_of_pages Sending = a_sent
awaited_of_pages (Taking lines left) = a_page

-- what a menu waits for
unfoldable pub awaited_in : State → Wanted
awaited_in (Name refused) = a_line
awaited_in (Password refused name) = a_line
awaited_in (Top user) = a_line
awaited_in (Counting user area lines) = a_count
awaited_in (Entering user area) = figures
awaited_in (Area visit stage) = awaited_at stage
awaited_in (Paging place stage) = awaited_of_pages stage
awaited_in Ended = nothing

-- whether this is what is wanted, or a fault in the place of an answer
abbrev pub is_wanted : Wanted → Given → Bool
is_wanted a_line (given.Line typed) = true
is_wanted a_reply (given.Reply reply) = true
is_wanted a_reply (given.Fault fault) = true
is_wanted a_list (given.Answer (answer.Summaries messages)) = true
is_wanted a_list (given.Fault fault) = true
is_wanted figures (given.Answer (answer.Figures numbers)) = true
is_wanted figures (given.Fault fault) = true
is_wanted a_count (given.Count unread) = true
is_wanted a_count (given.Fault fault) = true
is_wanted a_sent (given.Sent result) = true
is_wanted a_page (given.Page page) = true
is_wanted _ _ = false

-- the menu waits for this
abbrev pub Awaits : State → Given → Type 0
Awaits state given = IsTrue (is_wanted (awaited_in state) given)

-- the board has the user, and the area where the user is in one
abbrev pub IsAt : Board → At → Type 0
IsAt board place = (user_at place < length board.users) × HasAreaAt board place

-- the board has the node to which a page is written
abbrev pub IsPageStage : Board → PageStage → Type 0
IsPageStage board (Writing to) = (0 < to) × (to ≤ board.nodes)
IsPageStage board _ = Unit {0}

-- the board has the user and the area of the state, and the node of its page
unfoldable pub IsFor : Board → State → Type 0
IsFor board (Name refused) = Unit
IsFor board (Password refused name) = Unit
IsFor board (Top user) = user < length board.users
IsFor board (Counting user area lines) = (user < length board.users) × (area < length board.areas)
IsFor board (Entering user area) = (user < length board.users) × (area < length board.areas)
IsFor board (Area visit stage) = (visit.user < length board.users) × (visit.area < length board.areas)
IsFor board (Paging place stage) = IsAt board place × IsPageStage board stage
IsFor board Ended = Unit

-- the area where the menu is, where it is in one
abbrev pub area_in : State → Option ℕ
area_in (Counting user area lines) = Some area
area_in (Entering user area) = Some area
area_in (Area visit stage) = Some visit.area
area_in (Paging place stage) = area_at place
area_in _ = None

-- the area that a move asks, and without one where the menu is
abbrev pub area_asked : Move → State → Option ℕ
area_asked (move.Ask area command) state = Some area
area_asked (move.Look area question) state = Some area
area_asked (move.Count area) state = Some area
area_asked _ state = area_in state

-- a page goes to one of the board's nodes
abbrev pub Reaches : Board → Move → Type 0
Reaches board (move.Send to text) = (0 < to) × (to ≤ board.nodes)
Reaches board _ = Unit {0}

-- no area is asked but the one where the menu is then
abbrev pub AsksHere : Move → State → Type 0
AsksHere step state = area_asked step state ≡ area_in state
