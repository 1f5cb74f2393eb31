-- The menus: what is done in each state with what is given, and the state after it. Each state has a row of its own.
use Rattle.std.specs.Prelude.{◌≡◌, ℕ, Option, Some, None}
use Rattle.jb_conf.specs.declared.board.Board.{Board}
use Rattle.jb_menu.specs.Answers.{acting_row, listing_row, marking_row, reading_row, seeking_row}
use Rattle.jb_menu.specs.Areas.{area_row}
use Rattle.jb_menu.specs.Editing.{edit_subject_row, peeking_row}
use Rattle.jb_menu.specs.LogIn.{name_row, password_row}
use Rattle.jb_menu.specs.Pages.{paging_turn, user_at}
use Rattle.jb_menu.specs.Says.{passed_over}
use Rattle.jb_menu.specs.Top.{counting_row, entering_row, top_row}
use Rattle.jb_menu.specs.Writing.{private_row, subject_row, text_row, to_row}
use Rattle.jb_menu.specs.declared.given.Given.{Given}
use Rattle.jb_menu.specs.declared.moves.Move.{Move}
use Rattle.jb_menu.specs.declared.moves.Moved.{Moved}
use Rattle.jb_menu.specs.declared.state.MenuStage.{MenuStage}
use Rattle.jb_menu.specs.declared.state.MenuStage.TheVariants.{Acting, EditSubject, Listing, Marking, Peeking, Private, Prompt, Reading, Seeking, Subject, Text, To}
use Rattle.jb_menu.specs.declared.state.State.{State}
use Rattle.jb_menu.specs.declared.state.State.TheVariants.{Area, Counting, Ended, Entering, Name, Paging, Password, Top}
use Rattle.jb_menu.specs.declared.state.Visit.{Visit}

-- in an area
unfoldable pub stage_turn : Board → Visit → MenuStage → Given → Moved
stage_turn board visit Prompt given = area_row board visit given
stage_turn board visit Listing given = listing_row board visit given
stage_turn board visit Seeking given = seeking_row board visit given
stage_turn board visit (Reading marks) given = reading_row board visit marks given
stage_turn board visit (Marking letter) given = marking_row board visit letter given
stage_turn board visit Peeking given = peeking_row board visit given
stage_turn board visit Acting given = acting_row board visit given
stage_turn board visit To given = to_row board visit given
stage_turn board visit (Subject to) given = subject_row visit to given
stage_turn board visit (Private to subject) given = private_row visit to subject given
stage_turn board visit (EditSubject number subject) given = edit_subject_row visit number subject given
stage_turn board visit (Text draft text) given = text_row board visit draft text given

-- everywhere
unfoldable pub menu_turn : Board → State → Given → Moved
menu_turn board (Name refused) given = name_row refused given
menu_turn board (Password refused name) given = password_row board refused name given
menu_turn board (Top user) given = top_row board user given
menu_turn board (Counting user area lines) given = counting_row board user area lines given
menu_turn board (Entering user area) given = entering_row board user area given
menu_turn board (Area visit stage) given = stage_turn board visit stage given
menu_turn board (Paging place stage) given = paging_turn board place stage given
menu_turn board Ended given = passed_over Ended

-- given this, the menu does this next, and is then in this state
abbrev pub MenuStep : Board → State → Given → Move → State → Type 0
MenuStep board before given step after = menu_turn board before given ≡ record { step = step; state = after }

-- the place of the user on the board, from the log-in to the end
abbrev pub user_in : State → Option ℕ
user_in (Name refused) = None
user_in (Password refused name) = None
user_in (Top user) = Some user
user_in (Counting user area lines) = Some user
user_in (Entering user area) = Some user
user_in (Area visit stage) = Some visit.user
user_in (Paging place stage) = Some (user_at place)
user_in Ended = None
