-- The rows of pages, which are the same outside of the areas and at the prompt of one.
use Rattle.std.specs.Prelude.{ℕ, zero, suc, ◌<◌, length, nat_le, nat_lt, ◌&&◌, List, [], ◌∷◌, ◌++◌, take, Option, Some, None, Result, Ok, Err, if◌then◌else◌}
use Rattle.jb_conf.specs.declared.board.Board.{Board}
use Rattle.jb_page.specs.declared.page.PageError.{PageError}
use Rattle.jb_page.specs.declared.page.PageError.TheVariants.{Full, Spent}
use Rattle.jb_state.specs.Short.{kept_of, short_of}
use Rattle.jb_text.specs.declared.standing.Fixed.TheVariants.{AskPage, NoPages, NoSuchNode, PageSent, PagesSpent}
use Rattle.jb_text.specs.Fixed.{fixed_text}
use Rattle.jb_text.specs.Letter.{line}
use Rattle.jb_text.specs.Lines.{node_full_text, page_line_text}
use Rattle.jb_menu.specs.Says.{passed_over, say, to_area, to_top}
use Rattle.jb_menu.specs.declared.given.Given.{Given}
use Rattle.jb_menu.specs.declared.given.Given.TheVariants.{Line, Page, Sent}
use Rattle.jb_menu.specs.declared.moves.Move.TheVariants.{Send, Take}
use Rattle.jb_menu.specs.declared.moves.Moved.{Moved}
use Rattle.jb_menu.specs.declared.state.At.{At}
use Rattle.jb_menu.specs.declared.state.At.TheVariants as at
use Rattle.jb_menu.specs.declared.state.PageStage.{PageStage}
use Rattle.jb_menu.specs.declared.state.PageStage.TheVariants.{Sending, Taking, Writing}
use Rattle.jb_menu.specs.declared.state.State.TheVariants.{Paging}

-- the user who is there
abbrev pub user_at : At → ℕ
user_at (at.Top user) = user
user_at (at.Area visit) = visit.user

-- the area where the user is, where the user is in one
abbrev pub area_at : At → Option ℕ
area_at (at.Top user) = None
area_at (at.Area visit) = Some visit.area

-- the board has that area
abbrev pub HasAreaAt : Board → At → Type 0
HasAreaAt board (at.Top user) = Unit {0}
HasAreaAt board (at.Area visit) = visit.area < length board.areas

-- these lines, and the prompt where the user is
abbrev pub to_prompt : Board → At → List ℕ → Moved
to_prompt board (at.Top user) lines = to_top user lines
to_prompt board (at.Area visit) lines = to_area board visit lines

-- S and a number: the text of a page to that node, where the board has it
abbrev pub write_row : Board → At → ℕ → Moved
write_row board place to =
    if nat_lt 0 to && nat_le to board.nodes then say (fixed_text AskPage) (Paging place (Writing to))
    else to_prompt board place (line (fixed_text NoSuchNode))

-- Writing: the first 72 bytes of the line are sent
abbrev pub writing_row : At → ℕ → Given → Moved
writing_row place to (Line typed) = record { step = Send to (short_of 72 (take 72 typed)); state = Paging place Sending }
writing_row place to _ = passed_over (Paging place (Writing to))

-- what is said of a send
abbrev pub sent_text : Result (Unit {0}) PageError → List ℕ
sent_text (Ok _) = fixed_text PageSent
sent_text (Err (Full to)) = node_full_text to
sent_text (Err (Spent sent)) = fixed_text PagesSpent

-- Sending: what came of it
abbrev pub sending_row : Board → At → Given → Moved
sending_row board place (Sent result) = to_prompt board place (line (sent_text result))
sending_row board place _ = passed_over (Paging place Sending)

-- the next page is taken, behind these lines, and so many more at most
abbrev pub take_row : At → List ℕ → ℕ → Moved
take_row place lines left = record { step = Take; state = Paging place (Taking lines left) }

-- G: 64 pages are taken at most
abbrev pub taking_begins : At → Moved
taking_begins place = take_row place [] 63

-- the next page is taken, where more may be, and else the lines are said
abbrev pub taken_row : Board → At → List ℕ → ℕ → Moved
taken_row board place lines zero = to_prompt board place lines
taken_row board place lines (suc left) = take_row place lines left

-- the lines of the pages that were taken; where there is none, that is said
abbrev pub pages_lines : List ℕ → List ℕ
pages_lines [] = line (fixed_text NoPages)
pages_lines (first ∷ rest) = first ∷ rest

-- Taking: a line for each page, until there is no other
abbrev pub taking_row : Board → At → List ℕ → ℕ → Given → Moved
taking_row board place lines left (Page (Some page)) = taken_row board place (lines ++ line (page_line_text page.from (kept_of 72 page.text))) left
taking_row board place lines left (Page None) = to_prompt board place (pages_lines lines)
taking_row board place lines left _ = passed_over (Paging place (Taking lines left))

-- where pages are sent or taken
abbrev pub paging_turn : Board → At → PageStage → Given → Moved
paging_turn board place (Writing to) given = writing_row place to given
paging_turn board place Sending given = sending_row board place given
paging_turn board place (Taking lines left) given = taking_row board place lines left given
