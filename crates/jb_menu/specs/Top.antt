-- The rows outside of the areas.
use Rattle.std.specs.Prelude.{ℕ, ◌+◌, List, [], ◌++◌, Option, Some, None}
use Rattle.jb_conf.specs.declared.board.Board.{Board}
use Rattle.jb_state.specs.declared.look.Answer.TheVariants as answer
use Rattle.jb_state.specs.declared.look.Question.TheVariants as question
use Rattle.jb_text.specs.declared.standing.Fixed.TheVariants.{NoSuchArea, UnknownCommand}
use Rattle.jb_text.specs.Faults.{fault_text}
use Rattle.jb_text.specs.Fixed.{fixed_text}
use Rattle.jb_text.specs.Letter.{line}
use Rattle.jb_text.specs.Lines.{figures_text}
use Rattle.jb_menu.specs.Boards.{area_named, counted_text, next_area}
use Rattle.jb_menu.specs.CommandLines.{command_of}
use Rattle.jb_menu.specs.Pages.{taking_begins, write_row}
use Rattle.jb_menu.specs.Says.{passed_over, quit, to_area, to_top}
use Rattle.jb_menu.specs.declared.command_line.CommandLetter.TheVariants.{A, G, Q, S}
use Rattle.jb_menu.specs.declared.command_line.CommandLine.{CommandLine}
use Rattle.jb_menu.specs.declared.command_line.CommandLine.TheVariants.{Empty, Letter, LetterNumber, Number}
use Rattle.jb_menu.specs.declared.given.Given.{Given}
use Rattle.jb_menu.specs.declared.given.Given.TheVariants.{Answer, Fault, Line}
use Rattle.jb_menu.specs.declared.given.Given.TheVariants as given
use Rattle.jb_menu.specs.declared.moves.Move.TheVariants as move
use Rattle.jb_menu.specs.declared.moves.Moved.{Moved}
use Rattle.jb_menu.specs.declared.state.At.TheVariants as at
use Rattle.jb_menu.specs.declared.state.State.TheVariants.{Counting, Entering, Top}

-- the next area is counted, behind these lines; behind the last one they are said
abbrev pub count_row : ℕ → List ℕ → Option ℕ → Moved
count_row user lines (Some area) = record { step = move.Count area; state = Counting user area lines }
count_row user lines None = to_top user lines

-- the area is entered, once its figures are known
abbrev pub enter_row : ℕ → Option ℕ → Moved
enter_row user (Some area) = record { step = move.Look area question.Figures; state = Entering user area }
enter_row user None = to_top user (line (fixed_text NoSuchArea))

-- the commands
abbrev pub top_command : Board → ℕ → CommandLine → Moved
top_command board user Empty = to_top user []
top_command board user (Letter A) = count_row user [] (next_area board user 0)
top_command board user (Letter G) = taking_begins (at.Top user)
top_command board user (Letter Q) = quit
top_command board user (LetterNumber S number) = write_row board (at.Top user) number
top_command board user (Number number) = enter_row user (area_named board user number)
top_command board user _ = to_top user (line (fixed_text UnknownCommand))

-- Top: a command
abbrev pub top_row : Board → ℕ → Given → Moved
top_row board user (Line typed) = top_command board user (command_of typed)
top_row board user _ = passed_over (Top user)

-- A: one line for each area; a fault is said behind the lines before it, and no further area is counted
abbrev pub counting_row : Board → ℕ → ℕ → List ℕ → Given → Moved
counting_row board user area lines (given.Count unread) =
    count_row user (lines ++ line (counted_text board area unread)) (next_area board user (area + 1))
counting_row board user area lines (Fault fault) = to_top user (lines ++ line (fault_text fault))
counting_row board user area lines _ = passed_over (Counting user area lines)

-- NUMBER: the figures of the area, in which no message has been shown
abbrev pub entering_row : Board → ℕ → ℕ → Given → Moved
entering_row board user area (Answer (answer.Figures figures)) =
    to_area board (record { user = user; area = area; shown = None }) (line (figures_text figures.visible figures.unread))
entering_row board user area (Fault fault) = to_top user (line (fault_text fault))
entering_row board user area _ = passed_over (Entering user area)
