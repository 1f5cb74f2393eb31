-- The commands of an area.
use Rattle.std.specs.Prelude.{false, []}
use Rattle.jb_conf.specs.declared.board.Board.{Board}
use Rattle.jb_model.specs.declared.command.Command.TheVariants.{Kill, Pack, Peek, Read, Relink, SetMark}
use Rattle.jb_state.specs.declared.look.Question.TheVariants as question
use Rattle.jb_text.specs.declared.standing.Fixed.TheVariants.{AskTo, UnknownCommand}
use Rattle.jb_text.specs.Fixed.{fixed_text}
use Rattle.jb_text.specs.Letter.{line}
use Rattle.jb_menu.specs.CommandLines.{command_of}
use Rattle.jb_menu.specs.Pages.{taking_begins, write_row}
use Rattle.jb_menu.specs.Says.{ask, look, passed_over, quit, say, to_area, to_top}
use Rattle.jb_menu.specs.Writing.{reply_row}
use Rattle.jb_menu.specs.declared.command_line.CommandLetter.TheVariants.{B, E, G, K, L, M, N, P, Q, R, S, T, X, Y, Z}
use Rattle.jb_menu.specs.declared.command_line.CommandLine.{CommandLine}
use Rattle.jb_menu.specs.declared.command_line.CommandLine.TheVariants.{Empty, Letter, LetterNumber, Number}
use Rattle.jb_menu.specs.declared.given.Given.{Given}
use Rattle.jb_menu.specs.declared.given.Given.TheVariants.{Line}
use Rattle.jb_menu.specs.declared.moves.Moved.{Moved}
use Rattle.jb_menu.specs.declared.state.At.TheVariants as at
use Rattle.jb_menu.specs.declared.state.MenuStage.TheVariants.{Acting, Listing, Peeking, Prompt, Reading, Seeking, To}
use Rattle.jb_menu.specs.declared.state.State.TheVariants.{Area}
use Rattle.jb_menu.specs.declared.state.Visit.{Visit}

-- the commands
abbrev pub area_command : Board → Visit → CommandLine → Moved
area_command board visit Empty = to_area board visit []
area_command board visit (Number number) = ask visit (Read number) (Reading false)
area_command board visit (Letter B) = to_top visit.user []
area_command board visit (LetterNumber E number) = ask visit (Peek number) Peeking
area_command board visit (Letter G) = taking_begins (at.Area visit)
area_command board visit (LetterNumber K number) = ask visit (Kill number) Acting
area_command board visit (Letter L) = look visit (question.List 0 20) Listing
area_command board visit (LetterNumber L number) = look visit (question.List number 20) Listing
area_command board visit (LetterNumber M number) = ask visit (SetMark number) Acting
area_command board visit (Letter N) = look visit (question.Unread 0 1) Seeking
area_command board visit (Letter P) = say (fixed_text AskTo) (Area visit To)
area_command board visit (Letter Q) = quit
area_command board visit (Letter R) = reply_row board visit visit.shown
area_command board visit (LetterNumber S number) = write_row board (at.Area visit) number
area_command board visit (LetterNumber T number) = look visit (question.Thread number 100) Listing
area_command board visit (Letter X) = ask visit Pack Acting
area_command board visit (Letter Y) = look visit (question.To 0 20) Listing
area_command board visit (LetterNumber Y number) = look visit (question.To number 20) Listing
area_command board visit (Letter Z) = ask visit Relink Acting
area_command board visit _ = to_area board visit (line (fixed_text UnknownCommand))

-- Area: a command
abbrev pub area_row : Board → Visit → Given → Moved
area_row board visit (Line typed) = area_command board visit (command_of typed)
area_row board visit _ = passed_over (Area visit Prompt)
