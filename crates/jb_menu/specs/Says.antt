-- The moves of a menu, each with the state after it.
use Rattle.std.specs.Prelude.{ℕ, false, List, [], ◌++◌}
use Rattle.jb_conf.specs.declared.board.Board.{Board}
use Rattle.jb_model.specs.declared.command.Command.{Command}
use Rattle.jb_state.specs.declared.look.Question.{Question}
use Rattle.jb_text.specs.declared.standing.Fixed.TheVariants.{Goodbye, TopPrompt}
use Rattle.jb_text.specs.Fixed.{fixed_text}
use Rattle.jb_text.specs.Letter.{line}
use Rattle.jb_text.specs.Lines.{prompt_text}
use Rattle.jb_menu.specs.Boards.{area_name}
use Rattle.jb_menu.specs.declared.moves.MenuEnd.TheVariants.{Quit}
use Rattle.jb_menu.specs.declared.moves.Move.TheVariants.{Say, Ask, Look, End}
use Rattle.jb_menu.specs.declared.moves.Moved.{Moved}
use Rattle.jb_menu.specs.declared.state.MenuStage.{MenuStage}
use Rattle.jb_menu.specs.declared.state.MenuStage.TheVariants.{Prompt}
use Rattle.jb_menu.specs.declared.state.State.{State}
use Rattle.jb_menu.specs.declared.state.State.TheVariants.{Area, Ended, Top}
use Rattle.jb_menu.specs.declared.state.Visit.{Visit}

-- this text, and a line is waited for in this state
abbrev pub say : List ℕ → State → Moved
say text state = record { step = Say text false; state = state }

-- nothing is said of what was not asked for, and the state stays
abbrev pub passed_over : State → Moved
passed_over state = say [] state

-- these lines, and the prompt outside of the areas
abbrev pub to_top : ℕ → List ℕ → Moved
to_top user lines = say (lines ++ fixed_text TopPrompt) (Top user)

-- these lines, and the prompt of the area
abbrev pub to_area : Board → Visit → List ℕ → Moved
to_area board visit lines = say (lines ++ prompt_text (area_name board visit.area)) (Area visit Prompt)

-- the area is asked to do this
abbrev pub ask : Visit → Command → MenuStage → Moved
ask visit command stage = record { step = Ask visit.area command; state = Area visit stage }

-- the area is asked this
abbrev pub look : Visit → Question → MenuStage → Moved
look visit question stage = record { step = Look visit.area question; state = Area visit stage }

-- the user leaves
abbrev pub quit : Moved
quit = record { step = End (line (fixed_text Goodbye)) Quit; state = Ended }
