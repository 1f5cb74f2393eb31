-- The rows of the log-in.
use Rattle.std.specs.Prelude.{ℕ, ◌+◌, nat_lt, true, List, ◌++◌, position, Option, Some, None, if◌then◌else◌}
use Rattle.jb_conf.specs.declared.board.Board.{Board}
use Rattle.jb_conf.specs.LogIn.{logs_in}
use Rattle.jb_text.specs.declared.standing.Fixed.TheVariants.{AskName, AskPassword, Goodbye, LoginIncorrect}
use Rattle.jb_text.specs.Fixed.{fixed_text}
use Rattle.jb_text.specs.Letter.{line}
use Rattle.jb_text.specs.Lines.{welcome_text}
use Rattle.jb_menu.specs.Boards.{user_name}
use Rattle.jb_menu.specs.Says.{passed_over, say, to_top}
use Rattle.jb_menu.specs.declared.given.Given.{Given}
use Rattle.jb_menu.specs.declared.given.Given.TheVariants.{Line}
use Rattle.jb_menu.specs.declared.moves.MenuEnd.TheVariants.{LoginRefused}
use Rattle.jb_menu.specs.declared.moves.Move.TheVariants.{Say, End}
use Rattle.jb_menu.specs.declared.moves.Moved.{Moved}
use Rattle.jb_menu.specs.declared.state.State.TheVariants.{Ended, Name, Password}

-- Name: any line is the name, and the password is typed unseen
abbrev pub name_row : ℕ → Given → Moved
name_row refused (Line name) = record { step = Say (fixed_text AskPassword) true; state = Password refused name }
name_row refused _ = passed_over (Name refused)

-- a log-in is refused: twice there is another try, and the third time the session is over
abbrev pub refused_row : ℕ → Moved
refused_row refused =
    if nat_lt refused 2 then say (line (fixed_text LoginIncorrect) ++ fixed_text AskName) (Name (refused + 1))
    else record { step = End (line (fixed_text LoginIncorrect) ++ line (fixed_text Goodbye)) LoginRefused; state = Ended }

-- the user who logs in is greeted by the name of the settings
abbrev pub login_row : Board → ℕ → Option ℕ → Moved
login_row board refused (Some user) = to_top user (line (welcome_text (user_name board user)))
login_row board refused None = refused_row refused

-- Password: the user with this name and this password, if one has both
abbrev pub password_row : Board → ℕ → List ℕ → Given → Moved
password_row board refused name (Line password) = login_row board refused (position (logs_in name password) board.users)
password_row board refused name _ = passed_over (Password refused name)
