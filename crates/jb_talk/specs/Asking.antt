-- That what one line asks comes to an end.
use Rattle.std.specs.Prelude.{ℕ, ◌-◌, length}
use Rattle.jb_conf.specs.declared.board.Board.{Board}
use Rattle.jb_menu.specs.declared.state.MenuStage.TheVariants.{Marking, Reading, Seeking}
use Rattle.jb_menu.specs.declared.state.PageStage.TheVariants.{Taking}
use Rattle.jb_menu.specs.declared.state.State.{State}
use Rattle.jb_menu.specs.declared.state.State.TheVariants.{Area, Counting, Paging}

-- how many requests may follow in this state without another line, at most
abbrev pub most_asked : Board → State → ℕ
most_asked board (Counting user area lines) = length board.areas - area
most_asked board (Area visit Seeking) = 3
most_asked board (Area visit (Reading marks)) = 2
most_asked board (Area visit (Marking letter)) = 1
most_asked board (Paging place (Taking lines left)) = left
most_asked board _ = 0
