-- That the clock's answer, which no menu asks for, is passed over in each state.
use Rattle.std.proofs.Common.{◌≡◌, ℕ, true, false, refl}
use Rattle.jb_conf.specs.declared.board.Board.{Board}
use Rattle.jb_menu.specs.Menu.{menu_turn, stage_turn}
use Rattle.jb_menu.specs.Pages.{paging_turn}
use Rattle.jb_menu.specs.Says.{passed_over}
use Rattle.jb_menu.specs.declared.given.Given.TheVariants.{Moment}
use Rattle.jb_menu.specs.declared.state.At.{At}
use Rattle.jb_menu.specs.declared.state.MenuStage.{MenuStage}
use Rattle.jb_menu.specs.declared.state.MenuStage.TheVariants as stage
use Rattle.jb_menu.specs.declared.state.PageStage.{PageStage}
use Rattle.jb_menu.specs.declared.state.PageStage.TheVariants as pages
use Rattle.jb_menu.specs.declared.state.State.{State}
use Rattle.jb_menu.specs.declared.state.State.TheVariants as state
use Rattle.jb_menu.specs.declared.state.Visit.{Visit}

in_an_area : (board : Board) (visit : Visit) (at : MenuStage) (moment : ℕ) → stage_turn board visit at (Moment moment) ≡ passed_over (state.Area visit at)
unfolding stage_turn
in_an_area board visit stage.Prompt moment = refl
in_an_area board visit stage.Listing moment = refl
in_an_area board visit stage.Seeking moment = refl
in_an_area board visit (stage.Reading true) moment = refl
in_an_area board visit (stage.Reading false) moment = refl
in_an_area board visit (stage.Marking letter) moment = refl
in_an_area board visit stage.Peeking moment = refl
in_an_area board visit stage.Acting moment = refl
in_an_area board visit stage.To moment = refl
in_an_area board visit (stage.Subject to) moment = refl
in_an_area board visit (stage.Private to subject) moment = refl
in_an_area board visit (stage.EditSubject number subject) moment = refl
in_an_area board visit (stage.Text draft text) moment = refl

where_pages_are : (board : Board) (place : At) (stage : PageStage) (moment : ℕ)
    → paging_turn board place stage (Moment moment) ≡ passed_over (state.Paging place stage)
where_pages_are board place (pages.Writing to) moment = refl
where_pages_are board place pages.Sending moment = refl
where_pages_are board place (pages.Taking lines left) moment = refl

everywhere : (board : Board) (at : State) (moment : ℕ) → menu_turn board at (Moment moment) ≡ passed_over at
unfolding menu_turn
everywhere board (state.Name refused) moment = refl
everywhere board (state.Password refused name) moment = refl
everywhere board (state.Top user) moment = refl
everywhere board (state.Counting user area lines) moment = refl
everywhere board (state.Entering user area) moment = refl
everywhere board (state.Area visit at) moment = in_an_area board visit at moment
everywhere board (state.Paging place stage) moment = where_pages_are board place stage moment
everywhere board state.Ended moment = refl
