-- That pages are sent and taken only while a user is logged in.
use Rattle.std.proofs.Common.{◌≡◌, Bool, true, false, refl, arith}
use Rattle.std.specs.Prelude.{is_some}
use Rattle.jb_conf.specs.declared.board.Board.{Board}
use Rattle.jb_state.specs.declared.look.Answer.TheVariants.{Figures, Summaries}
use Rattle.jb_menu.specs.Awaits.{IsFor, awaited_at, awaited_in, is_wanted, wanted_by}
use Rattle.jb_menu.specs.Menu.{menu_turn, stage_turn, user_in}
use Rattle.jb_menu.specs.declared.given.Given.{Given}
use Rattle.jb_menu.specs.declared.given.Given.TheVariants as given
use Rattle.jb_menu.specs.declared.moves.Move.{Move}
use Rattle.jb_menu.specs.declared.moves.Move.TheVariants as move
use Rattle.jb_menu.specs.declared.moves.Moved.{Moved}
use Rattle.jb_menu.specs.declared.state.MenuStage.{MenuStage}
use Rattle.jb_menu.specs.declared.state.MenuStage.TheVariants as stage
use Rattle.jb_menu.specs.declared.state.PageStage.TheVariants as pages
use Rattle.jb_menu.specs.declared.state.State.{State}
use Rattle.jb_menu.specs.declared.state.State.TheVariants as state
use Rattle.jb_menu.specs.declared.state.Visit.{Visit}
use Rattle.jb_menu.proofs.Keeping.{holds_everywhere}

-- where a page is sent or taken, a user is logged in
abbrev pub IsOfUser : Move → State → Type 0
IsOfUser (move.Send to text) at = is_some (user_in at) ≡ true
IsOfUser move.Take at = is_some (user_in at) ≡ true
IsOfUser _ at = Unit

abbrev IsMoveOfUser : Moved → Type 0
IsMoveOfUser moved = IsOfUser moved.step moved.state

-- what comes of a page is awaited only from a user
by_awaited : (step : Move) (after : State) → awaited_in after ≡ wanted_by step → IsOfUser step after
unfolding awaited_in
by_awaited (move.Send to text) (state.Name refused) is = absurd (cc (is))
by_awaited (move.Send to text) (state.Password refused name) is = absurd (cc (is))
by_awaited (move.Send to text) state.Ended is = absurd (cc (is))
by_awaited (move.Send to text) _ is = refl
by_awaited move.Take (state.Name refused) is = absurd (cc (is))
by_awaited move.Take (state.Password refused name) is = absurd (cc (is))
by_awaited move.Take state.Ended is = absurd (cc (is))
by_awaited move.Take _ is = refl
by_awaited _ after is = tt

on : {X : Type 0} → true ≡ false → X
on h = absurd (grind (arith, h))

-- what is not awaited is passed over
over_stage : (board : Board) (visit : Visit) (at : MenuStage) (what : Given) → is_wanted (awaited_at at) what ≡ false → IsMoveOfUser (stage_turn board visit at what)
unfolding stage_turn
over_stage board visit (stage.Reading true) (given.Fault why) not = on not
over_stage board visit (stage.Reading marks) (given.Reply reply) not = on not
over_stage board visit (stage.Marking letter) (given.Reply reply) not = on not
over_stage board visit stage.Peeking (given.Reply reply) not = on not
over_stage board visit stage.Seeking (given.Answer (Summaries messages)) not = on not
over_stage board visit stage.Prompt (given.Line typed) not = on not
over_stage board visit stage.To (given.Line typed) not = on not
over_stage board visit (stage.Subject to) (given.Line typed) not = on not
over_stage board visit (stage.Private to subject) (given.Line typed) not = on not
over_stage board visit (stage.EditSubject number subject) (given.Line typed) not = on not
over_stage board visit (stage.Text draft text) (given.Line typed) not = on not
over_stage board visit _ (given.Answer (Figures numbers)) not = tt
over_stage board visit _ _ not = tt

over : (board : Board) (at : State) (what : Given) → is_wanted (awaited_in at) what ≡ false → IsMoveOfUser (menu_turn board at what)
unfolding menu_turn awaited_in
over board (state.Area visit at) what not = over_stage board visit at what not
over board (state.Paging place (pages.Writing to)) (given.Line typed) not = on not
over board (state.Paging place pages.Sending) (given.Sent result) not = on not
over board (state.Paging place (pages.Taking lines left)) (given.Page page) not = on not
over board (state.Name refused) (given.Line typed) not = on not
over board (state.Password refused name) (given.Line typed) not = on not
over board (state.Top user) (given.Line typed) not = on not
over board (state.Counting user area lines) (given.Count unread) not = on not
over board (state.Entering user area) (given.Answer (Figures numbers)) not = on not
over board _ _ not = tt

either : (board : Board) (at : State) (what : Given) (b : Bool) → is_wanted (awaited_in at) what ≡ b → IsFor board at → IsMoveOfUser (menu_turn board at what)
either board at what true is of =
    by_awaited (menu_turn board at what).step (menu_turn board at what).state ((holds_everywhere board at what of).awaits is)
either board at what false is of = over board at what is

-- whatever the menus are given
pub of_user : (board : Board) (at : State) (what : Given) → IsFor board at → IsOfUser (menu_turn board at what).step (menu_turn board at what).state
of_user board at what = either board at what (is_wanted (awaited_in at) what) refl
