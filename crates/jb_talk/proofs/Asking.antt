-- That each answer leaves fewer requests to come.
use Rattle.std.proofs.Common.{◌≡◌, ℕ, suc, ◌+◌, ◌<◌, Bool, true, false, List, ◌∷◌, length, Option, Some, None, refl, sym, ◌∙◌, subst, arith}
use Rattle.std.specs.Prelude.{drop, position, option_map, is_some}
use Rattle.jb_conf.specs.declared.board.Board.{Board}
use Rattle.jb_state.specs.declared.look.Answer.TheVariants.{Summaries, Figures}
use Rattle.jb_model.specs.declared.reply.Reply.{Reply}
use Rattle.jb_model.specs.declared.reply.Reply.TheVariants as reply
use Rattle.jb_menu.specs.Awaits.{IsFor}
use Rattle.jb_menu.specs.Boards.{level_of, may_read}
use Rattle.jb_menu.specs.Answers.{marking_row, reading_row}
use Rattle.jb_menu.specs.Editing.{peeking_row}
use Rattle.jb_menu.specs.Menu.{menu_turn, stage_turn}
use Rattle.jb_menu.specs.Pages.{paging_turn}
use Rattle.jb_menu.specs.Top.{count_row}
use Rattle.jb_menu.specs.declared.given.Given.{Given}
use Rattle.jb_menu.specs.declared.given.Given.TheVariants as given
use Rattle.jb_menu.specs.declared.moves.Move.{Move}
use Rattle.jb_menu.specs.declared.moves.Move.TheVariants as move
use Rattle.jb_menu.specs.declared.moves.Moved.{Moved}
use Rattle.jb_menu.specs.declared.state.At.{At}
use Rattle.jb_menu.specs.declared.state.At.TheVariants as at
use Rattle.jb_menu.specs.declared.state.MenuStage.{MenuStage}
use Rattle.jb_menu.specs.declared.state.MenuStage.TheVariants as stage
use Rattle.jb_menu.specs.declared.state.PageStage.{PageStage}
use Rattle.jb_menu.specs.declared.state.PageStage.TheVariants as page_stage
use Rattle.jb_menu.specs.declared.state.State.{State}
use Rattle.jb_menu.specs.declared.state.State.TheVariants as state
use Rattle.jb_menu.specs.declared.state.Visit.{Visit}
use Rattle.jb_speech.specs.Posture.{is_line}
use Rattle.jb_talk.specs.Asking.{most_asked}
use Rattle.jb_talk.specs.Turns.{Place, given_turn, move_turn}

-- the move asks
abbrev is_asking : Move → Bool
is_asking (move.Say text mask) = false
is_asking (move.Ask area command) = true
is_asking (move.Look area question) = true
is_asking (move.Count area) = true
is_asking (move.Send to text) = true
is_asking move.Take = true
is_asking (move.End text end) = false

-- where it asks, fewer requests follow than from this state
abbrev Falls : Board → State → Moved → Type 0
Falls board from moved = is_asking moved.step ≡ true → most_asked board moved.state < most_asked board from

no : {X : Type 0} → false ≡ true → X
no h = absurd (grind (arith, h))

on : {X : Type 0} → true ≡ false → X
on h = absurd (grind (arith, h))

-- N and a number: only the mark is asked for behind a message
reading_falls : (board : Board) (visit : Visit) (marks : Bool) (answer : Reply) → Falls board (state.Area visit (stage.Reading marks)) (reading_row board visit marks (given.Reply answer))
reading_falls board visit true (reply.Text the_letter) = λ _. omega arith
reading_falls board visit false (reply.Text the_letter) = no
reading_falls board visit _ _ = no

marking_falls : (board : Board) (visit : Visit) (text : List ℕ) (answer : Reply) → Falls board (state.Area visit (stage.Marking text)) (marking_row board visit text (given.Reply answer))
marking_falls board visit text (reply.Text the_letter) = no
marking_falls board visit text _ = no

-- E: nothing is asked behind the message
peeking_falls : (board : Board) (visit : Visit) (answer : Reply) → Falls board (state.Area visit stage.Peeking) (peeking_row board visit (given.Reply answer))
peeking_falls board visit (reply.Text the_letter) = no
peeking_falls board visit _ = no

-- behind an area comes one further on
count_falls : (board : Board) (user area : ℕ) (lines more : List ℕ) (place : Option ℕ) → area < length board.areas
    → Falls board (state.Counting user area lines) (count_row user more (option_map (λ n. area + 1 + n) place))
count_falls board user area lines more None within = no
count_falls board user area lines more (Some n) within = λ _. omega (arith, within)

-- in an area
stage_falls : (board : Board) (visit : Visit) (at : MenuStage) (what : Given) → is_line what ≡ false → Falls board (state.Area visit at) (stage_turn board visit at what)
unfolding stage_turn
stage_falls board visit (stage.Reading true) (given.Fault why) line = no
stage_falls board visit _ (given.Line typed) line = on line
stage_falls board visit (stage.Reading marks) (given.Reply answer) line = reading_falls board visit marks answer
stage_falls board visit (stage.Marking text) (given.Reply answer) line = marking_falls board visit text answer
stage_falls board visit stage.Peeking (given.Reply answer) line = peeking_falls board visit answer
stage_falls board visit stage.Seeking (given.Answer (Summaries (first ∷ rest))) line = λ _. omega arith
stage_falls board visit _ (given.Answer (Figures numbers)) line = no
stage_falls board visit _ _ line = no

-- behind a page so many more are taken at most
paging_falls : (board : Board) (place : At) (stage : PageStage) (what : Given) → is_line what ≡ false → Falls board (state.Paging place stage) (paging_turn board place stage what)
paging_falls board (at.Top user) page_stage.Sending (given.Sent result) line = no
paging_falls board place (page_stage.Taking lines (suc left)) (given.Page (Some page)) line = λ _. omega arith
paging_falls board _ (page_stage.Taking lines _) (given.Page None) line = no
paging_falls board _ _ (given.Line typed) line = on line
paging_falls board _ _ _ line = no

-- everywhere
falls : (board : Board) (at : State) (what : Given) → IsFor board at → is_line what ≡ false → Falls board at (menu_turn board at what)
unfolding menu_turn IsFor
falls board (state.Counting user area lines) (given.Count unread) of line = count_falls board user area lines _ (position (may_read (level_of board user)) (drop (area + 1) board.areas)) of.1
falls board (state.Area visit at) what of line = stage_falls board visit at what line
falls board (state.Paging place stage) what of line = paging_falls board place stage what line
falls board (state.Entering user area) (given.Answer (Figures numbers)) of line = no
falls board _ (given.Line typed) of line = on line
falls board _ _ of line = no

menu_kept : (place : Place) (step : Move) → (move_turn place step).place.menu ≡ place.menu
menu_kept place (move.Say text mask) = refl
menu_kept place (move.Ask area command) = refl
menu_kept place (move.Look area question) = refl
menu_kept place (move.Count area) = refl
menu_kept place (move.Send to text) = refl
menu_kept place move.Take = refl
menu_kept place (move.End text end) = refl

asks_by : (place : Place) (step : Move) → is_some (move_turn place step).request ≡ is_asking step
asks_by place (move.Say text mask) = refl
asks_by place (move.Ask area command) = refl
asks_by place (move.Look area question) = refl
asks_by place (move.Count area) = refl
asks_by place (move.Send to text) = refl
asks_by place move.Take = refl
asks_by place (move.End text end) = refl

-- an answer that leads to a request leaves fewer to come
pub asks_fewer : (board : Board) (place : Place) (what : Given) → IsFor board place.menu → is_line what ≡ false
    → is_some (given_turn board place what).request ≡ true → most_asked board (given_turn board place what).place.menu < most_asked board place.menu
asks_fewer board place what of line asks =
    let moved : Moved = menu_turn board place.menu what in
    let there : Place = record place { menu = moved.state } in
    let P : State → Type 0 = λ w. most_asked board w < most_asked board place.menu in
    subst P (sym (menu_kept there moved.step)) (falls board place.menu what of line (sym (asks_by there moved.step) ∙ asks))
