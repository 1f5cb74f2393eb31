-- What a move of the menus hands out.
use Rattle.std.proofs.Common.{◌≡◌, true, false, ℕ, ◌<◌, length, Option, Some, refl, sym, ap, subst, arith}
use Rattle.std.specs.Prelude.{unwrap_or, Result, Ok, Err, IfOk}
use Rattle.jb_conf.specs.declared.board.Board.{Board}
use Rattle.jb_menu.specs.Awaits.{AsksHere, IsFor, Reaches, area_in}
use Rattle.jb_menu.specs.Menu.{user_in}
use Rattle.jb_menu.specs.declared.moves.Move.{Move}
use Rattle.jb_menu.specs.declared.moves.Move.TheVariants as move
use Rattle.jb_menu.specs.declared.state.At.TheVariants as at
use Rattle.jb_menu.specs.declared.state.State.{State}
use Rattle.jb_menu.specs.declared.state.State.TheVariants as state
use Rattle.jb_speech.specs.declared.request.Act.{Act}
use Rattle.jb_speech.specs.declared.request.Act.TheVariants as act
use Rattle.jb_talk.specs.Turns.{Place, asks_area, move_turn}
use Rattle.jb_speech.specs.Conversations.{owing}
use Rattle.jb_talk.specs.Talking.{Hands, Talking}
use Rattle.jb_talk.specs.Conversations.{is_going, is_waiting}
use Rattle.jb_talk.specs.declared.standing.Standing.{Standing}
use Rattle.jb_talk.specs.declared.standing.Standing.TheVariants.{On, Waits, Over, Failed}
use Rattle.jb_talk.proofs.PageLemmas.{IsOfUser}

-- the user who is logged in, in an area of the board
record IsThere (board : Board) (at : State) (area : ℕ) : Type 0 where
  logged_in : user_in at ≡ Some (unwrap_or (user_in at) 0)
  user : unwrap_or (user_in at) 0 < length board.users
  here : area < length board.areas

is_there : (board : Board) (at : State) (area : ℕ) → IsFor board at → Some area ≡ area_in at → IsThere board at area
unfolding IsFor
is_there board (state.Counting user place lines) area of here =
    let same : place ≡ area = ap (λ (o : Option ℕ). unwrap_or o 0) (sym here) in
    record { logged_in = refl; user = of.0; here = subst (λ (w : ℕ). w < length board.areas) same of.1 }
is_there board (state.Entering user place) area of here =
    let same : place ≡ area = ap (λ (o : Option ℕ). unwrap_or o 0) (sym here) in
    record { logged_in = refl; user = of.0; here = subst (λ (w : ℕ). w < length board.areas) same of.1 }
is_there board (state.Area visit stage) area of here =
    let same : visit.area ≡ area = ap (λ (o : Option ℕ). unwrap_or o 0) (sym here) in
    record { logged_in = refl; user = of.0; here = subst (λ (w : ℕ). w < length board.areas) same of.1 }
is_there board (state.Paging (at.Area visit) stage) area of here =
    let same : visit.area ≡ area = ap (λ (o : Option ℕ). unwrap_or o 0) (sym here) in
    record { logged_in = refl; user = of.0.0; here = subst (λ (w : ℕ). w < length board.areas) same of.0.1 }
is_there board (state.Paging (at.Top user) stage) area of here = absurd (grind arith)
is_there board (state.Name refused) area of here = absurd (grind arith)
is_there board (state.Password refused name) area of here = absurd (grind arith)
is_there board (state.Top user) area of here = absurd (grind arith)
is_there board state.Ended area of here = absurd (grind arith)

hands_request : (board : Board) (talk : Talking) (place : Place) (area : ℕ) (wanted : Act) → IsFor board place.menu → Some area ≡ area_in place.menu
    → Hands board (owing talk (asks_area place area wanted)) (asks_area place area wanted).request
hands_request board talk place area wanted of here =
    let there = is_there board place.menu area of here in
    record { menu = of; waits = refl; of = record { logged_in = there.logged_in; user = there.user; area = there.here } }

-- what a move of the menus hands out
pub hands_moved : (board : Board) (talk : Talking) (step : Move) → IsFor board talk.place.menu → AsksHere step talk.place.menu → Reaches board step
    → IsOfUser step talk.place.menu → Hands board (owing talk (move_turn talk.place step)) (move_turn talk.place step).request
hands_moved board talk (move.Say text mask) of here reaches user = record { menu = of; waits = refl; of = tt }
hands_moved board talk (move.End text end) of here reaches user = record { menu = of; waits = refl; of = tt }
hands_moved board talk (move.Ask area command) of here reaches user = hands_request board talk talk.place area (act.Ask command) of here
hands_moved board talk (move.Look area question) of here reaches user = hands_request board talk talk.place area (act.Look question) of here
hands_moved board talk (move.Count area) of here reaches user = hands_request board talk talk.place area act.Count of here
hands_moved board talk (move.Send to text) of here reaches user = record { menu = of; waits = refl; of = (user, reaches.0, reaches.1) }
hands_moved board talk move.Take of here reaches user = record { menu = of; waits = refl; of = user }

-- two facts of one answer
pub ok_both : {T E : Type 0} (r : Result T E) (P Q R : T → Type 0) → ((x : T) → P x → Q x → R x) → IfOk r P → IfOk r Q → IfOk r R
ok_both (Ok x) P Q R f p q = f x p q
ok_both (Err e) P Q R f p q = tt

-- what is not on does not go on
pub not_on : (s : Standing) → (s ≡ On → ⊥) → is_going s ≡ false
not_on On off = absurd (off refl)
not_on Waits off = refl
not_on (Over end) off = refl
not_on Failed off = refl

-- what goes on does not wait
pub not_waiting : (s : Standing) → is_going s ≡ true → is_waiting s ≡ false
not_waiting On on = refl
not_waiting Waits on = absurd (grind arith)
not_waiting (Over end) on = refl
not_waiting Failed on = refl
