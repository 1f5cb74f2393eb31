-- That each turn keeps the menus on the board, and asks only for the user who is logged in, and while one is.
use Rattle.std.proofs.Common.{◌≡◌, ℕ, true, List, [], ◌∷◌, ◌++◌, Option, None, Some, refl, ap, subst}
use Rattle.std.specs.Prelude.{IfSome, is_some}
use Rattle.jb_conf.specs.declared.board.Board.{Board}
use Rattle.jb_telnet.specs.declared.event.Event.{Event}
use Rattle.jb_line.specs.declared.key.Key.{Key}
use Rattle.jb_line.specs.Typing.{line_of, typing_after}
use Rattle.jb_option.specs.Table.{sides_after}
use Rattle.jb_menu.specs.Awaits.{IsFor}
use Rattle.jb_menu.specs.Menu.{menu_turn, user_in}
use Rattle.jb_menu.specs.declared.state.State.{State}
use Rattle.jb_menu.specs.declared.given.Given.{Given}
use Rattle.jb_menu.specs.declared.given.Given.TheVariants.{Line}
use Rattle.jb_menu.proofs.Keeping.{holds_everywhere}
use Rattle.jb_speech.specs.Conversations.{Turn, conversation}
use Rattle.jb_speech.specs.declared.request.Request.{Request}
use Rattle.jb_speech.specs.declared.request.Request.TheVariants.{Area, Clock, Send, Take}
use Rattle.jb_speech.specs.Laws.{IsFront}
use Rattle.jb_speech.proofs.Asking.{Keeps, each_is_asked}
use Rattle.jb_talk.specs.Conversations.{first_place, is_waiting, manner_of}
use Rattle.jb_talk.specs.Keys.{key_of}
use Rattle.jb_talk.specs.Laws.{CallersAsk, IsWaitedFor, NobodyAsks}
use Rattle.jb_talk.specs.Talking.{MayAsk, Talking}
use Rattle.jb_talk.specs.Turns.{Place, event_turn, given_turn, line_turn, pressed_turn}
use Rattle.jb_talk.proofs.MoveLemmas.{hands_moved, not_waiting}
use Rattle.jb_talk.proofs.PageLemmas.{of_user}

module _ (board : Board) where
  -- the menus are on the board
  abbrev pub IsOn : Place → Type 0
  IsOn place = IsFor board place.menu

  abbrev KeepsOn : Turn Place → Type 0
  KeepsOn turn = Keeps IsOn (IsWaitedFor board) turn

  waited : (place : Place) (request : Option Request) → is_waiting place.standing ≡ is_some request → IfSome request (MayAsk board place.menu)
      → IfSome request (IsWaitedFor board place)
  waited place (Some request) waits of = record { waits = waits; of = of }
  waited place None waits of = tt

  pub given_keeps : (place : Place) (given : Given) → IsOn place → KeepsOn (given_turn board place given)
  given_keeps place given on =
      let moved = menu_turn board place.menu given in
      let holds = holds_everywhere board place.menu given on in
      let talk : Talking = record { kept = []; taken = 0; place = record place { menu = moved.state }; owed = [] } in
      let hands = hands_moved board talk moved.step holds.board holds.here holds.reaches (of_user board place.menu given on) in
      record { place = hands.menu; request = waited (given_turn board place given).place (given_turn board place given).request hands.waits hands.of }

  line_keeps : (place : Place) (line : Option (List ℕ)) → IsOn place → KeepsOn (line_turn board place line)
  line_keeps place None on = record { place = on; request = tt }
  line_keeps place (Some line) on = given_keeps place (Line line) on

  pressed_keeps : (place : Place) (key : Option Key) → IsOn place → KeepsOn (pressed_turn board place key)
  pressed_keeps place None on = record { place = on; request = tt }
  pressed_keeps place (Some key) on =
      let keeps = line_keeps (record place { typing = typing_after place.typing key }) (line_of place.typing key) on in
      record { place = keeps.place; request = keeps.request }

  pub event_keeps : (place : Place) (event : Event) → IsOn place → KeepsOn (event_turn board place event)
  event_keeps place event on =
      let keeps = pressed_keeps (record place { options = sides_after place.options event }) (key_of event) on in
      record { place = keeps.place; request = keeps.request }

  first_on : IsOn first_place
  unfolding IsFor
  first_on = tt

pub callers_ask : CallersAsk
callers_ask = λ board bytes out answers asked before request end talked front.
    each_is_asked (manner_of board) (λ place going. not_waiting place.standing going) (IsOn board) (IsWaitedFor board) before request (event_keeps board)
    (given_keeps board) (first_on board) refl refl talked.events answers (subst (λ (w : List Request). IsFront (before ++ request ∷ []) w) talked.asks front)

-- whatever is asked, a user is logged in
user_asks : (board : Board) (menu : State) (request : Request) → MayAsk board menu request → is_some (user_in menu) ≡ true
user_asks board menu (Area request) may = ap is_some may.logged_in
user_asks board menu Clock may = absurd may
user_asks board menu (Send to text) may = may.0
user_asks board menu Take may = may

pub nobody_asks : NobodyAsks
nobody_asks board bytes out answers [] end = λ talked nobody. refl
nobody_asks board bytes out answers (request ∷ asked) end = λ talked nobody.
    let asks = callers_ask board bytes out answers (request ∷ asked) [] request end talked (record { rest = asked; is = refl }) in
    let menu = (conversation (manner_of board) asks.given asks.front).course.place.menu in
    absurd (cc (nobody asks.front asks.given asks.heard asks.answered, user_asks board menu request asks.of.of))
