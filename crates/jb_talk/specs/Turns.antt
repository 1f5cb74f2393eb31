-- What an event and an answer lead to: where the talk is then, what is sent, and what is asked.
use Rattle.std.specs.Prelude.{ℕ, List, [], ◌++◌, Option, Some, None, unwrap_or, if◌then◌else◌}
use Rattle.std.specs.List.{flat_map}
use Rattle.jb_conf.specs.declared.board.Board.{Board}
use Rattle.jb_telnet.specs.declared.event.Event.{Event}
use Rattle.jb_telnet.specs.Units.{doubled}
use Rattle.jb_option.specs.Table.{Sides, is_on, option_answer, sides_after}
use Rattle.jb_line.specs.declared.key.Key.{Key}
use Rattle.jb_line.specs.Typing.{Typing, echo_of, line_of, typing_after}
use Rattle.jb_menu.specs.declared.given.Given.{Given}
use Rattle.jb_menu.specs.declared.given.Given.TheVariants.{Line}
use Rattle.jb_menu.specs.declared.moves.Move.{Move}
use Rattle.jb_menu.specs.declared.moves.Move.TheVariants as move
use Rattle.jb_menu.specs.declared.moves.Moved.{Moved}
use Rattle.jb_menu.specs.declared.state.State.{State}
use Rattle.jb_menu.specs.Menu.{menu_turn, user_in}
use Rattle.jb_speech.specs.Conversations.{Turn}
use Rattle.jb_speech.specs.declared.request.Act.{Act}
use Rattle.jb_speech.specs.declared.request.Act.TheVariants.{Ask, Look, Count}
use Rattle.jb_speech.specs.declared.request.Request.{Request}
use Rattle.jb_speech.specs.declared.request.Request.TheVariants.{Area, Send, Take}
use Rattle.jb_talk.specs.declared.standing.Standing.{Standing}
use Rattle.jb_talk.specs.declared.standing.Standing.TheVariants.{On, Waits, Over}
use Rattle.jb_talk.specs.Keys.{key_of, yes_of, echo_bytes}

-- where a talk is
pub record Place : Type 0 where
  pub options : Sides
  pub typing : Typing
  pub menu : State
  pub standing : Standing

-- these bytes are sent, and nothing is asked
abbrev pub says : Place → List ℕ → Turn Place
says place text = record { place = place; text = text; request = None }

-- this is asked, and its answer is waited for
abbrev pub requests : Place → Request → Turn Place
requests place request = record { place = record place { standing = Waits }; text = []; request = Some request }

-- an area is asked this for the user who is logged in
abbrev pub asks_area : Place → ℕ → Act → Turn Place
asks_area place area act = requests place (Area (record { user = unwrap_or (user_in place.menu) 0; area = area; act = act }))

-- a move of the menus: the byte 255 of its text is doubled, and the line behind it is typed unseen where it says so
abbrev pub move_turn : Place → Move → Turn Place
move_turn place (move.Say text mask) =
    says (record place { typing = record place.typing { masked = mask }; standing = On }) (flat_map doubled text)
move_turn place (move.Ask area command) = asks_area place area (Ask command)
move_turn place (move.Look area question) = asks_area place area (Look question)
move_turn place (move.Count area) = asks_area place area Count
move_turn place (move.Send to text) = requests place (Send to text)
move_turn place move.Take = requests place Take
move_turn place (move.End text end) = says (record place { standing = Over end }) (flat_map doubled text)

-- the menus are in another state, and move
abbrev pub moved_turn : Place → Moved → Turn Place
moved_turn place moved = move_turn (record place { menu = moved.state }) moved.step

-- the menus are given a line or an answer
abbrev pub given_turn : Board → Place → Given → Turn Place
given_turn board place given = moved_turn place (menu_turn board place.menu given)

-- a line that a key has ended, if it has ended one
abbrev pub line_turn : Board → Place → Option (List ℕ) → Turn Place
line_turn board place None = says place []
line_turn board place (Some line) = given_turn board place (Line line)

-- these bytes are sent before
abbrev pub behind : {S : Type 0} → List ℕ → Turn S → Turn S
behind text turn = record turn { text = text ++ turn.text }

-- the echo of a key, exactly while the board echoes
abbrev pub key_echo : Place → Key → List ℕ
key_echo place key = if is_on place.options.echo then echo_bytes (echo_of place.typing key) else []

-- a key: its echo, and then what is said to the line that it ends
abbrev pub key_turn : Board → Place → Key → Turn Place
key_turn board place key =
    behind (key_echo place key) (line_turn board (record place { typing = typing_after place.typing key }) (line_of place.typing key))

-- a key, if the event is one
abbrev pub pressed_turn : Board → Place → Option Key → Turn Place
pressed_turn board place None = says place []
pressed_turn board place (Some key) = key_turn board place key

-- an event: what is answered to it, and then what it leads to as a key
abbrev pub event_turn : Board → Place → Event → Turn Place
event_turn board place event =
    behind (option_answer place.options event ++ yes_of event)
    (pressed_turn board (record place { options = sides_after place.options event }) (key_of event))
