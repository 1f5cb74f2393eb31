-- A conversation: what is sent and asked over all bytes of a caller, with all answers, and how it ends.
use Rattle.std.specs.Prelude.{ℕ, ◌==◌, Bool, true, false, List, [], ◌++◌, if◌then◌else◌}
use Rattle.std.specs.List.{flat_map}
use Rattle.jb_limits.specs.declared.limits.TheConstants.{MOST_SESSION_BYTES}
use Rattle.jb_conf.specs.declared.board.Board.{Board}
use Rattle.jb_telnet.specs.declared.event.Event.{Event}
use Rattle.jb_telnet.specs.Units.{CutsInto, doubled}
use Rattle.jb_option.specs.Table.{first_sides, greeting_bytes}
use Rattle.jb_line.specs.Typing.{first_typing}
use Rattle.jb_text.specs.Lines.{start_text}
use Rattle.jb_menu.specs.declared.moves.MenuEnd.TheVariants as menu_end
use Rattle.jb_menu.specs.declared.state.State.TheVariants.{Name}
use Rattle.jb_speech.specs.Conversations.{Course, Manner, Says}
use Rattle.jb_speech.specs.Laws.{Talk}
use Rattle.jb_speech.specs.declared.end.TalkEnd.{TalkEnd}
use Rattle.jb_speech.specs.declared.end.TalkEnd.TheVariants.{Hangup, LoginRefused, OutOfMemory, Quit, Spent, Unanswered}
use Rattle.jb_talk.specs.declared.standing.Standing.{Standing}
use Rattle.jb_talk.specs.declared.standing.Standing.TheVariants.{On, Waits, Over, Failed}
use Rattle.jb_talk.specs.Turns.{Place, event_turn, given_turn}

-- it goes on with what the caller sends
abbrev pub is_going : Standing → Bool
is_going On = true
is_going _ = false

-- it waits for an answer
abbrev pub is_waiting : Standing → Bool
is_waiting Waits = true
is_waiting _ = false

-- before the log-in, with no key pressed
abbrev pub first_place : Place
first_place = record { options = first_sides; typing = first_typing; menu = Name 0; standing = On }

-- the offers of the board, its name, and the first question
abbrev pub first_course : Board → Course Place
first_course board = record { place = first_place; out = greeting_bytes ++ flat_map doubled (start_text board.name); asked = [] }

-- how it ends where no more than these bytes come: by the menus, by the limit of a session, or as the caller hangs up
abbrev pub end_of : Standing → ℕ → TalkEnd
end_of On taken = if taken == MOST_SESSION_BYTES then Spent else Hangup
end_of Waits taken = Unanswered
end_of (Over menu_end.Quit) taken = Quit
end_of (Over menu_end.LoginRefused) taken = LoginRefused
end_of Failed taken = OutOfMemory

-- how a talk goes: it hears the units of Telnet
abbrev pub manner_of : Board → Manner Place Event
manner_of board = record {
  first = first_course board;
  cuts = λ bytes events. (rest : List ℕ) × CutsInto bytes events rest;
  event_turn = event_turn board;
  given_turn = given_turn board;
  is_going = λ place. is_going place.standing;
  is_waiting = λ place. is_waiting place.standing;
  end_of = λ place taken. end_of place.standing taken;
}

-- over these bytes, with these answers, this is sent and asked, and it ends so
abbrev pub Talks : Talk
Talks board = Says (manner_of board)
