-- A conversation of a news reader: what is sent and asked over all bytes, with all answers, and how it ends.
use Rattle.std.specs.Prelude.{ℕ, ◌==◌, Bool, true, false, List, [], if◌then◌else◌, Option, Some, None}
use Rattle.jb_limits.specs.declared.limits.TheConstants.{MOST_SESSION_BYTES}
use Rattle.jb_base.specs.declared.user.User.{User}
use Rattle.jb_conf.specs.declared.board.Board.{Board}
use Rattle.jb_menu.specs.declared.given.Given.{Given}
use Rattle.jb_news.specs.Commands.{command_of}
use Rattle.jb_news.specs.Lines.{CutsInto}
use Rattle.jb_news.specs.Responses.{greeting_text}
use Rattle.jb_news.specs.declared.line.NewsLine.{NewsLine}
use Rattle.jb_speech.specs.Conversations.{Manner, Says, Turn}
use Rattle.jb_speech.specs.Laws.{Talk}
use Rattle.jb_speech.specs.declared.end.TalkEnd.{TalkEnd}
use Rattle.jb_speech.specs.declared.end.TalkEnd.TheVariants.{Hangup, OutOfMemory, Quit, Spent, Unanswered}
use Rattle.jb_speech.specs.declared.request.AreaRequest.{AreaRequest}
use Rattle.jb_news_talk.specs.Newsgroups.{news_user}
use Rattle.jb_news_talk.specs.Listing.{listing_row}
use Rattle.jb_news_talk.specs.Telling.{telling_row}
use Rattle.jb_news_talk.specs.Choosing.{choosing_row, entering_row}
use Rattle.jb_news_talk.specs.Moving.{following_row, seeking_row}
use Rattle.jb_news_talk.specs.Articles.{showing_row}
use Rattle.jb_news_talk.specs.Commands.{command_row, dating_row}
use Rattle.jb_news_talk.specs.declared.place.Chosen.{Chosen}
use Rattle.jb_news_talk.specs.declared.place.NewsPlace.{NewsPlace}
use Rattle.jb_news_talk.specs.declared.place.NewsStage.{NewsStage}
use Rattle.jb_news_talk.specs.declared.place.NewsStage.TheVariants as stage

-- it goes on with what the reader sends
abbrev pub is_going : NewsStage → Bool
is_going stage.Idle = true
is_going _ = false

-- it waits for an answer
abbrev pub is_waiting : NewsStage → Bool
is_waiting stage.Idle = false
is_waiting stage.Over = false
is_waiting stage.Broken = false
is_waiting _ = true

-- an answer where none is awaited leads to nothing
abbrev pub stays : NewsPlace → Turn NewsPlace
stays place = record { place = place; text = []; request = None }

-- what an answer leads to
unfoldable pub given_in : Board → Chosen → NewsStage → Given → Turn NewsPlace
given_in board chosen (stage.Listing wildmat area text) given = listing_row board chosen wildmat area text given
given_in board chosen (stage.Choosing area range) given = choosing_row chosen area range given
given_in board chosen (stage.Entering area range figures) given = entering_row board chosen area range figures given
given_in board chosen (stage.Telling told area next last head) given = telling_row board chosen told area next last head given
given_in board chosen (stage.Following area) given = following_row board chosen area given
given_in board chosen (stage.Seeking area found top) given = seeking_row board chosen area found top given
given_in board chosen (stage.Showing part area number how) given = showing_row board chosen part area number how given
given_in board chosen stage.Dating given = dating_row chosen given
given_in board chosen stage.Idle given = stays (record { chosen = chosen; stage = stage.Idle })
given_in board chosen stage.Over given = stays (record { chosen = chosen; stage = stage.Over })
given_in board chosen stage.Broken given = stays (record { chosen = chosen; stage = stage.Broken })

abbrev pub given_turn : Board → NewsPlace → Given → Turn NewsPlace
given_turn board place given = given_in board place.chosen place.stage given

-- what a line leads to
abbrev pub line_turn : Board → NewsPlace → NewsLine → Turn NewsPlace
line_turn board place line = command_row board place.chosen (command_of line)

-- with no group chosen
abbrev pub first_place : NewsPlace
first_place = record { chosen = record { group = None; current = None }; stage = stage.Idle }

-- how it ends where no more than these bytes come: as the reader quits, by the limit of a session, or as the reader hangs up
abbrev pub end_of : NewsStage → ℕ → TalkEnd
end_of stage.Idle taken = if taken == MOST_SESSION_BYTES then Spent else Hangup
end_of stage.Over taken = Quit
end_of stage.Broken taken = OutOfMemory
end_of _ taken = Unanswered

-- how a reader's conversation goes: it hears lines
abbrev pub manner_of : Board → Manner NewsPlace NewsLine
manner_of board = record {
  first = record { place = first_place; out = greeting_text board.name; asked = [] };
  cuts = λ bytes lines. (rest : List ℕ) × CutsInto bytes lines rest;
  event_turn = line_turn board;
  given_turn = given_turn board;
  is_going = λ place. is_going place.stage;
  is_waiting = λ place. is_waiting place.stage;
  end_of = λ place taken. end_of place.stage taken;
}

-- over these bytes, with these answers, this is sent and asked, and it ends so
abbrev pub NewsTalks : Talk
NewsTalks board = Says (manner_of board)

-- each area is asked for the user as whom articles are read
abbrev pub reader_of : Board → AreaRequest → Option User
reader_of board request = Some (news_user board)
