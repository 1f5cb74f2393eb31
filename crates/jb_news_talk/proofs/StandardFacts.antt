-- A session of a reader, worked by hand: with the lines and the answers that are given, this is sent and asked, and it ends so.
use Rattle.std.proofs.Common.{◌≡◌, ℕ, zero, suc, ◌<◌, ◌≤◌, ◌+◌, List, [], ◌∷◌, ◌++◌, None, slice_index_or, codes, pos, refl, arith}
use Rattle.std.specs.List.{flat_map}
use Rattle.std.specs.Option.{ForSome}
use Rattle.std.proofs.lemmas.List.Elements.{All-cons, All-nil}
use Rattle.std.specs.Fmt.{digits}
use Rattle.jb_limits.specs.declared.limits.TheConstants.{MOST_NODES}
use Rattle.jb_base.specs.declared.area.Kind.TheVariants.{Local}
use Rattle.jb_conf.specs.declared.board.Board.{Board}
use Rattle.jb_conf.specs.InRange.{AreAreasInRange, AreUsersInRange, IsAreaInRange, IsUserInRange}
use Rattle.jb_conf.specs.declared.board.BoardArea.{BoardArea}
use Rattle.jb_conf.specs.declared.board.BoardUser.{BoardUser}
use Rattle.jb_menu.specs.declared.given.Given.{Given}
use Rattle.jb_menu.specs.declared.given.Given.TheVariants as given
use Rattle.jb_model.specs.declared.command.Command.TheVariants.{Peek}
use Rattle.jb_model.specs.declared.reply.Letter.{Letter}
use Rattle.jb_model.specs.declared.reply.Reply.TheVariants as reply
use Rattle.jb_state.specs.declared.look.Answer.TheVariants as answer
use Rattle.jb_state.specs.declared.look.Question.TheVariants as question
use Rattle.jb_state.specs.declared.summary.Summary.{Summary}
use Rattle.jb_text.specs.Letter.{line}
use Rattle.jb_news.specs.declared.line.NewsLine.{NewsLine}
use Rattle.jb_news.specs.declared.line.NewsLine.TheVariants.{Line}
use Rattle.jb_news.specs.Words.{words_of}
use Rattle.jb_speech.specs.Conversations.{conversation}
use Rattle.jb_speech.specs.declared.end.TalkEnd.TheVariants.{Quit}
use Rattle.jb_speech.specs.declared.request.Act.{Act}
use Rattle.jb_speech.specs.declared.request.Act.TheVariants as act
use Rattle.jb_speech.specs.declared.request.Request.{Request}
use Rattle.jb_speech.specs.declared.request.Request.TheVariants.{Area}
use Rattle.jb_news_talk.specs.Conversations.{end_of, given_in, manner_of}

abbrev address : List ℕ
address = codes "2:5020/1042"

abbrev area : BoardArea
area = record {
  name = codes "general";
  dir = codes "areas";
  base = codes "general";
  rules = record { ordinal = 1; address = address; kind = Local; read = 0; post = 0; sysop = 100; slots = 100 };
}

abbrev person : BoardUser
person = record {
  user = record { name = codes "Hello"; id = 8; level = 50 };
  salt = [];
  digest = [];
}

area_in_range : IsAreaInRange address area
area_in_range = record {
  name = (omega arith, omega arith);
  printed = refl;
  dir = (omega arith, omega arith);
  base = (omega arith, omega arith);
  under = refl;
  slots_some = omega arith;
  slots = omega arith;
}

numbered : (i : ℕ) (absent : BoardArea) → i < 1 → (slice_index_or (area ∷ []) i absent).rules.ordinal ≡ i + 1
numbered zero absent within = refl
numbered (suc i) absent within = absurd (omega arith)

-- one area makes no pair
areas_in_range : AreAreasInRange address (area ∷ [])
areas_in_range = record {
  each = All-cons (IsAreaInRange address) area [] area_in_range (All-nil (IsAreaInRange address));
  names = λ i j d below within. absurd (omega arith);
  places = λ i j d below within. absurd (omega arith);
  numbered = numbered;
  together = omega arith;
}

users_in_range : AreUsersInRange (person ∷ [])
users_in_range = record {
  each = All-cons IsUserInRange person [] (record { name = (omega arith, omega arith); printed = refl; id_some = omega arith; id = omega arith; salt = omega arith }) (All-nil IsUserInRange);
  names = λ i j d below within. absurd (omega arith);
  ids = λ i j d below within. absurd (omega arith);
}

-- where no port is named, all that is said of it holds
no_port : ForSome None (λ port. (port ≤ 65535) × (1 < MOST_NODES))
no_port = λ port named. absurd cc

-- a board with one area, which news reads and is not the sysop of
abbrev board : Board
board = record {
  name = codes "Test Board";
  address = address;
  port = 2323;
  nodes = 1;
  offset = pos 0;
  pack_minutes = 60;
  news_port = None;
  news_level = 10;
  areas = area ∷ [];
  users = person ∷ [];
  unknown = [];
  in_range = record {
    name_count = (omega arith, omega arith);
    name_bytes = refl;
    address_count = (omega arith, omega arith);
    address_bytes = refl;
    nodes_least = omega arith;
    nodes_most = omega arith;
    offset_least = omega arith;
    offset_most = omega arith;
    pack_most = omega arith;
    news_most = no_port;
    news_level_most = omega arith;
    area_count = (omega arith, omega arith);
    area_values = areas_in_range;
    user_count = (omega arith, omega arith);
    user_values = users_in_range;
  };
}

-- lines, each with its end
abbrev lines : List (List ℕ) → List ℕ
lines texts = flat_map line texts

-- what the area is asked
abbrev asks : Act → Request
asks wanted = Area (record { user = 0; area = 0; act = wanted })

-- a group with one message, of which this is the text
module _ (one : Summary) (letter : Letter) where
  abbrev said : List NewsLine
  said = Line (codes "GROUP jam.1") ∷ Line (codes "STAT") ∷ Line (codes "ARTICLE 2") ∷ Line (codes "BODY 1") ∷ Line (codes "QUIT") ∷ []

  abbrev shown : Given
  shown = given.Reply (reply.Text (record letter { text = codes "Good" ++ 13 ∷ [] }))

  abbrev answered : List Given
  answered =
      given.Answer (answer.Figures (record { base = 1; next = 2; visible = 1; unread = 1; last = 0; high = 0 }))
      ∷ given.Answer (answer.Summaries (record one { number = 1 } ∷ []))
      ∷ shown
      ∷ given.Reply (reply.NoMessage 2)
      ∷ shown
      ∷ []

  -- what is sent
  session_sent : (conversation (manner_of board) answered said).course.out ≡ lines
      (codes "201 Test Board" ∷ codes "211 1 1 1 jam.1" ∷ codes "223 1 <1.1@jam.invalid>" ∷ codes "423 No such number" ∷ codes "222 1 <1.1@jam.invalid>" ∷ codes "Good"
      ∷ codes "." ∷ codes "205 Bye" ∷ [])
  unfolding words_of digits given_in
  session_sent = refl

  -- what is asked: the figures, the first message, and then the messages that are shown
  session_asked : (conversation (manner_of board) answered said).course.asked ≡ asks (act.Look question.Figures) ∷ asks (act.Look (question.List 0 1))
      ∷ asks (act.Ask (Peek 1)) ∷ asks (act.Ask (Peek 2)) ∷ asks (act.Ask (Peek 1)) ∷ []
  unfolding words_of digits given_in
  session_asked = refl

  -- how it ends
  session_ended : (taken : ℕ) → end_of (conversation (manner_of board) answered said).course.place.stage taken ≡ Quit
  unfolding words_of digits given_in
  session_ended taken = refl
