-- Sessions step by step, worked by hand from the table of the menus and the texts of a session: beside what is given stands what
-- is done then. A caret in a text is the end of a line.
use Rattle.std.proofs.Common.{◌≡◌, ℕ, zero, suc, ◌<◌, ◌+◌, ◌==◌, true, false, IsTrue, List, [], ◌∷◌, ◌++◌, Some, None, Ok, Err, AllPairs, length, slice_index_or, map, flat_map, replicate, codes, pos, refl, ap, arith, if◌then◌else◌}
use Rattle.std.specs.Char.{to_ascii_lowercase}
use Rattle.std.specs.List.{list_all}
use Rattle.std.proofs.lemmas.List.Elements.{All-cons, All-nil}
use Rattle.std.proofs.lemmas.List.Kept.{AllPairs-cons}
use Rattle.std.specs.Fmt.{digits}
use Rattle.jb_base.specs.declared.area.Kind.TheVariants.{Local}
use Rattle.jb_base.specs.declared.area.Rule.TheVariants.{A1, A4, A6}
use Rattle.jb_conf.specs.declared.board.Board.{Board}
use Rattle.jb_conf.specs.InRange.{AreAreasInRange, AreUsersInRange, HasCount, IsAreaInRange, IsUserInRange}
use Rattle.jb_conf.specs.Ranges.{is_printed}
use Rattle.jb_conf.specs.declared.board.BoardArea.{BoardArea}
use Rattle.jb_conf.specs.declared.board.BoardUser.{BoardUser}
use Rattle.jb_state.specs.Short.{short_of}
use Rattle.jb_model.specs.declared.command.Command.TheVariants as command
use Rattle.jb_model.specs.declared.command.Field.TheVariants as field
use Rattle.jb_state.specs.declared.look.Answer.TheVariants.{Summaries, Figures as TheFigures}
use Rattle.jb_state.specs.declared.look.Question.TheVariants as question
use Rattle.jb_state.specs.declared.look.Question.TheVariants.{Figures}
use Rattle.jb_state.specs.declared.look.SharedFault.TheVariants.{StoreFault, RunSpent, Barred}
use Rattle.jb_model.specs.declared.reply.Reply.TheVariants as reply
use Rattle.jb_state.specs.declared.summary.Summary.{Summary}
use Rattle.jb_page.specs.declared.page.PageError.TheVariants.{Full, Spent}
use Rattle.jb_text.specs.Date.{clock_of, date_text, month_and_day, year_and_day}
use Rattle.jb_text.specs.Letter.{heading_text}
use Rattle.jb_menu.specs.CommandLines.{command_of}
use Rattle.jb_menu.specs.LogIn.{login_row}
use Rattle.jb_menu.specs.Menu.{menu_turn, stage_turn, user_in}
use Rattle.jb_menu.specs.declared.given.Given.{Given}
use Rattle.jb_menu.specs.declared.given.Given.TheVariants.{Line, Reply, Answer, Count, Fault, Page, Sent}
use Rattle.jb_menu.specs.declared.moves.MenuEnd.{MenuEnd}
use Rattle.jb_menu.specs.declared.moves.MenuEnd.TheVariants.{Quit, LoginRefused}
use Rattle.jb_menu.specs.declared.moves.Move.{Move}
use Rattle.jb_menu.specs.declared.moves.Move.TheVariants as move
use Rattle.jb_menu.specs.declared.moves.Move.TheVariants.{Ask, Look}
use Rattle.jb_menu.specs.declared.state.Composing.TheVariants.{Edit, New}
use Rattle.jb_menu.specs.declared.state.MenuStage.TheVariants.{Text}
use Rattle.jb_menu.specs.declared.state.State.{State}
use Rattle.jb_menu.specs.declared.state.State.TheVariants.{Area, Ended, Name, Top}

abbrev address : List ℕ
address = codes "2:5020/1042"

-- an area with this ordinal, name and reading level
abbrev area : ℕ → List ℕ → ℕ → BoardArea
area ordinal name read = record {
  name = name;
  dir = codes "areas";
  base = name;
  rules = record { ordinal = ordinal; address = address; kind = Local; read = read; post = 0; sysop = 255; slots = 16000 };
}

abbrev areas : List BoardArea
areas = area 1 (codes "general") 10 ∷ area 2 (codes "staff") 200 ∷ area 3 (codes "news") 50 ∷ []

abbrev people : List BoardUser
people = record {
  user = record { name = codes "Hello"; id = 8; level = 50 };
  salt = [];
  digest = [];
} ∷ []

area_in_range : (ordinal read : ℕ) (name : List ℕ) → HasCount 1 24 name → IsTrue (list_all is_printed name) → IsAreaInRange address (area ordinal name read)
area_in_range ordinal read name count printed = record {
  name = count;
  printed = printed;
  dir = (omega arith, omega arith);
  base = (count.0, omega (arith, count.1));
  under = refl;
  slots_some = omega arith;
  slots = omega arith;
}

-- what holds of three two by two
apart : (R : BoardArea → BoardArea → Type 0) (x y z : BoardArea) → R x y → R x z → R y z → AllPairs R (x ∷ y ∷ z ∷ [])
apart R x y z a b c =
    let none : AllPairs R [] = λ i j d below within. absurd (omega arith) in
    AllPairs-cons R x (y ∷ z ∷ []) (All-cons (R x) y (z ∷ []) a (All-cons (R x) z [] b (All-nil (R x))))
    (AllPairs-cons R y (z ∷ []) (All-cons (R y) z [] c (All-nil (R y))) (AllPairs-cons R z [] (All-nil (R z)) none))

-- the area at a place
area_at : (k : ℕ) (d : BoardArea) → k < 3 → IsAreaInRange address (slice_index_or areas k d) × ((slice_index_or areas k d).rules.ordinal ≡ k + 1)
area_at zero d within = (area_in_range 1 10 (codes "general") (omega arith, omega arith) refl, refl)
area_at (suc zero) d within = (area_in_range 2 200 (codes "staff") (omega arith, omega arith) refl, refl)
area_at (suc (suc zero)) d within = (area_in_range 3 50 (codes "news") (omega arith, omega arith) refl, refl)
area_at (suc (suc (suc k))) d within = absurd (omega arith)

areas_in_range : AreAreasInRange address areas
areas_in_range = record {
  each = λ k d within. (area_at k d within).0;
  names = apart (λ one other. map to_ascii_lowercase one.name ≡ map to_ascii_lowercase other.name → ⊥) _ _ _ (λ same. let e : 7 ≡ 5 = ap length same in omega arith) (λ same. let e : 7 ≡ 4 = ap length same in omega arith) (λ same. let e : 5 ≡ 4 = ap length same in omega arith);
  places = apart (λ one other. (one.dir ≡ other.dir) × (one.base ≡ other.base) → ⊥) _ _ _ (λ same. let e : 7 ≡ 5 = ap length same.1 in omega arith) (λ same. let e : 7 ≡ 4 = ap length same.1 in omega arith) (λ same. let e : 5 ≡ 4 = ap length same.1 in omega arith);
  numbered = λ k d within. (area_at k d within).1;
  together = omega arith;
}

users_in_range : AreUsersInRange people
users_in_range = record {
  each = All-cons IsUserInRange _ [] (record { name = (omega arith, omega arith); printed = refl; id_some = omega arith; id = omega arith; salt = omega arith }) (All-nil IsUserInRange);
  names = λ i j d below within. absurd (omega arith);
  ids = λ i j d below within. absurd (omega arith);
}

-- a board with three areas, of which the second is not for its one user
abbrev board : Board
board = record {
  name = codes "Test Board";
  address = address;
  port = 2323;
  nodes = 1;
  offset = pos 0;
  pack_minutes = 60;
  news_port = None;
  news_level = 0;
  areas = areas;
  users = people;
  unknown = [];
  in_range = record {
    name_count = (omega arith, omega arith);
    name_bytes = refl;
    address_count = (omega arith, omega arith);
    address_bytes = refl;
    nodes_least = omega arith;
    nodes_most = omega arith;
    offset_least = omega arith;
    offset_most = omega arith;
    pack_most = omega arith;
    news_most = λ port e. absurd cc;
    news_level_most = omega arith;
    area_count = (omega arith, omega arith);
    area_values = areas_in_range;
    user_count = (omega arith, omega arith);
    user_values = users_in_range;
  };
}

-- a text with the ends of its lines
abbrev lines : List ℕ → List ℕ
lines text = flat_map (λ byte. if byte == 94 then 13 ∷ 10 ∷ [] else byte ∷ []) text

-- what is said, and what is said where the next line is typed unseen or the session is over
abbrev says : List ℕ → Move
says text = move.Say (lines text) false

abbrev unseen : Move
unseen = move.Say (codes "Password: ") true

abbrev ends : List ℕ → MenuEnd → Move
ends text end = move.End (lines text) end

-- figures, a list of messages with these numbers, and a message that was read, from Test to Hello
abbrev counted : ℕ → ℕ → Given
counted visible unread = Answer (TheFigures (record { base = 1; next = 100; visible = visible; unread = unread; last = 0; high = 0 }))

abbrev summary : ℕ → Summary
summary number = record {
  number = number;
  from = short_of 36 (codes "Test");
  to = short_of 36 (codes "Hello");
  subject = short_of 72 (codes "abc");
  written = 1000000000;
  attribute = 0x00800001;
  parent = 0;
}

abbrev listed : List ℕ → Given
listed numbers = Answer (Summaries (map summary numbers))

abbrev read : ℕ → ℕ → List ℕ → Given
read number attribute subject = Reply (reply.Text (record {
  number = number;
  from = codes "Test";
  to = codes "Hello";
  subject = subject;
  msgid = [];
  reply = [];
  written = 1000000000;
  attribute = attribute;
  reply_to = 0;
  reply_first = 0;
  reply_next = 0;
  text = codes "Good" ++ 13 ∷ [];
}))

-- a line of each of these letters and what stands behind it comes to the same
abbrev each : List ℕ → List ℕ → Move → List (Given × Move)
each letters behind step = map (λ letter. (Line (letter ∷ behind), step)) letters

-- what is done in this state with what is given, one after another
abbrev moves : State → List (Given × Move) → List Move
moves state [] = []
moves state (one ∷ rest) = (menu_turn board state one.0).step ∷ moves (menu_turn board state one.0).state rest

-- it is what stands beside it
abbrev Follows : State → List (Given × Move) → Type 0
Follows state script = moves state script ≡ map (λ one. one.1) script

-- a log-in: any line is a name, and what was not asked for is passed over
abbrev log_in : List (Given × Move)
log_in = (Count 1, says []) ∷ (listed (1 ∷ []), says []) ∷ (Line [], unseen) ∷ (Fault StoreFault, says []) ∷ []

log_in_steps : Follows (Name 0) log_in
unfolding menu_turn stage_turn
log_in_steps = refl

-- the user is greeted by the name of the settings; a log-in is refused three times, whatever the names are
log_ins : (login_row board 0 (Some 0) ≡ record { step = says (codes "Welcome, Hello.^Top> "); state = Top 0 })
    × (map (λ refused. login_row board refused None) (0 ∷ 1 ∷ 2 ∷ []) ≡ record { step = says (codes "Login incorrect.^Name: "); state = Name 1 }
    ∷ record { step = says (codes "Login incorrect.^Name: "); state = Name 2 } ∷ record { step = ends (codes "Login incorrect.^Goodbye.^") LoginRefused; state = Ended } ∷ [])
log_ins = (refl, refl)

-- commands outside of the areas; the second area is not for this user
abbrev top_commands : List (Given × Move)
top_commands =
    ((Line [], says (codes "Top> ")) ∷ (Line (codes "   "), says (codes "Top> ")) ∷ (counted 1 1, says []) ∷ (Reply (reply.Posted 2), says []) ∷ [])
    ++ each (codes "BCDEFHIJKLMNOPRSTUVWXYZbcdefhijklmnoprstuvwxyz") [] (says (codes "Unknown command.^Top> "))
    ++ each (codes "ABCDEFGHIJKLMNOPQRTUVWXYZabcdefghijklmnopqrtuvwxyz") (codes " 7") (says (codes "Unknown command.^Top> "))
    ++ each (codes "!?.-+") [] (says (codes "Unknown command.^Top> "))
    ++ ((Line (codes "AA"), says (codes "Unknown command.^Top> ")) ∷ (Line (codes "A1"), says (codes "Unknown command.^Top> "))
    ∷ (Line (codes "1A"), says (codes "Unknown command.^Top> ")) ∷ (Line (codes "1 1"), says (codes "Unknown command.^Top> "))
    ∷ (Line (codes "+1"), says (codes "Unknown command.^Top> ")) ∷ (Line (codes "-1"), says (codes "Unknown command.^Top> "))
    ∷ (Line (codes "0"), says (codes "No such area.^Top> ")) ∷ (Line (codes "2"), says (codes "No such area.^Top> "))
    ∷ (Line (codes "4"), says (codes "No such area.^Top> ")) ∷ (Line (codes "257"), says (codes "No such area.^Top> "))
    ∷ (Line (codes "4294967295"), says (codes "No such area.^Top> ")) ∷ (Line (codes "4294967296"), says (codes "Unknown command.^Top> "))
    ∷ (Line (codes "4294967297"), says (codes "Unknown command.^Top> ")) ∷ (Line (codes "9999999999"), says (codes "Unknown command.^Top> "))
    ∷ (Line (codes "00000000001"), says (codes "Unknown command.^Top> ")) ∷ (Line (codes "0000000001"), Look 0 Figures)
    ∷ (Fault Barred, says (codes "Index not open, try again.^Top> ")) ∷ (Line (codes "  3 "), Look 2 Figures) ∷ (Line (codes "1"), says [])
    ∷ (listed (1 ∷ []), says []) ∷ (Fault RunSpent, says (codes "History full.^Top> ")) ∷ (Line (codes "A"), move.Count 0) ∷ (Reply (reply.Posted 2), says [])
    ∷ (Count 1, move.Count 2) ∷ (Line (codes "q"), says [])
    ∷ (Count 1234567, says (codes "  1  general" ++ replicate 22 32 ++ codes "1 unread^  3  news                    1234567 unread^Top> "))
    ∷ (Line (codes " a "), move.Count 0) ∷ (Fault StoreFault, says (codes "Store fault: the change is in doubt.^Top> ")) ∷ (Line (codes "a"), move.Count 0)
    ∷ (Count 0, move.Count 2) ∷ (Fault Barred, says (codes "  1  general" ++ replicate 22 32 ++ codes "0 unread^Index not open, try again.^Top> "))
    ∷ (Line (codes "Q"), ends (codes "Goodbye.^") Quit) ∷ [])

top_commands_steps : Follows (Top 0) top_commands
unfolding menu_turn stage_turn command_of digits heading_text date_text clock_of year_and_day month_and_day
top_commands_steps = refl

-- commands of an area, lists among them, and what is said of each reply and each fault
abbrev area_commands : List (Given × Move)
area_commands =
    ((Line (codes "1"), Look 0 Figures) ∷ (counted 3 2, says (codes "3 visible, 2 unread.^[general] ")) ∷ (Line [], says (codes "[general] "))
    ∷ (Line (codes "  "), says (codes "[general] ")) ∷ (Count 1, says []) ∷ (Reply (reply.Killed 3), says []) ∷ [])
    ++ each (codes "ACDEFHIJKMOSTUVWacdefhijkmostuvw!?.-+") [] (says (codes "Unknown command.^[general] "))
    ++ each (codes "ABCDFGHIJNOPQRUVWXZabcdfghijnopqruvwxz!?.") (codes " 7") (says (codes "Unknown command.^[general] "))
    ++ ((Line (codes "LL"), says (codes "Unknown command.^[general] ")) ∷ (Line (codes "L7"), says (codes "Unknown command.^[general] "))
    ∷ (Line (codes "7L"), says (codes "Unknown command.^[general] ")) ∷ (Line (codes "L 7 8"), says (codes "Unknown command.^[general] "))
    ∷ (Line (codes "L -7"), says (codes "Unknown command.^[general] ")) ∷ (Line (codes "L +7"), says (codes "Unknown command.^[general] "))
    ∷ (Line (codes "K 4294967296"), says (codes "Unknown command.^[general] ")) ∷ (Line (codes "K 00000000007"), says (codes "Unknown command.^[general] "))
    ∷ (Line (codes "4294967296"), says (codes "Unknown command.^[general] ")) ∷ (Line (codes "00000000007"), says (codes "Unknown command.^[general] "))
    ∷ (Line (codes "7 7"), says (codes "Unknown command.^[general] ")) ∷ (Line (codes "L"), Look 0 (question.List 0 20)) ∷ (Line (codes "L"), says [])
    ∷ (Count 1, says []) ∷ (counted 1 1, says []) ∷ (listed [], says (codes "Nothing.^[general] ")) ∷ (Line (codes "  l "), Look 0 (question.List 0 20))
    ∷ (Fault Barred, says (codes "Index not open, try again.^[general] ")) ∷ (Line (codes "l   0000000007 "), Look 0 (question.List 7 20))
    ∷ (listed (7 ∷ 9 ∷ []), says (codes "       7  Test > Hello  abc^       9  Test > Hello  abc^[general] "))
    ∷ (Line (codes "L 4294967295"), Look 0 (question.List 4294967295 20)) ∷ (Fault RunSpent, says (codes "History full.^[general] "))
    ∷ (Line (codes "Y"), Look 0 (question.To 0 20)) ∷ (listed (1 ∷ []), says (codes "       1  Test > Hello  abc^[general] "))
    ∷ (Line (codes "y 4"), Look 0 (question.To 4 20)) ∷ (listed [], says (codes "Nothing.^[general] ")) ∷ (Line (codes "T 9"), Look 0 (question.Thread 9 100))
    ∷ (listed (9 ∷ []), says (codes "       9  Test > Hello  abc^[general] ")) ∷ (Line (codes "t 0"), Look 0 (question.Thread 0 100))
    ∷ (Fault StoreFault, says (codes "Store fault: the change is in doubt.^[general] ")) ∷ (Line (codes "k 7"), Ask 0 (command.Kill 7)) ∷ (Line (codes "k 7"), says [])
    ∷ (listed (1 ∷ []), says []) ∷ (Reply (reply.Killed 3), says (codes "Killed 3.^[general] ")) ∷ (Line (codes "K 0"), Ask 0 (command.Kill 0))
    ∷ (Reply (reply.NoMessage 9), says (codes "No such message.^[general] ")) ∷ (Line (codes "K  4294967295"), Ask 0 (command.Kill 4294967295))
    ∷ (Reply (reply.Denied A4), says (codes "Denied by rule A4.^[general] ")) ∷ (Line (codes "M 4"), Ask 0 (command.SetMark 4))
    ∷ (Reply (reply.Marked 4 5), says (codes "Mark is 4, high 5.^[general] ")) ∷ (Line (codes "m 0"), Ask 0 (command.SetMark 0))
    ∷ (Reply (reply.MarksFull 65000), says (codes "Marks full.^[general] ")) ∷ (Line (codes "X"), Ask 0 command.Pack)
    ∷ (Reply (reply.Packed 1 2 3), says (codes "Packed: base 1, live 2, dropped 3.^[general] ")) ∷ (Line (codes "x"), Ask 0 command.Pack)
    ∷ (Fault RunSpent, says (codes "History full.^[general] ")) ∷ (Line (codes "Z"), Ask 0 command.Relink)
    ∷ (Reply (reply.Relinked 4), says (codes "Relinked: 4 changed.^[general] ")) ∷ (Line (codes "z"), Ask 0 command.Relink)
    ∷ (Fault Barred, says (codes "Index not open, try again.^[general] ")) ∷ (Line (codes "b"), says (codes "Top> ")) ∷ (Line (codes "3"), Look 2 Figures)
    ∷ (counted 0 0, says (codes "0 visible, 0 unread.^[news] ")) ∷ (Line (codes "B"), says (codes "Top> ")) ∷ (Line (codes "1"), Look 0 Figures)
    ∷ (counted 3 2, says (codes "3 visible, 2 unread.^[general] ")) ∷ (Line (codes "q"), ends (codes "Goodbye.^") Quit) ∷ [])

area_commands_steps : Follows (Top 0) area_commands
unfolding menu_turn stage_turn command_of digits heading_text date_text clock_of year_and_day month_and_day
area_commands_steps = refl

-- reading by number and by N, and what R answers
abbrev reading : List (Given × Move)
reading =
    (Line (codes "1"), Look 0 Figures) ∷ (counted 3 2, says (codes "3 visible, 2 unread.^[general] "))
    ∷ (Line (codes "R"), says (codes "No message shown.^[general] ")) ∷ (Line (codes "5"), Ask 0 (command.Read 5)) ∷ (Line (codes "5"), says [])
    ∷ (Reply (reply.NoMessage 9), says (codes "No such message.^[general] ")) ∷ (Line (codes "r"), says (codes "No message shown.^[general] "))
    ∷ (Line (codes "0"), Ask 0 (command.Read 0)) ∷ (Fault StoreFault, says (codes "Store fault: the change is in doubt.^[general] "))
    ∷ (Line (codes "N"), Look 0 (question.Unread 0 1)) ∷ (Line (codes "n"), says []) ∷ (counted 1 1, says [])
    ∷ (listed [], says (codes "No unread messages.^[general] ")) ∷ (Line (codes "n"), Look 0 (question.Unread 0 1))
    ∷ (Fault Barred, says (codes "Index not open, try again.^[general] ")) ∷ (Line (codes "n"), Look 0 (question.Unread 0 1))
    ∷ (listed (6 ∷ 7 ∷ []), Ask 0 (command.Read 6)) ∷ (Reply (reply.Denied A4), says (codes "Denied by rule A4.^[general] "))
    ∷ (Line (codes "n"), Look 0 (question.Unread 0 1)) ∷ (listed (6 ∷ []), Ask 0 (command.Read 6)) ∷ (Fault RunSpent, says (codes "History full.^[general] "))
    ∷ (Line (codes "R"), says (codes "No message shown.^[general] ")) ∷ (Line (codes " 0000000001"), Ask 0 (command.Read 1))
    ∷ (read 1 0x00800001 (codes "abc"), says (codes "Message 1^From: Test^To: Hello^Subject: abc^Date: 2001-09-09 01:46:40^^Good^^[general] "))
    ∷ (Line (codes "R"), says (codes "Reply to Test, subject Re: abc^Text, . ends, ! cancels^")) ∷ (Line (codes "!"), says (codes "Cancelled.^[general] "))
    ∷ (Line (codes "2"), Ask 0 (command.Read 2)) ∷ (Reply (reply.NoMessage 9), says (codes "No such message.^[general] "))
    ∷ (Line (codes "r"), says (codes "Reply to Test, subject Re: abc^Text, . ends, ! cancels^")) ∷ (Line (codes "Good"), says [])
    ∷ (Line (codes "."), Ask 0 (command.Post (codes "Test") (codes "Re: abc") (codes "Good" ++ 13 ∷ []) 1 false))
    ∷ (Reply (reply.Posted 2), says (codes "Posted as 2.^[general] ")) ∷ (Line (codes "n"), Look 0 (question.Unread 0 1)) ∷ (listed (7 ∷ []), Ask 0 (command.Read 7))
    ∷ (read 7 0x00800005 (codes "Re: x"), Ask 0 (command.SetMark 7)) ∷ (Line (codes "q"), says [])
    ∷ (Reply (reply.Marked 4 5), says (codes "Message 7^From: Test^To: Hello^Subject: Re: x^Date: 2001-09-09 01:46:40^^Good^^[general] "))
    ∷ (Line (codes "R"), says (codes "Reply to Test, subject Re: x^Text, . ends, ! cancels^"))
    ∷ (Line (codes "."), Ask 0 (command.Post (codes "Test") (codes "Re: x") [] 7 true)) ∷ (Reply (reply.Denied A4), says (codes "Denied by rule A4.^[general] "))
    ∷ (Line (codes "N"), Look 0 (question.Unread 0 1)) ∷ (listed (8 ∷ []), Ask 0 (command.Read 8)) ∷ (read 8 0x00800001 (codes "re: y"), Ask 0 (command.SetMark 8))
    ∷ (Reply (reply.MarksFull 65000), says (codes "Message 8^From: Test^To: Hello^Subject: re: y^Date: 2001-09-09 01:46:40^^Good^^Marks full.^[general] "))
    ∷ (Line (codes "R"), says (codes "Reply to Test, subject Re: re: y^Text, . ends, ! cancels^")) ∷ (Line (codes "!"), says (codes "Cancelled.^[general] "))
    ∷ (Line (codes "N"), Look 0 (question.Unread 0 1)) ∷ (listed (9 ∷ []), Ask 0 (command.Read 9)) ∷ (read 9 0x00800001 (codes "z"), Ask 0 (command.SetMark 9))
    ∷ (Fault Barred, says (codes "Message 9^From: Test^To: Hello^Subject: z^Date: 2001-09-09 01:46:40^^Good^^Index not open, try again.^[general] "))
    ∷ (Line (codes "1"), Ask 0 (command.Read 1))
    ∷ (read 1 0x00800001 (replicate 72 97), says (codes "Message 1^From: Test^To: Hello^Subject: " ++ replicate 72 97 ++ codes "^Date: 2001-09-09 01:46:40^^Good^^[general] "))
    ∷ (Line (codes "R"), says (codes "Reply to Test, subject Re: " ++ replicate 68 97 ++ codes "^Text, . ends, ! cancels^"))
    ∷ (Line (codes "."), Ask 0 (command.Post (codes "Test") (codes "Re: " ++ replicate 68 97) [] 1 false))
    ∷ (Reply (reply.Posted 2), says (codes "Posted as 2.^[general] ")) ∷ (Line (codes "1"), Ask 0 (command.Read 1))
    ∷ (read 1 0x00800001 (codes "Re: " ++ replicate 69 98), says (codes "Message 1^From: Test^To: Hello^Subject: Re: " ++ replicate 69 98 ++ codes "^Date: 2001-09-09 01:46:40^^Good^^[general] "))
    ∷ (Line (codes "R"), says (codes "Reply to Test, subject Re: " ++ replicate 68 98 ++ codes "^Text, . ends, ! cancels^"))
    ∷ (Line (codes "!"), says (codes "Cancelled.^[general] ")) ∷ (Line (codes "B"), says (codes "Top> ")) ∷ (Line (codes "1"), Look 0 Figures)
    ∷ (counted 3 2, says (codes "3 visible, 2 unread.^[general] ")) ∷ (Line (codes "R"), says (codes "No message shown.^[general] "))
    ∷ (Line (codes "Q"), ends (codes "Goodbye.^") Quit) ∷ []

reading_steps : Follows (Top 0) reading
unfolding menu_turn stage_turn command_of digits heading_text date_text clock_of year_and_day month_and_day
reading_steps = refl

-- writing a message, and what is said of each reply to it
abbrev writing : List (Given × Move)
writing =
    (Line (codes "1"), Look 0 Figures) ∷ (counted 3 2, says (codes "3 visible, 2 unread.^[general] ")) ∷ (Line (codes "P"), says (codes "To: ")) ∷ (Count 1, says [])
    ∷ (Line [], says (codes "Cancelled.^[general] ")) ∷ (Line (codes "p"), says (codes "To: ")) ∷ (Line (codes " "), says (codes "Subject: "))
    ∷ (Reply (reply.Posted 2), says []) ∷ (Line [], says (codes "Private (Y/N): ")) ∷ (listed (1 ∷ []), says []) ∷ (Line [], says (codes "Text, . ends, ! cancels^"))
    ∷ (Fault StoreFault, says []) ∷ (Line (codes "!"), says (codes "Cancelled.^[general] ")) ∷ (Line (codes "p"), says (codes "To: "))
    ∷ (Line (codes "!"), says (codes "Subject: ")) ∷ (Line (codes "."), says (codes "Private (Y/N): ")) ∷ (Line (codes "Yes"), says (codes "Text, . ends, ! cancels^"))
    ∷ (Line [], says []) ∷ (Line (codes " a b "), says []) ∷ (Line (codes ". "), says []) ∷ (Line (codes "!!"), says [])
    ∷ (Line (codes "."), Ask 0 (command.Post (codes "!") (codes ".") (13 ∷ [] ++ codes " a b " ++ 13 ∷ [] ++ codes ". " ++ 13 ∷ [] ++ codes "!!" ++ 13 ∷ []) 0 false))
    ∷ (Line (codes "x"), says []) ∷ (Reply (reply.Posted 2), says (codes "Posted as 2.^[general] ")) ∷ (Line (codes "P"), says (codes "To: "))
    ∷ (Line (codes " Test "), says (codes "Subject: ")) ∷ (Line (codes " abc "), says (codes "Private (Y/N): "))
    ∷ (Line (codes "Y"), says (codes "Text, . ends, ! cancels^")) ∷ (Line (codes "."), Ask 0 (command.Post (codes " Test ") (codes " abc ") [] 0 true))
    ∷ (Reply (reply.EmptyName field.To), says (codes "Field To is empty.^[general] ")) ∷ (Line (codes "P"), says (codes "To: "))
    ∷ (Line (codes "q"), says (codes "Subject: ")) ∷ (Line (codes "q"), says (codes "Private (Y/N): ")) ∷ (Line (codes "y"), says (codes "Text, . ends, ! cancels^"))
    ∷ (Line (codes "q"), says []) ∷ (Line (codes "."), Ask 0 (command.Post (codes "q") (codes "q") (codes "q" ++ 13 ∷ []) 0 true))
    ∷ (Reply (reply.TooLong field.Subject 73), says (codes "Field Subject too long: 73 bytes.^[general] ")) ∷ (Line (codes "P"), says (codes "To: "))
    ∷ (Line (codes "a"), says (codes "Subject: ")) ∷ (Line (codes "b"), says (codes "Private (Y/N): ")) ∷ (Line (codes " y"), says (codes "Text, . ends, ! cancels^"))
    ∷ (Line (codes "."), Ask 0 (command.Post (codes "a") (codes "b") [] 0 false)) ∷ (Reply (reply.SlotsFull 16000), says (codes "Area full: 16000 slots.^[general] "))
    ∷ (Line (codes "P"), says (codes "To: ")) ∷ (Line (codes "a"), says (codes "Subject: ")) ∷ (Line (codes "b"), says (codes "Private (Y/N): "))
    ∷ (Line (codes "n"), says (codes "Text, . ends, ! cancels^")) ∷ (Line (codes "."), Ask 0 (command.Post (codes "a") (codes "b") [] 0 false))
    ∷ (Reply (reply.HeadersFull 9), says (codes "Headers full.^[general] ")) ∷ (Line (codes "P"), says (codes "To: ")) ∷ (Line (codes "a"), says (codes "Subject: "))
    ∷ (Line (codes "b"), says (codes "Private (Y/N): ")) ∷ (Line (codes "n"), says (codes "Text, . ends, ! cancels^"))
    ∷ (Line (codes "."), Ask 0 (command.Post (codes "a") (codes "b") [] 0 false)) ∷ (Reply (reply.TextFull 9), says (codes "Texts full.^[general] "))
    ∷ (Line (codes "P"), says (codes "To: ")) ∷ (Line (codes "a"), says (codes "Subject: ")) ∷ (Line (codes "b"), says (codes "Private (Y/N): "))
    ∷ (Line (codes "n"), says (codes "Text, . ends, ! cancels^")) ∷ (Line (codes "."), Ask 0 (command.Post (codes "a") (codes "b") [] 0 false))
    ∷ (Reply (reply.NumbersSpent 16777216), says (codes "Numbers spent at 16777216.^[general] ")) ∷ (Line (codes "P"), says (codes "To: "))
    ∷ (Line (codes "a"), says (codes "Subject: ")) ∷ (Line (codes "b"), says (codes "Private (Y/N): ")) ∷ (Line (codes "n"), says (codes "Text, . ends, ! cancels^"))
    ∷ (Line (codes "."), Ask 0 (command.Post (codes "a") (codes "b") [] 0 false)) ∷ (Fault RunSpent, says (codes "History full.^[general] ")) ∷ []

writing_steps : Follows (Top 0) writing
unfolding menu_turn stage_turn command_of digits heading_text date_text clock_of year_and_day month_and_day
writing_steps = refl

-- editing a message: its subject kept or typed, cancelled, refused; the message shown last stays the one that R answers
abbrev editing : List (Given × Move)
editing =
    (Line (codes "1"), Look 0 Figures) ∷ (counted 3 2, says (codes "3 visible, 2 unread.^[general] "))
    ∷ (Line (codes "E 1"), Ask 0 (command.Peek 1)) ∷ (Line (codes "E 1"), says []) ∷ (Count 1, says []) ∷ (listed (1 ∷ []), says [])
    ∷ (read 1 0x00800001 (codes "abc"), says (codes "Subject (empty keeps): ")) ∷ (Reply (reply.Edited 1), says []) ∷ (Fault StoreFault, says [])
    ∷ (Line [], says (codes "Text, . ends, ! cancels^")) ∷ (Count 1, says []) ∷ (Line (codes "Better"), says [])
    ∷ (Line (codes "."), Ask 0 (command.Edit 1 (codes "abc") (codes "Better" ++ 13 ∷ []))) ∷ (Line (codes "x"), says [])
    ∷ (Reply (reply.Edited 1), says (codes "Edited 1.^[general] ")) ∷ (Line (codes "R"), says (codes "No message shown.^[general] "))
    ∷ (Line (codes " e  1 "), Ask 0 (command.Peek 1)) ∷ (read 1 0x00800001 (codes "abc"), says (codes "Subject (empty keeps): "))
    ∷ (Line (codes " abcd "), says (codes "Text, . ends, ! cancels^")) ∷ (Line (codes "."), Ask 0 (command.Edit 1 (codes " abcd ") []))
    ∷ (Reply (reply.Denied A6), says (codes "Denied by rule A6.^[general] ")) ∷ (Line (codes "E 1"), Ask 0 (command.Peek 1))
    ∷ (read 1 0x00800001 (codes "abc"), says (codes "Subject (empty keeps): ")) ∷ (Line (codes "!"), says (codes "Text, . ends, ! cancels^"))
    ∷ (Line (codes "x"), says []) ∷ (Line (codes "!"), says (codes "Cancelled.^[general] ")) ∷ (Line (codes "E 9"), Ask 0 (command.Peek 9))
    ∷ (Reply (reply.NoMessage 9), says (codes "No such message.^[general] ")) ∷ (Line (codes "e 0"), Ask 0 (command.Peek 0))
    ∷ (Reply (reply.Denied A1), says (codes "Denied by rule A1.^[general] ")) ∷ (Line (codes "E 4294967295"), Ask 0 (command.Peek 4294967295))
    ∷ (Fault RunSpent, says (codes "History full.^[general] ")) ∷ (Line (codes "E 1"), Ask 0 (command.Peek 1))
    ∷ (read 1 0x00800001 (replicate 100 97), says (codes "Subject (empty keeps): ")) ∷ (Line [], says (codes "Text, . ends, ! cancels^"))
    ∷ (Line (codes "."), Ask 0 (command.Edit 1 (replicate 100 97) [])) ∷ (Reply (reply.SubfieldsFull 262145), says (codes "Subfields full: 262145 bytes.^[general] "))
    ∷ (Line (codes "E 1"), Ask 0 (command.Peek 1)) ∷ (read 1 0x00800001 [], says (codes "Subject (empty keeps): ")) ∷ (Line [], says (codes "Text, . ends, ! cancels^"))
    ∷ (Line (codes "."), Ask 0 (command.Edit 1 [] [])) ∷ (Reply (reply.NoMessage 1), says (codes "No such message.^[general] "))
    ∷ (Line (codes "2"), Ask 0 (command.Read 2))
    ∷ (read 2 0x00800001 (codes "z"), says (codes "Message 2^From: Test^To: Hello^Subject: z^Date: 2001-09-09 01:46:40^^Good^^[general] "))
    ∷ (Line (codes "E 1"), Ask 0 (command.Peek 1)) ∷ (read 1 0x00800001 (codes "abc"), says (codes "Subject (empty keeps): "))
    ∷ (Line (codes "."), says (codes "Text, . ends, ! cancels^")) ∷ (Line (codes "."), Ask 0 (command.Edit 1 (codes ".") []))
    ∷ (Fault StoreFault, says (codes "Store fault: the change is in doubt.^[general] "))
    ∷ (Line (codes "R"), says (codes "Reply to Test, subject Re: z^Text, . ends, ! cancels^"))
    ∷ (Line (codes "."), Ask 0 (command.Post (codes "Test") (codes "Re: z") [] 2 false)) ∷ []

editing_steps : Follows (Top 0) editing
unfolding menu_turn stage_turn command_of digits heading_text date_text clock_of year_and_day month_and_day
editing_steps = refl

-- a page with this text from the node, and a node that is full or whose pages are spent
abbrev a_page : List ℕ → Given
a_page text = Page (Some (record { from = 1; serial = 1; text = short_of 72 text }))

abbrev sends : List ℕ → Move
sends text = move.Send 1 (short_of 72 text)

-- pages outside of the areas and in one: sent, refused, taken, and to nodes that are not there; what was shown last stays
abbrev paging : List (Given × Move)
paging =
    (Line (codes "S 1"), says (codes "Page: ")) ∷ (Line (codes "hi"), sends (codes "hi")) ∷ (Sent (Ok tt), says (codes "Sent.^Top> "))
    ∷ (Line (codes "G"), move.Take) ∷ (a_page (codes "hi"), move.Take) ∷ (Page None, says (codes "Page from node 1: hi^Top> "))
    ∷ (Line (codes "G"), move.Take) ∷ (Page None, says (codes "No pages.^Top> ")) ∷ (Line (codes "S 3"), says (codes "No such node.^Top> "))
    ∷ (Line (codes "s  0"), says (codes "No such node.^Top> ")) ∷ (Line (codes "S 2"), says (codes "No such node.^Top> "))
    ∷ (Line (codes "s 1"), says (codes "Page: ")) ∷ (Sent (Ok tt), says []) ∷ (Page None, says []) ∷ (Line [], sends []) ∷ (Line (codes "q"), says [])
    ∷ (Fault StoreFault, says []) ∷ (Sent (Err (Full 1)), says (codes "Node 1 is full.^Top> ")) ∷ (Line (codes "1"), Look 0 Figures)
    ∷ (counted 3 2, says (codes "3 visible, 2 unread.^[general] ")) ∷ (Line (codes "1"), Ask 0 (command.Read 1))
    ∷ (read 1 0x00800001 (codes "abc"), says (codes "Message 1^From: Test^To: Hello^Subject: abc^Date: 2001-09-09 01:46:40^^Good^^[general] "))
    ∷ (Line (codes "S 1"), says (codes "Page: ")) ∷ (Line (replicate 72 97 ++ codes "bcdefg"), sends (replicate 72 97))
    ∷ (Sent (Err (Spent 72057594037927936)), says (codes "Pages spent.^[general] ")) ∷ (Line (codes "S 2"), says (codes "No such node.^[general] "))
    ∷ (Line (codes " g "), move.Take) ∷ (Line (codes "g"), says []) ∷ (Fault StoreFault, says []) ∷ (a_page (7 ∷ 255 ∷ []), move.Take)
    ∷ (a_page [], move.Take) ∷ (Page None, says (codes "Page from node 1: ?" ++ 255 ∷ codes "^Page from node 1: ^[general] "))
    ∷ (Line (codes "R"), says (codes "Reply to Test, subject Re: abc^Text, . ends, ! cancels^")) ∷ []

paging_steps : Follows (Top 0) paging
unfolding menu_turn stage_turn command_of digits heading_text date_text clock_of year_and_day month_and_day
paging_steps = refl

-- the sixty-fourth page is the last, and none is asked for behind it
abbrev many : List (Given × Move)
many = (Line (codes "G"), move.Take) ∷ replicate 63 (a_page (codes "hi"), move.Take)
    ++ (a_page (codes "hi"), says (flat_map (λ (line : List ℕ). line) (replicate 64 (codes "Page from node 1: hi^")) ++ codes "Top> ")) ∷ []

many_steps : Follows (Top 0) many
unfolding menu_turn stage_turn command_of digits heading_text date_text clock_of year_and_day month_and_day
many_steps = refl

-- a text of 207 lines of 79 bytes with their ends; 31 bytes more with their end make it 16,384
abbrev long_text : List ℕ
long_text = flat_map (λ (line : List ℕ). line ++ 13 ∷ []) (replicate 207 (replicate 78 120))

abbrev long : List (Given × Move)
long = (Line (replicate 31 121), says (codes "Text full, line dropped.^")) ∷ (Line (replicate 30 121), says []) ∷ (Line [], says (codes "Text full, line dropped.^"))
    ∷ (Line (codes "."), Ask 0 (command.Post (codes "a") (codes "b") (long_text ++ replicate 30 121 ++ 13 ∷ []) 0 false)) ∷ []

long_steps : Follows (Area (record { user = 0; area = 0; shown = None }) (Text (New (record { to = codes "a"; subject = codes "b"; reply_to = 0; private = false })) long_text)) long
unfolding menu_turn stage_turn command_of digits heading_text date_text clock_of year_and_day month_and_day
long_steps = refl

-- an edit is held to the same length of text
abbrev long_edit : List (Given × Move)
long_edit = (Line (replicate 31 121), says (codes "Text full, line dropped.^")) ∷ (Line (codes "."), Ask 0 (command.Edit 1 (codes "b") long_text)) ∷ []

long_edit_steps : Follows (Area (record { user = 0; area = 0; shown = None }) (Text (Edit 1 (codes "b")) long_text)) long_edit
unfolding menu_turn stage_turn command_of digits heading_text date_text clock_of year_and_day month_and_day
long_edit_steps = refl

-- the user is told from the log-in to the end
users : (user_in (Name 2) ≡ None) × (user_in (Top 0) ≡ Some 0)
users = (refl, refl)
