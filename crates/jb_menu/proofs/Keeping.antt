-- Each move leaves a state of the same board, and given what was asked for, the state waits for what the move asks for.
use Rattle.std.proofs.Common.{◌≡◌, ℕ, zero, suc, ◌+◌, ◌<◌, ◌≤◌, Bool, true, false, List, [], ◌∷◌, length, drop, Option, Some, None, ◌&&◌, refl, ap, arith, length-drop, if◌then◌else◌, nat_le, nat_lt}
use Rattle.std.specs.Prelude.{position, bytes_eq, codes, option_map, unwrap_or}
use Rattle.std.specs.List.{position_or_len}
use Rattle.std.proofs.lemmas.Bool.Decides.{nat_tests}
use Rattle.jb_limits.specs.declared.limits.TheConstants.{MOST_POSTED_TEXT_BYTES}
use Rattle.jb_conf.specs.declared.board.Board.{Board}
use Rattle.jb_conf.specs.LogIn.{logs_in}
use Rattle.jb_state.specs.declared.look.Answer.TheVariants as answer
use Rattle.jb_model.specs.declared.reply.Reply.TheVariants as reply
use Rattle.jb_menu.specs.Answers.{acting_row, listing_row, marking_row, reading_row, seeking_row}
use Rattle.jb_menu.specs.Areas.{area_command, area_row}
use Rattle.jb_menu.specs.Awaits.{AsksHere, Awaits, IsAt, IsFor, IsPageStage, Reaches, awaited_in, wanted_by}
use Rattle.jb_menu.specs.Boards.{area_named, is_named_for, level_of, may_read, next_area}
use Rattle.jb_menu.specs.CommandLines.{command_of}
use Rattle.jb_menu.specs.Editing.{edit_subject_row, peeking_row}
use Rattle.jb_menu.specs.LogIn.{login_row, name_row, password_row, refused_row}
use Rattle.jb_menu.specs.Menu.{menu_turn, stage_turn}
use Rattle.jb_menu.specs.Pages.{paging_turn, sending_row, taking_row, taken_row, to_prompt, write_row, writing_row}
use Rattle.jb_text.specs.declared.standing.Fixed.TheVariants.{AskPage, NoSuchNode}
use Rattle.jb_text.specs.Fixed.{fixed_text}
use Rattle.jb_text.specs.Letter.{line}
use Rattle.jb_menu.specs.Says.{say}
use Rattle.jb_menu.specs.Top.{count_row, counting_row, enter_row, entering_row, top_command, top_row}
use Rattle.jb_menu.specs.Writing.{private_row, reply_row, subject_row, text_row, to_row}
use Rattle.jb_menu.specs.declared.command_line.CommandLetter.TheVariants.{A, B, E, G, K, Q, R, S}
use Rattle.jb_menu.specs.declared.command_line.CommandLine.{CommandLine}
use Rattle.jb_menu.specs.declared.command_line.CommandLine.TheVariants.{Empty, Letter, LetterNumber, Number}
use Rattle.jb_menu.specs.declared.given.Given.{Given}
use Rattle.jb_menu.specs.declared.given.Given.TheVariants.{Answer, Count, Fault, Line, Page, Reply, Sent}
use Rattle.jb_menu.specs.declared.moves.Moved.{Moved}
use Rattle.jb_menu.specs.declared.state.At.{At}
use Rattle.jb_menu.specs.declared.state.At.TheVariants as at
use Rattle.jb_menu.specs.declared.state.Composing.{Composing}
use Rattle.jb_menu.specs.declared.state.Shown.{Shown}
use Rattle.jb_menu.specs.declared.state.MenuStage.{MenuStage}
use Rattle.jb_menu.specs.declared.state.MenuStage.TheVariants as stage
use Rattle.jb_menu.specs.declared.state.PageStage.{PageStage}
use Rattle.jb_menu.specs.declared.state.PageStage.TheVariants as pages
use Rattle.jb_menu.specs.declared.state.State.{State}
use Rattle.jb_menu.specs.declared.state.State.TheVariants as state
use Rattle.jb_menu.specs.declared.state.Visit.{Visit}

-- a move leaves a state of the board; given what was asked for, the state waits for what the move asks for
pub record Holds (on : Board) (before : State) (given : Given) (moved : Moved) : Type 0 where
  pub board : IsFor on moved.state
  pub awaits : Awaits before given → awaited_in moved.state ≡ wanted_by moved.step
  pub here : AsksHere moved.step moved.state
  pub reaches : Reaches on moved.step

-- a move that asks for what the state after it waits for, in its area
abbrev Fits : Board → Moved → Type 0
Fits on moved = IsFor on moved.state × (awaited_in moved.state ≡ wanted_by moved.step) × AsksHere moved.step moved.state × Reaches on moved.step

-- what is not asked for is not given
never : {X : Type 0} → false ≡ true → X
never e = absurd (grind arith)

-- such a move holds, whatever was given
fitting : (on : Board) (before : State) (given : Given) (moved : Moved) → Fits on moved → Holds on before given moved
fitting on before given moved fits = record { board = fits.0; awaits = λ _. fits.1; here = fits.2; reaches = fits.3 }

-- whichever way a test comes out
either : (on : Board) (b : Bool) (then_so else_so : Moved) → Fits on then_so → Fits on else_so → Fits on (if b then then_so else else_so)
either on true then_so else_so h k = h
either on false then_so else_so h k = k

-- a place that is found lies within the list
counted_within : (b : Bool) (m k n : ℕ) → nat_lt m k ≡ b → (if b then Some m else None) ≡ Some n → n < k
counted_within true m k n below found =
    let same : m ≡ n = ap (λ (o : Option ℕ). unwrap_or o 0) found in
    grind (arith, nat_tests)
counted_within false m k n below found = absurd (grind arith)

found_within : {X : Type 0} (p : X → Bool) (xs : List X) (n : ℕ) → position p xs ≡ Some n → n < length xs
found_within p xs n found =
    counted_within (nat_lt (position_or_len p xs) (length xs)) (position_or_len p xs) (length xs) n refl found

-- and so does one that is found from a place on
found_from : (from k n : ℕ) (o : Option ℕ) → ((m : ℕ) → o ≡ Some m → from + m < k) → option_map (λ m. from + m) o ≡ Some n → n < k
found_from from k n (Some m) within found =
    let same : from + m ≡ n = ap (λ (o : Option ℕ). unwrap_or o 0) found in
    omega (arith, within m refl)
found_from from k n None within found = absurd (grind arith)

next_within : (on : Board) (user from n : ℕ) → next_area on user from ≡ Some n → n < length on.areas
next_within on user from n found =
    found_from from (length on.areas) n (position (may_read (level_of on user)) (drop from on.areas))
    (λ m here. omega (arith, found_within (may_read (level_of on user)) (drop from on.areas) m here, length-drop from on.areas)) found

named_within : (on : Board) (user number n : ℕ) → area_named on user number ≡ Some n → n < length on.areas
named_within on user number n found = found_within (is_named_for (level_of on user) number) on.areas n found

-- the log-in
fits_refused : (on : Board) (refused : ℕ) → Fits on (refused_row refused)
unfolding IsFor awaited_in
fits_refused on refused = either on (nat_lt refused 2) _ _ (tt, refl, refl, tt) (tt, refl, refl, tt)

fits_login : (on : Board) (refused : ℕ) (found : Option ℕ) → ((user : ℕ) → found ≡ Some user → user < length on.users)
    → Fits on (login_row on refused found)
unfolding IsFor awaited_in
fits_login on refused (Some user) within = (within user refl, refl, refl, tt)
fits_login on refused None within = fits_refused on refused

holds_name : (on : Board) (refused : ℕ) (given : Given) → Holds on (state.Name refused) given (name_row refused given)
unfolding IsFor awaited_in
holds_name on refused (Line typed) = record { board = tt; awaits = λ _. refl; here = refl; reaches = tt }
holds_name on refused _ = record { board = tt; awaits = λ _. refl; here = refl; reaches = tt }

holds_password : (on : Board) (refused : ℕ) (name : List ℕ) (given : Given)
    → Holds on (state.Password refused name) given (password_row on refused name given)
unfolding IsFor awaited_in
holds_password on refused name (Line typed) =
    fitting on (state.Password refused name) (Line typed) (password_row on refused name (Line typed))
    (fits_login on refused (position (logs_in name typed) on.users) (λ user found. found_within (logs_in name typed) on.users user found))
holds_password on refused name _ = record { board = tt; awaits = λ _. refl; here = refl; reaches = tt }

-- pages
fits_prompt : (on : Board) (place : At) (lines : List ℕ) → IsAt on place → Fits on (to_prompt on place lines)
unfolding IsFor awaited_in
fits_prompt on (at.Top user) lines is_place = (is_place.0, refl, refl, tt)
fits_prompt on (at.Area visit) lines is_place = (is_place, refl, refl, tt)

write_within : (on : Board) (place : At) (to : ℕ) (some within : Bool) → nat_lt 0 to ≡ some → nat_le to on.nodes ≡ within → IsAt on place
    → Fits on (if some && within then say (fixed_text AskPage) (state.Paging place (pages.Writing to)) else to_prompt on place (line (fixed_text NoSuchNode)))
unfolding IsFor awaited_in
write_within on place to true true is_some is_within is_at = ((is_at, (grind (arith, nat_tests), grind (arith, nat_tests))), refl, refl, tt)
write_within on place to true false is_some is_within is_at = fits_prompt on place _ is_at
write_within on place to false within is_some is_within is_at = fits_prompt on place _ is_at

fits_write : (on : Board) (place : At) (to : ℕ) → IsAt on place → Fits on (write_row on place to)
fits_write on place to is_at = write_within on place to (nat_lt 0 to) (nat_le to on.nodes) refl refl is_at

fits_taken : (on : Board) (place : At) (lines : List ℕ) (left : ℕ) → IsAt on place → Fits on (taken_row on place lines left)
unfolding IsFor awaited_in
fits_taken on place lines zero is_at = fits_prompt on place lines is_at
fits_taken on place lines (suc left) is_at = ((is_at, tt), refl, refl, tt)

holds_writing : (on : Board) (place : At) (to : ℕ) (given : Given) → IsAt on place → (0 < to) × (to ≤ on.nodes)
    → Holds on (state.Paging place (pages.Writing to)) given (writing_row place to given)
unfolding IsFor awaited_in
holds_writing on place to (Line typed) is_at is_node = record { board = (is_at, tt); awaits = λ _. refl; here = refl; reaches = is_node }
holds_writing on place to _ is_at is_node = record { board = (is_at, is_node); awaits = λ _. refl; here = refl; reaches = tt }

holds_sending : (on : Board) (place : At) (given : Given) → IsAt on place
    → Holds on (state.Paging place pages.Sending) given (sending_row on place given)
unfolding IsFor awaited_in
holds_sending on place (Sent result) is_at =
    fitting on (state.Paging place pages.Sending) (Sent result) (sending_row on place (Sent result)) (fits_prompt on place _ is_at)
holds_sending on place _ is_at = record { board = (is_at, tt); awaits = λ asked. never asked; here = refl; reaches = tt }

holds_taking : (on : Board) (place : At) (lines : List ℕ) (left : ℕ) (given : Given) → IsAt on place
    → Holds on (state.Paging place (pages.Taking lines left)) given (taking_row on place lines left given)
unfolding IsFor awaited_in
holds_taking on place lines left (Page (Some page)) is_at =
    fitting on (state.Paging place (pages.Taking lines left)) (Page (Some page)) (taking_row on place lines left (Page (Some page)))
    (fits_taken on place _ left is_at)
holds_taking on place lines left (Page None) is_at =
    fitting on (state.Paging place (pages.Taking lines left)) (Page None) (taking_row on place lines left (Page None)) (fits_prompt on place _ is_at)
holds_taking on place lines left _ is_at = record { board = (is_at, tt); awaits = λ asked. never asked; here = refl; reaches = tt }

holds_paging : (on : Board) (place : At) (stage : PageStage) (given : Given) → IsAt on place × IsPageStage on stage
    → Holds on (state.Paging place stage) given (paging_turn on place stage given)
holds_paging on place (pages.Writing to) given of = holds_writing on place to given of.0 of.1
holds_paging on place pages.Sending given of = holds_sending on place given of.0
holds_paging on place (pages.Taking lines left) given of = holds_taking on place lines left given of.0

-- outside of the areas
fits_count : (on : Board) (user : ℕ) (lines : List ℕ) (next : Option ℕ) → user < length on.users
    → ((area : ℕ) → next ≡ Some area → area < length on.areas) → Fits on (count_row user lines next)
unfolding IsFor awaited_in
fits_count on user lines (Some area) is_user within = ((is_user, within area refl), refl, refl, tt)
fits_count on user lines None is_user within = (is_user, refl, refl, tt)

fits_enter : (on : Board) (user : ℕ) (area : Option ℕ) → user < length on.users
    → ((place : ℕ) → area ≡ Some place → place < length on.areas) → Fits on (enter_row user area)
unfolding IsFor awaited_in
fits_enter on user (Some area) is_user within = ((is_user, within area refl), refl, refl, tt)
fits_enter on user None is_user within = (is_user, refl, refl, tt)

fits_top : (on : Board) (user : ℕ) (typed : CommandLine) → user < length on.users → Fits on (top_command on user typed)
unfolding IsFor awaited_in
fits_top on user Empty is_user = (is_user, refl, refl, tt)
fits_top on user (Letter A) is_user =
    fits_count on user [] (next_area on user 0) is_user (λ area found. next_within on user 0 area found)
fits_top on user (Letter Q) is_user = (tt, refl, refl, tt)
fits_top on user (LetterNumber S number) is_user = fits_write on (at.Top user) number (is_user, tt)
fits_top on user (Number number) is_user =
    fits_enter on user (area_named on user number) is_user (λ area found. named_within on user number area found)
fits_top on user (Letter G) is_user = (((is_user, tt), tt), refl, refl, tt)
fits_top on user _ is_user = (is_user, refl, refl, tt)

holds_top : (on : Board) (user : ℕ) (given : Given) → user < length on.users → Holds on (state.Top user) given (top_row on user given)
unfolding IsFor awaited_in
holds_top on user (Line typed) is_user =
    fitting on (state.Top user) (Line typed) (top_row on user (Line typed)) (fits_top on user (command_of typed) is_user)
holds_top on user _ is_user = record { board = is_user; awaits = λ _. refl; here = refl; reaches = tt }

holds_counting : (on : Board) (user area : ℕ) (lines : List ℕ) (given : Given) → user < length on.users → area < length on.areas
    → Holds on (state.Counting user area lines) given (counting_row on user area lines given)
unfolding IsFor awaited_in
holds_counting on user area lines (Count unread) is_user is_area =
    fitting on (state.Counting user area lines) (Count unread) (counting_row on user area lines (Count unread))
    (fits_count on user _ (next_area on user (area + 1)) is_user (λ place found. next_within on user (area + 1) place found))
holds_counting on user area lines (Fault fault) is_user is_area = record { board = is_user; awaits = λ _. refl; here = refl; reaches = tt }
holds_counting on user area lines _ is_user is_area = record { board = (is_user, is_area); awaits = λ asked. never asked; here = refl; reaches = tt }

holds_entering : (on : Board) (user area : ℕ) (given : Given) → user < length on.users → area < length on.areas
    → Holds on (state.Entering user area) given (entering_row on user area given)
unfolding IsFor awaited_in
holds_entering on user area (Answer (answer.Figures numbers)) is_user is_area = record { board = (is_user, is_area); awaits = λ _. refl; here = refl; reaches = tt }
holds_entering on user area (Fault fault) is_user is_area = record { board = is_user; awaits = λ _. refl; here = refl; reaches = tt }
holds_entering on user area _ is_user is_area = record { board = (is_user, is_area); awaits = λ asked. never asked; here = refl; reaches = tt }

-- the board has the user and the area of a visit
abbrev IsPlace : Board → Visit → Type 0
IsPlace on visit = (visit.user < length on.users) × (visit.area < length on.areas)

-- the commands of an area
fits_reply : (on : Board) (visit : Visit) (shown : Option Shown) → IsPlace on visit → Fits on (reply_row on visit shown)
unfolding IsFor awaited_in
fits_reply on visit None place = (place, refl, refl, tt)
fits_reply on visit (Some shown) place = (place, refl, refl, tt)

fits_area : (on : Board) (visit : Visit) (typed : CommandLine) → IsPlace on visit → Fits on (area_command on visit typed)
unfolding IsFor awaited_in
fits_area on visit (Letter B) place = (place.0, refl, refl, tt)
fits_area on visit (Letter G) place = ((place, tt), refl, refl, tt)
fits_area on visit (Letter Q) place = (tt, refl, refl, tt)
fits_area on visit (Letter R) place = fits_reply on visit visit.shown place
fits_area on visit (LetterNumber E number) place = (place, refl, refl, tt)
fits_area on visit (LetterNumber K number) place = (place, refl, refl, tt)
fits_area on visit (LetterNumber S number) place = fits_write on (at.Area visit) number place
fits_area on visit _ place = (place, refl, refl, tt)

holds_area : (on : Board) (visit : Visit) (given : Given) → IsPlace on visit → Holds on (state.Area visit stage.Prompt) given (area_row on visit given)
unfolding IsFor awaited_in
holds_area on visit (Line typed) place =
    fitting on (state.Area visit stage.Prompt) (Line typed) (area_row on visit (Line typed)) (fits_area on visit (command_of typed) place)
holds_area on visit _ place = record { board = place; awaits = λ _. refl; here = refl; reaches = tt }

-- what an area answers
holds_listing : (on : Board) (visit : Visit) (given : Given) → IsPlace on visit
    → Holds on (state.Area visit stage.Listing) given (listing_row on visit given)
unfolding IsFor awaited_in
holds_listing on visit (Answer (answer.Summaries messages)) place = record { board = place; awaits = λ _. refl; here = refl; reaches = tt }
holds_listing on visit (Fault fault) place = record { board = place; awaits = λ _. refl; here = refl; reaches = tt }
holds_listing on visit _ place = record { board = place; awaits = λ asked. never asked; here = refl; reaches = tt }

holds_seeking : (on : Board) (visit : Visit) (given : Given) → IsPlace on visit
    → Holds on (state.Area visit stage.Seeking) given (seeking_row on visit given)
unfolding IsFor awaited_in
holds_seeking on visit (Answer (answer.Summaries [])) place = record { board = place; awaits = λ _. refl; here = refl; reaches = tt }
holds_seeking on visit (Answer (answer.Summaries (first ∷ rest))) place = record { board = place; awaits = λ _. refl; here = refl; reaches = tt }
holds_seeking on visit (Fault fault) place = record { board = place; awaits = λ _. refl; here = refl; reaches = tt }
holds_seeking on visit _ place = record { board = place; awaits = λ asked. never asked; here = refl; reaches = tt }

holds_reading : (on : Board) (visit : Visit) (marks : Bool) (given : Given) → IsPlace on visit
    → Holds on (state.Area visit (stage.Reading marks)) given (reading_row on visit marks given)
unfolding IsFor awaited_in
holds_reading on visit true (Reply (reply.Text letter)) place = record { board = place; awaits = λ _. refl; here = refl; reaches = tt }
holds_reading on visit false (Reply (reply.Text letter)) place = record { board = place; awaits = λ _. refl; here = refl; reaches = tt }
holds_reading on visit true (Reply other) place = record { board = place; awaits = λ _. refl; here = refl; reaches = tt }
holds_reading on visit false (Reply other) place = record { board = place; awaits = λ _. refl; here = refl; reaches = tt }
holds_reading on visit true (Fault fault) place = record { board = place; awaits = λ _. refl; here = refl; reaches = tt }
holds_reading on visit false (Fault fault) place = record { board = place; awaits = λ _. refl; here = refl; reaches = tt }
holds_reading on visit true _ place = record { board = place; awaits = λ asked. never asked; here = refl; reaches = tt }
holds_reading on visit false _ place = record { board = place; awaits = λ asked. never asked; here = refl; reaches = tt }

holds_marking : (on : Board) (visit : Visit) (text : List ℕ) (given : Given) → IsPlace on visit
    → Holds on (state.Area visit (stage.Marking text)) given (marking_row on visit text given)
unfolding IsFor awaited_in
holds_marking on visit text (Reply (reply.Marked last high)) place = record { board = place; awaits = λ _. refl; here = refl; reaches = tt }
holds_marking on visit text (Reply other) place = record { board = place; awaits = λ _. refl; here = refl; reaches = tt }
holds_marking on visit text (Fault fault) place = record { board = place; awaits = λ _. refl; here = refl; reaches = tt }
holds_marking on visit text _ place = record { board = place; awaits = λ asked. never asked; here = refl; reaches = tt }

holds_acting : (on : Board) (visit : Visit) (given : Given) → IsPlace on visit
    → Holds on (state.Area visit stage.Acting) given (acting_row on visit given)
unfolding IsFor awaited_in
holds_acting on visit (Reply answer) place = record { board = place; awaits = λ _. refl; here = refl; reaches = tt }
holds_acting on visit (Fault fault) place = record { board = place; awaits = λ _. refl; here = refl; reaches = tt }
holds_acting on visit _ place = record { board = place; awaits = λ asked. never asked; here = refl; reaches = tt }

-- a message that is edited
holds_peeking : (on : Board) (visit : Visit) (given : Given) → IsPlace on visit
    → Holds on (state.Area visit stage.Peeking) given (peeking_row on visit given)
unfolding IsFor awaited_in
holds_peeking on visit (Reply (reply.Text letter)) place = record { board = place; awaits = λ _. refl; here = refl; reaches = tt }
holds_peeking on visit (Reply other) place = record { board = place; awaits = λ _. refl; here = refl; reaches = tt }
holds_peeking on visit (Fault fault) place = record { board = place; awaits = λ _. refl; here = refl; reaches = tt }
holds_peeking on visit _ place = record { board = place; awaits = λ asked. never asked; here = refl; reaches = tt }

holds_edit_subject : (on : Board) (visit : Visit) (number : ℕ) (subject : List ℕ) (given : Given) → IsPlace on visit
    → Holds on (state.Area visit (stage.EditSubject number subject)) given (edit_subject_row visit number subject given)
unfolding IsFor awaited_in
holds_edit_subject on visit number subject (Line typed) place = record { board = place; awaits = λ _. refl; here = refl; reaches = tt }
holds_edit_subject on visit number subject _ place = record { board = place; awaits = λ _. refl; here = refl; reaches = tt }

-- a message that is written
holds_to : (on : Board) (visit : Visit) (given : Given) → IsPlace on visit → Holds on (state.Area visit stage.To) given (to_row on visit given)
unfolding IsFor awaited_in
holds_to on visit (Line []) place = record { board = place; awaits = λ _. refl; here = refl; reaches = tt }
holds_to on visit (Line (first ∷ rest)) place = record { board = place; awaits = λ _. refl; here = refl; reaches = tt }
holds_to on visit _ place = record { board = place; awaits = λ _. refl; here = refl; reaches = tt }

holds_subject : (on : Board) (visit : Visit) (to : List ℕ) (given : Given) → IsPlace on visit
    → Holds on (state.Area visit (stage.Subject to)) given (subject_row visit to given)
unfolding IsFor awaited_in
holds_subject on visit to (Line typed) place = record { board = place; awaits = λ _. refl; here = refl; reaches = tt }
holds_subject on visit to _ place = record { board = place; awaits = λ _. refl; here = refl; reaches = tt }

holds_private : (on : Board) (visit : Visit) (to subject : List ℕ) (given : Given) → IsPlace on visit
    → Holds on (state.Area visit (stage.Private to subject)) given (private_row visit to subject given)
unfolding IsFor awaited_in
holds_private on visit to subject (Line typed) place = record { board = place; awaits = λ _. refl; here = refl; reaches = tt }
holds_private on visit to subject _ place = record { board = place; awaits = λ _. refl; here = refl; reaches = tt }

fits_text : (on : Board) (visit : Visit) (draft : Composing) (text typed : List ℕ) → IsPlace on visit
    → Fits on (text_row on visit draft text (Line typed))
unfolding IsFor awaited_in
fits_text on visit draft text typed place =
    either on (bytes_eq typed (codes ".")) _ _ (place, refl, refl, tt)
    (either on (bytes_eq typed (codes "!")) _ _ (place, refl, refl, tt)
    (either on (nat_lt MOST_POSTED_TEXT_BYTES (length text + length typed + 1)) _ _ (place, refl, refl, tt) (place, refl, refl, tt)))

holds_text : (on : Board) (visit : Visit) (draft : Composing) (text : List ℕ) (given : Given) → IsPlace on visit
    → Holds on (state.Area visit (stage.Text draft text)) given (text_row on visit draft text given)
unfolding IsFor awaited_in
holds_text on visit draft text (Line typed) place =
    fitting on (state.Area visit (stage.Text draft text)) (Line typed) (text_row on visit draft text (Line typed))
    (fits_text on visit draft text typed place)
holds_text on visit draft text _ place = record { board = place; awaits = λ _. refl; here = refl; reaches = tt }

holds_stage : (on : Board) (visit : Visit) (at : MenuStage) (given : Given) → IsPlace on visit
    → Holds on (state.Area visit at) given (stage_turn on visit at given)
unfolding IsFor awaited_in stage_turn
holds_stage on visit stage.Prompt given place = holds_area on visit given place
holds_stage on visit stage.Listing given place = holds_listing on visit given place
holds_stage on visit stage.Seeking given place = holds_seeking on visit given place
holds_stage on visit (stage.Reading marks) given place = holds_reading on visit marks given place
holds_stage on visit (stage.Marking letter) given place = holds_marking on visit letter given place
holds_stage on visit stage.Peeking given place = holds_peeking on visit given place
holds_stage on visit stage.Acting given place = holds_acting on visit given place
holds_stage on visit stage.To given place = holds_to on visit given place
holds_stage on visit (stage.Subject to) given place = holds_subject on visit to given place
holds_stage on visit (stage.Private to subject) given place = holds_private on visit to subject given place
holds_stage on visit (stage.EditSubject number subject) given place = holds_edit_subject on visit number subject given place
holds_stage on visit (stage.Text draft text) given place = holds_text on visit draft text given place

-- everywhere
pub holds_everywhere : (on : Board) (before : State) (given : Given) → IsFor on before → Holds on before given (menu_turn on before given)
unfolding IsFor awaited_in menu_turn
holds_everywhere on (state.Name refused) given of = holds_name on refused given
holds_everywhere on (state.Password refused name) given of = holds_password on refused name given
holds_everywhere on (state.Top user) given of = holds_top on user given of
holds_everywhere on (state.Counting user area lines) given of = holds_counting on user area lines given of.0 of.1
holds_everywhere on (state.Entering user area) given of = holds_entering on user area given of.0 of.1
holds_everywhere on (state.Area visit at) given of = holds_stage on visit at given of
holds_everywhere on (state.Paging place stage) given of = holds_paging on place stage given of
holds_everywhere on state.Ended given of = record { board = tt; awaits = λ asked. never asked; here = refl; reaches = tt }
