-- What `LISTGROUP` and `OVER` tell altogether, over an area whose list stays the same while it is told.
use Rattle.std.specs.Prelude.{◌≡◌, ◌<◌, ℕ, zero, suc, ◌-◌, ◌&&◌, ◌==◌, if◌then◌else◌, nat_le, true, List, [], ◌∷◌, ◌++◌, filter, take, Option, Some, None}
use Rattle.std.specs.List.{AllPairs, flat_map}
use Rattle.jb_conf.specs.declared.board.Board.{Board}
use Rattle.jb_menu.specs.declared.given.Given.{Given}
use Rattle.jb_menu.specs.declared.given.Given.TheVariants as given
use Rattle.jb_state.specs.declared.look.Answer.TheVariants as answer
use Rattle.jb_state.specs.declared.look.Question.TheVariants as question
use Rattle.jb_state.specs.declared.look.SharedFault.TheVariants.{Barred}
use Rattle.jb_state.specs.declared.summary.Summary.{Summary}
use Rattle.jb_news.specs.Responses.{end_text, response_text}
use Rattle.jb_news.specs.declared.numbers.NumberRange.{NumberRange}
use Rattle.jb_speech.specs.Conversations.{Turn}
use Rattle.jb_speech.specs.declared.request.Act.{Act}
use Rattle.jb_speech.specs.declared.request.Act.TheVariants.{Look}
use Rattle.jb_speech.specs.declared.request.Request.{Request}
use Rattle.jb_speech.specs.declared.request.Request.TheVariants.{Area}
use Rattle.jb_news_talk.specs.Conversations.{given_turn}
use Rattle.jb_news_talk.specs.Telling.{begins, has_numbers, told_line}
use Rattle.jb_news_talk.specs.declared.place.Chosen.{Chosen}
use Rattle.jb_news_talk.specs.declared.place.NewsPlace.{NewsPlace}
use Rattle.jb_news_talk.specs.declared.place.Told.{Told}
use Rattle.jb_news_talk.specs.declared.place.Told.TheVariants.{Overviews}

-- each number is below those behind it
abbrev pub IsRising : List Summary → Type 0
IsRising messages = AllPairs (λ one next. one.number < next.number) messages

-- what this answers, where a list of these messages is asked for
abbrev pub lists : List Summary → Act → Given
lists messages (Look (question.List from most)) = given.Answer (answer.Summaries (take most (filter (λ one. nat_le from one.number) messages)))
lists messages _ = given.Fault Barred

-- what the board answers of which one area has these messages
abbrev pub lists_of : ℕ → List Summary → Request → Given
lists_of area messages (Area asked) = if asked.area == area then lists messages asked.act else given.Fault Barred
lists_of area messages _ = given.Fault Barred

-- the turn behind this one, where the board answers so; where nothing is asked, nothing more is sent
abbrev pub turn_behind : Board → ℕ → List Summary → NewsPlace → Option Request → Turn NewsPlace
turn_behind board area messages place None = record { place = place; text = []; request = None }
turn_behind board area messages place (Some request) = given_turn board place (lists_of area messages request)

-- what is sent in this turn and in so many behind it
abbrev pub told_out : Board → ℕ → List Summary → ℕ → Turn NewsPlace → List ℕ
told_out board area messages zero turn = turn.text
told_out board area messages (suc more) turn = turn.text ++ told_out board area messages more (turn_behind board area messages turn.place turn.request)

-- the messages with numbers in a range
abbrev pub in_range : NumberRange → List Summary → List Summary
in_range range messages = filter (λ one. nat_le range.first one.number && nat_le one.number range.last) messages

-- a line for each of these messages, between what the answer begins with and its end; in place of no overviews one answer
abbrev pub whole_text : Board → Told → ℕ → List ℕ → List Summary → List ℕ
whole_text board (Overviews missing) area head [] = response_text missing
whole_text board told area head messages = head ++ flat_map (told_line board told area) messages ++ end_text

-- each message of the range is told once and in order, as soon as there were as many turns as the range has numbers
abbrev pub ListsAreWhole : Type 0
ListsAreWhole = (board : Board) (chosen : Chosen) (told : Told) (area : ℕ) (range : NumberRange) (byte : ℕ) (head : List ℕ) (more : ℕ) (messages : List Summary)
    → IsRising messages → has_numbers range ≡ true → range.last - range.first < more
    → told_out board area messages more (begins chosen told area range (byte ∷ head)) ≡ whole_text board told area (byte ∷ head) (in_range range messages)
