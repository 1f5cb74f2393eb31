-- `LISTGROUP` and `OVER` (RFC 3977 sections 6.1.2 and 8.3): what a list of messages tells, in pieces.
use Rattle.std.specs.Prelude.{ℕ, ◌+◌, ◌&&◌, nat_le, nat_lt, not, Bool, true, List, [], ◌∷◌, ◌++◌, filter, length, Option, Some, None, if◌then◌else◌}
use Rattle.std.specs.List.{flat_map, list_any}
use Rattle.jb_conf.specs.declared.board.Board.{Board}
use Rattle.jb_menu.specs.declared.given.Given.{Given}
use Rattle.jb_menu.specs.declared.given.Given.TheVariants as given
use Rattle.jb_state.specs.declared.look.Answer.TheVariants as answer
use Rattle.jb_state.specs.declared.summary.Summary.{Summary}
use Rattle.jb_news.specs.Groups.{number_line}
use Rattle.jb_news.specs.Overview.{overview_line}
use Rattle.jb_news.specs.Responses.{end_text, response_text}
use Rattle.jb_news.specs.declared.command.OverTarget.{OverTarget}
use Rattle.jb_news.specs.declared.command.OverTarget.TheVariants as over
use Rattle.jb_news.specs.declared.numbers.NumberRange.{NumberRange}
use Rattle.jb_news.specs.declared.responses.FixedResponse.{FixedResponse}
use Rattle.jb_news.specs.declared.responses.FixedResponse.TheVariants as fixed
use Rattle.jb_speech.specs.Conversations.{Turn}
use Rattle.jb_news_talk.specs.Newsgroups.{number_of}
use Rattle.jb_news_talk.specs.Turns.{answers, asks, listing, piece, responds, tells_and_asks}
use Rattle.jb_news_talk.specs.declared.place.Chosen.{Chosen}
use Rattle.jb_news_talk.specs.declared.place.NewsPlace.{NewsPlace}
use Rattle.jb_news_talk.specs.declared.place.NewsStage.TheVariants as stage
use Rattle.jb_news_talk.specs.declared.place.Told.{Told}
use Rattle.jb_news_talk.specs.declared.place.Told.TheVariants.{Numbers, Overviews}

-- the numbers or the overviews of a range, from a number to the last, behind what the answer begins with
abbrev pub begins : Chosen → Told → ℕ → NumberRange → List ℕ → Turn NewsPlace
begins chosen told area range head =
    asks chosen (stage.Telling told area range.first range.last head) area (listing range.first piece)

-- the range has a number
abbrev pub has_numbers : NumberRange → Bool
has_numbers range = nat_le range.first range.last

-- what is told of a message
abbrev pub told_line : Board → Told → ℕ → Summary → List ℕ
told_line board (Numbers first) area one = number_line one.number
told_line board (Overviews missing) area one = overview_line (number_of board area) one

-- the messages up to a number
abbrev pub up_to : ℕ → List Summary → List Summary
up_to last messages = filter (λ one. nat_le one.number last) messages

-- what is chosen once the answer has begun
abbrev pub chosen_by : Told → Chosen → ℕ → Chosen
chosen_by (Numbers first) chosen area = record { group = Some area; current = first }
chosen_by (Overviews missing) chosen area = chosen

-- none of these messages is up to a number
abbrev pub has_none : ℕ → List Summary → Bool
has_none last messages = not (list_any (λ one. nat_le one.number last) messages)

-- the answer in place of overviews of which there are none
abbrev pub missing_of : Told → List ℕ → Bool → Option FixedResponse
missing_of (Overviews missing) (byte ∷ head) true = Some missing
missing_of _ _ _ = None

-- the number of the last of them
abbrev pub last_number : List Summary → Option ℕ
last_number [] = None
last_number (one ∷ []) = Some one.number
last_number (one ∷ next ∷ rest) = last_number (next ∷ rest)

-- from which number it goes on: behind the last of a whole piece, up to the last of the range
abbrev pub behind_last : ℕ → ℕ → Option ℕ → Option ℕ
behind_last next last None = None
behind_last next last (Some number) = if nat_le next number && nat_lt number last then Some (number + 1) else None

abbrev pub goes_on_from : ℕ → ℕ → List Summary → Option ℕ
goes_on_from next last messages = if nat_lt (length messages) piece then None else behind_last next last (last_number messages)

-- the next piece, or the end
abbrev pub tells_on : Chosen → Told → ℕ → ℕ → List ℕ → Option ℕ → Turn NewsPlace
tells_on chosen told area last text None = answers chosen (text ++ end_text)
tells_on chosen told area last text (Some next) =
    tells_and_asks chosen text (stage.Telling told area next last []) area (listing next piece)

-- a piece of an answer
abbrev pub tells : Board → Chosen → Told → ℕ → ℕ → ℕ → List ℕ → List Summary → Option FixedResponse → Turn NewsPlace
tells board chosen told area next last head messages (Some missing) = responds chosen missing
tells board chosen told area next last head messages None =
    tells_on (chosen_by told chosen area) told area last (head ++ flat_map (told_line board told area) (up_to last messages)) (goes_on_from next last messages)

-- no answer: in the middle of a list, which cannot be taken back, the connection ends
abbrev pub breaks : Chosen → List ℕ → Turn NewsPlace
breaks chosen [] = record { place = record { chosen = chosen; stage = stage.Broken }; text = []; request = None }
breaks chosen (byte ∷ head) = responds chosen fixed.Fault

-- `LISTGROUP`, `OVER` (6.1.2, 8.3)
abbrev pub telling_row : Board → Chosen → Told → ℕ → ℕ → ℕ → List ℕ → Given → Turn NewsPlace
telling_row board chosen told area next last head (given.Answer (answer.Summaries messages)) =
    tells board chosen told area next last head messages (missing_of told head (has_none last messages))
telling_row board chosen told area next last head _ = breaks chosen head

abbrev pub overviews : Chosen → ℕ → FixedResponse → NumberRange → Turn NewsPlace
overviews chosen area missing range =
    if has_numbers range then begins chosen (Overviews missing) area range (response_text fixed.Overview) else responds chosen missing

-- of the current article
abbrev pub overview_of : Chosen → ℕ → Option ℕ → Turn NewsPlace
overview_of chosen area None = responds chosen fixed.NoCurrent
overview_of chosen area (Some number) = overviews chosen area fixed.NoCurrent (record { first = number; last = number })

abbrev pub over_in : Chosen → OverTarget → Option ℕ → Turn NewsPlace
over_in chosen over.Id group = responds chosen fixed.NotKept
over_in chosen over.Current None = responds chosen fixed.NoGroup
over_in chosen over.Current (Some area) = overview_of chosen area chosen.current
over_in chosen (over.Range range) None = responds chosen fixed.NoGroup
over_in chosen (over.Range range) (Some area) = overviews chosen area fixed.NoSuchNumber range
