-- `NEXT` and `LAST` (RFC 3977 sections 6.1.4 and 6.1.3): the current article moves.
use Rattle.std.specs.Prelude.{ℕ, ◌+◌, ◌-◌, ◌/◌, ◌&&◌, ◌^◌, nat_le, nat_lt, min, Option, Some, None, if◌then◌else◌}
use Rattle.jb_conf.specs.declared.board.Board.{Board}
use Rattle.jb_menu.specs.declared.given.Given.{Given}
use Rattle.jb_menu.specs.declared.given.Given.TheVariants as given
use Rattle.jb_state.specs.declared.look.Answer.TheVariants as answer
use Rattle.jb_news.specs.Groups.{article_line}
use Rattle.jb_news.specs.declared.command.Part.TheVariants.{Stat}
use Rattle.jb_news.specs.declared.responses.FixedResponse.TheVariants as fixed
use Rattle.jb_speech.specs.Conversations.{Turn}
use Rattle.jb_news_talk.specs.Newsgroups.{number_of}
use Rattle.jb_news_talk.specs.Turns.{answers, asks, first_number, greatest, listing, responds}
use Rattle.jb_news_talk.specs.declared.place.Chosen.{Chosen}
use Rattle.jb_news_talk.specs.declared.place.NewsPlace.{NewsPlace}
use Rattle.jb_news_talk.specs.declared.place.NewsStage.TheVariants as stage

-- `NEXT` (6.1.4): the first article behind the current one
abbrev pub following : ℕ → ℕ
following number = min (number + 1) (2 ^ 32 - 1)

abbrev pub next_from : Chosen → ℕ → Option ℕ → Turn NewsPlace
next_from chosen area None = responds chosen fixed.NoCurrent
next_from chosen area (Some number) = asks chosen (stage.Following area) area (listing (following number) 1)

abbrev pub next_in : Chosen → Option ℕ → Turn NewsPlace
next_in chosen None = responds chosen fixed.NoGroup
next_in chosen (Some area) = next_from chosen area chosen.current

-- the article is there and is the current one then
abbrev pub moves_to : Board → Chosen → ℕ → ℕ → Turn NewsPlace
moves_to board chosen area number =
    answers (record chosen { current = Some number }) (article_line Stat number (number_of board area) number)

abbrev pub follows : Board → Chosen → ℕ → Option ℕ → Turn NewsPlace
follows board chosen area None = responds chosen fixed.NoNext
follows board chosen area (Some number) = if nat_le number greatest then moves_to board chosen area number else responds chosen fixed.NoNext

abbrev pub following_row : Board → Chosen → ℕ → Given → Turn NewsPlace
following_row board chosen area (given.Answer (answer.Summaries messages)) = follows board chosen area (first_number messages)
following_row board chosen area _ = responds chosen fixed.Fault

-- `LAST` (6.1.3): the last article before the current one, between one that is found and a number, by halves
abbrev pub last_from : Chosen → ℕ → Option ℕ → Turn NewsPlace
last_from chosen area None = responds chosen fixed.NoCurrent
last_from chosen area (Some number) = asks chosen (stage.Seeking area None number) area (listing 0 1)

abbrev pub last_in : Chosen → Option ℕ → Turn NewsPlace
last_in chosen None = responds chosen fixed.NoGroup
last_in chosen (Some area) = last_from chosen area chosen.current

-- the middle of two numbers
abbrev pub middle : ℕ → ℕ → ℕ
middle low high = low + (high - low) / 2

-- there is no number between
abbrev pub narrows : Board → Chosen → ℕ → ℕ → ℕ → Turn NewsPlace
narrows board chosen area found top =
    if nat_le top (found + 1) then moves_to board chosen area found
    else asks chosen (stage.Seeking area (Some found) top) area (listing (middle found top) 1)

-- an article in this part is there, or none
abbrev pub seeks : Board → Chosen → ℕ → Option ℕ → ℕ → Option ℕ → Turn NewsPlace
seeks board chosen area None top None = responds chosen fixed.NoPrevious
seeks board chosen area None top (Some number) = if nat_lt number top then narrows board chosen area number top else responds chosen fixed.NoPrevious
seeks board chosen area (Some found) top None = narrows board chosen area found (middle found top)
seeks board chosen area (Some found) top (Some number) =
    if nat_le (middle found top) number && nat_lt number top then narrows board chosen area number top else narrows board chosen area found (middle found top)

abbrev pub seeking_row : Board → Chosen → ℕ → Option ℕ → ℕ → Given → Turn NewsPlace
seeking_row board chosen area found top (given.Answer (answer.Summaries messages)) = seeks board chosen area found top (first_number messages)
seeking_row board chosen area found top _ = responds chosen fixed.Fault
