-- `GROUP` and `LISTGROUP` (RFC 3977 sections 6.1.1 and 6.1.2): a group is chosen.
use Rattle.std.specs.Prelude.{ℕ, nat_le, ◌++◌, Option, Some, None, if◌then◌else◌}
use Rattle.jb_conf.specs.declared.board.Board.{Board}
use Rattle.jb_menu.specs.declared.given.Given.{Given}
use Rattle.jb_menu.specs.declared.given.Given.TheVariants as given
use Rattle.jb_state.specs.declared.look.Answer.TheVariants as answer
use Rattle.jb_state.specs.declared.look.Question.TheVariants as question
use Rattle.jb_state.specs.declared.summary.Figures.{Figures}
use Rattle.jb_news.specs.Groups.{chosen_line}
use Rattle.jb_news.specs.Responses.{end_text}
use Rattle.jb_news.specs.declared.numbers.NumberRange.{NumberRange}
use Rattle.jb_news.specs.declared.responses.FixedResponse.TheVariants as fixed
use Rattle.jb_speech.specs.Conversations.{Turn}
use Rattle.jb_speech.specs.declared.request.Act.TheVariants.{Look}
use Rattle.jb_news_talk.specs.Newsgroups.{number_of}
use Rattle.jb_news_talk.specs.Telling.{begins, has_numbers}
use Rattle.jb_news_talk.specs.Turns.{answers, asks, first_number, greatest, listing, responds}
use Rattle.jb_news_talk.specs.declared.place.Chosen.{Chosen}
use Rattle.jb_news_talk.specs.declared.place.NewsPlace.{NewsPlace}
use Rattle.jb_news_talk.specs.declared.place.NewsStage.TheVariants as stage
use Rattle.jb_news_talk.specs.declared.place.Told.TheVariants.{Numbers}

-- `GROUP` and `LISTGROUP` (6.1.1, 6.1.2): the figures of the group, and then its first article
abbrev pub chooses : Chosen → Option NumberRange → Option ℕ → Turn NewsPlace
chooses chosen range None = responds chosen fixed.NoSuchGroup
chooses chosen range (Some area) = asks chosen (stage.Choosing area range) area (Look question.Figures)

-- the numbers of a group, or of the chosen one
abbrev pub chooses_again : Chosen → NumberRange → Option ℕ → Turn NewsPlace
chooses_again chosen range None = responds chosen fixed.NoGroup
chooses_again chosen range (Some area) = chooses chosen (Some range) (Some area)

abbrev pub choosing_row : Chosen → ℕ → Option NumberRange → Given → Turn NewsPlace
choosing_row chosen area range (given.Answer (answer.Figures figures)) =
    if nat_le figures.next greatest then asks chosen (stage.Entering area range figures) area (listing 0 1) else responds chosen fixed.NoSuchGroup
choosing_row chosen area range _ = responds chosen fixed.Fault

-- the group is entered, where its first article is this: with a range, its numbers are told too
abbrev pub enters : Board → Chosen → ℕ → Option NumberRange → Figures → Option ℕ → Turn NewsPlace
enters board chosen area None figures first =
    answers (record { group = Some area; current = first }) (chosen_line (number_of board area) figures)
enters board chosen area (Some range) figures first =
    if has_numbers range then begins chosen (Numbers first) area range (chosen_line (number_of board area) figures)
    else answers (record { group = Some area; current = first }) (chosen_line (number_of board area) figures ++ end_text)

abbrev pub entering_row : Board → Chosen → ℕ → Option NumberRange → Figures → Given → Turn NewsPlace
entering_row board chosen area range figures (given.Answer (answer.Summaries messages)) = enters board chosen area range figures (first_number messages)
entering_row board chosen area range figures _ = responds chosen fixed.Fault
