-- `LIST ACTIVE` (RFC 3977 section 7.6.3): the groups with their figures, one after another.
use Rattle.std.specs.Prelude.{ℕ, ◌+◌, nat_le, List, [], ◌++◌, Option, Some, None, if◌then◌else◌}
use Rattle.jb_conf.specs.declared.board.Board.{Board}
use Rattle.jb_menu.specs.declared.given.Given.{Given}
use Rattle.jb_menu.specs.declared.given.Given.TheVariants as given
use Rattle.jb_state.specs.declared.look.Answer.TheVariants as answer
use Rattle.jb_state.specs.declared.look.Question.TheVariants as question
use Rattle.jb_state.specs.declared.summary.Figures.{Figures}
use Rattle.jb_news.specs.Groups.{active_line}
use Rattle.jb_news.specs.Responses.{end_text}
use Rattle.jb_news.specs.declared.responses.FixedResponse.TheVariants as fixed
use Rattle.jb_speech.specs.Conversations.{Turn}
use Rattle.jb_speech.specs.declared.request.Act.TheVariants.{Look}
use Rattle.jb_news_talk.specs.Newsgroups.{next_group, number_of}
use Rattle.jb_news_talk.specs.Turns.{answers, asks, greatest, responds}
use Rattle.jb_news_talk.specs.declared.place.Chosen.{Chosen}
use Rattle.jb_news_talk.specs.declared.place.NewsPlace.{NewsPlace}
use Rattle.jb_news_talk.specs.declared.place.NewsStage.TheVariants as stage

-- `LIST ACTIVE` (7.6.3): the figures of each group that is taken, one after another
abbrev pub lists_next : Chosen → Option (List ℕ) → Option ℕ → List ℕ → Turn NewsPlace
lists_next chosen wildmat None text = answers chosen (text ++ end_text)
lists_next chosen wildmat (Some area) text = asks chosen (stage.Listing wildmat area text) area (Look question.Figures)

-- the line of a group whose numbers all have their place
abbrev pub listed_line : Board → ℕ → Figures → List ℕ
listed_line board area figures = if nat_le figures.next greatest then active_line (number_of board area) figures else []

abbrev pub listing_row : Board → Chosen → Option (List ℕ) → ℕ → List ℕ → Given → Turn NewsPlace
listing_row board chosen wildmat area text (given.Answer (answer.Figures figures)) =
    lists_next chosen wildmat (next_group board wildmat (area + 1)) (text ++ listed_line board area figures)
listing_row board chosen wildmat area text _ = responds chosen fixed.Fault
