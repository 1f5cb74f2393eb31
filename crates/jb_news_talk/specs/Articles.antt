-- `ARTICLE`, `HEAD`, `BODY` and `STAT` (RFC 3977 section 6.2): an article is shown.
use Rattle.std.specs.Prelude.{ℕ, nat_le, List, [], ◌++◌, Option, Some, None, if◌then◌else◌}
use Rattle.jb_conf.specs.declared.board.Board.{Board}
use Rattle.jb_menu.specs.declared.given.Given.{Given}
use Rattle.jb_menu.specs.declared.given.Given.TheVariants as given
use Rattle.jb_model.specs.declared.command.Command.TheVariants.{Peek}
use Rattle.jb_model.specs.declared.reply.Letter.{Letter}
use Rattle.jb_model.specs.declared.reply.Reply.TheVariants as reply
use Rattle.jb_text.specs.Letter.{line}
use Rattle.jb_news.specs.Body.{body_text}
use Rattle.jb_news.specs.Groups.{article_line}
use Rattle.jb_news.specs.Headers.{headers_text}
use Rattle.jb_news.specs.Responses.{end_text}
use Rattle.jb_news.specs.declared.command.Part.{Part}
use Rattle.jb_news.specs.declared.command.Part.TheVariants.{Article, Body, Head, Stat}
use Rattle.jb_news.specs.declared.command.Target.{Target}
use Rattle.jb_news.specs.declared.command.Target.TheVariants as target
use Rattle.jb_news.specs.declared.names.GroupName.TheVariants.{Number}
use Rattle.jb_news.specs.declared.responses.FixedResponse.{FixedResponse}
use Rattle.jb_news.specs.declared.responses.FixedResponse.TheVariants as fixed
use Rattle.jb_speech.specs.Conversations.{Turn}
use Rattle.jb_speech.specs.declared.request.Act.TheVariants.{Ask}
use Rattle.jb_news_talk.specs.Newsgroups.{group_of, number_of}
use Rattle.jb_news_talk.specs.Turns.{answers, asks, greatest, responds}
use Rattle.jb_news_talk.specs.declared.place.Chosen.{Chosen}
use Rattle.jb_news_talk.specs.declared.place.NewsPlace.{NewsPlace}
use Rattle.jb_news_talk.specs.declared.place.NewsStage.TheVariants as stage
use Rattle.jb_news_talk.specs.declared.place.ShownBy.{ShownBy}
use Rattle.jb_news_talk.specs.declared.place.ShownBy.TheVariants as by

-- `ARTICLE`, `HEAD`, `BODY`, `STAT` (6.2): the message is looked at, which marks nothing
abbrev pub shows : Chosen → Part → ℕ → ℕ → ShownBy → Turn NewsPlace
shows chosen part area number how = asks chosen (stage.Showing part area number how) area (Ask (Peek number))

abbrev pub shows_current : Chosen → Part → ℕ → Option ℕ → Turn NewsPlace
shows_current chosen part area None = responds chosen fixed.NoCurrent
shows_current chosen part area (Some number) = shows chosen part area number by.Current

abbrev pub shows_numbered : Chosen → Part → ℕ → Option ℕ → Turn NewsPlace
shows_numbered chosen part number None = responds chosen fixed.NoGroup
shows_numbered chosen part number (Some area) = if nat_le number greatest then shows chosen part area number by.Number else responds chosen fixed.NoSuchNumber

abbrev pub shows_named : Chosen → Part → ℕ → Option ℕ → Turn NewsPlace
shows_named chosen part number None = responds chosen fixed.NoSuchArticle
shows_named chosen part number (Some area) = shows chosen part area number by.Id

abbrev pub shows_in : Chosen → Part → Option ℕ → Turn NewsPlace
shows_in chosen part None = responds chosen fixed.NoGroup
shows_in chosen part (Some area) = shows_current chosen part area chosen.current

abbrev pub show_row : Board → Chosen → Part → Target → Turn NewsPlace
show_row board chosen part target.Current = shows_in chosen part chosen.group
show_row board chosen part (target.Number number) = shows_numbered chosen part number chosen.group
show_row board chosen part (target.Id id) = shows_named chosen part id.number (group_of board (Number id.area))
show_row board chosen part target.OtherId = responds chosen fixed.NoSuchArticle

-- the number that is answered: none, which is 0, where it was asked by its id
abbrev pub asked_number : ShownBy → ℕ → ℕ
asked_number by.Current number = number
asked_number by.Number number = number
asked_number by.Id number = 0

-- the answer where it is not there
abbrev pub missing_by : ShownBy → FixedResponse
missing_by by.Current = fixed.NoCurrent
missing_by by.Number = fixed.NoSuchNumber
missing_by by.Id = fixed.NoSuchArticle

-- one that was asked by its number is the current one then
abbrev pub chosen_then : ShownBy → Chosen → ℕ → Chosen
chosen_then by.Current chosen number = chosen
chosen_then by.Number chosen number = record chosen { current = Some number }
chosen_then by.Id chosen number = chosen

-- this part of an article, with the end of its block
abbrev pub part_text : Part → ℕ → Letter → List ℕ
part_text Article area letter = headers_text area letter ++ line [] ++ body_text letter.text ++ end_text
part_text Head area letter = headers_text area letter ++ end_text
part_text Body area letter = body_text letter.text ++ end_text
part_text Stat area letter = []

abbrev pub showing_row : Board → Chosen → Part → ℕ → ℕ → ShownBy → Given → Turn NewsPlace
showing_row board chosen part area number how (given.Reply (reply.Text letter)) =
    answers (chosen_then how chosen number)
    (article_line part (asked_number how number) (number_of board area) number ++ part_text part (number_of board area) letter)
showing_row board chosen part area number how (given.Reply refusal) = responds chosen (missing_by how)
showing_row board chosen part area number how _ = responds chosen fixed.Fault
