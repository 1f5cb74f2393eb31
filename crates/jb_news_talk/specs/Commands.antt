-- What each command leads to (RFC 3977 sections 5 to 8).
use Rattle.std.specs.Prelude.{◌++◌, Some, None}
use Rattle.jb_conf.specs.declared.board.Board.{Board}
use Rattle.jb_menu.specs.declared.given.Given.{Given}
use Rattle.jb_menu.specs.declared.given.Given.TheVariants as given
use Rattle.jb_news.specs.Dates.{clock_line}
use Rattle.jb_news.specs.Responses.{end_text, response_text}
use Rattle.jb_news.specs.declared.command.NewsCommand.{NewsCommand}
use Rattle.jb_news.specs.declared.command.NewsCommand.TheVariants as command
use Rattle.jb_news.specs.declared.responses.FixedResponse.TheVariants as fixed
use Rattle.jb_speech.specs.Conversations.{Turn}
use Rattle.jb_news_talk.specs.Newsgroups.{group_of, named_lines, next_group}
use Rattle.jb_news_talk.specs.Articles.{show_row}
use Rattle.jb_news_talk.specs.Choosing.{chooses, chooses_again}
use Rattle.jb_news_talk.specs.Listing.{lists_next}
use Rattle.jb_news_talk.specs.Moving.{last_in, next_in}
use Rattle.jb_news_talk.specs.Telling.{over_in}
use Rattle.jb_news_talk.specs.Turns.{answers, asks_clock, responds}
use Rattle.jb_news_talk.specs.declared.place.Chosen.{Chosen}
use Rattle.jb_news_talk.specs.declared.place.NewsPlace.{NewsPlace}
use Rattle.jb_news_talk.specs.declared.place.NewsStage.TheVariants as stage

-- `DATE` (7.1)
abbrev pub dating_row : Chosen → Given → Turn NewsPlace
dating_row chosen (given.Moment moment) = answers chosen (clock_line moment)
dating_row chosen _ = responds chosen fixed.Fault

-- `QUIT` (5.4): the conversation is over
abbrev pub quits : Chosen → Turn NewsPlace
quits chosen = record { place = record { chosen = chosen; stage = stage.Over }; text = response_text fixed.Bye; request = None }

-- a command
abbrev pub command_row : Board → Chosen → NewsCommand → Turn NewsPlace
command_row board chosen command.Capabilities = responds chosen fixed.Capabilities
command_row board chosen command.ModeReader = responds chosen fixed.NoPosting
command_row board chosen command.Help = responds chosen fixed.Help
command_row board chosen command.Quit = quits chosen
command_row board chosen (command.ListActive wildmat) = lists_next chosen wildmat (next_group board wildmat 0) (response_text fixed.Groups)
command_row board chosen (command.ListNewsgroups wildmat) = answers chosen (response_text fixed.Groups ++ named_lines board wildmat ++ end_text)
command_row board chosen command.ListOverviewFormat = responds chosen fixed.OverviewFormat
command_row board chosen command.ListNotKept = responds chosen fixed.NotKept
command_row board chosen (command.Group name) = chooses chosen None (group_of board name)
command_row board chosen (command.Listgroup None range) = chooses_again chosen range chosen.group
command_row board chosen (command.Listgroup (Some name) range) = chooses chosen (Some range) (group_of board name)
command_row board chosen command.Next = next_in chosen chosen.group
command_row board chosen command.Last = last_in chosen chosen.group
command_row board chosen (command.Over target) = over_in chosen target chosen.group
command_row board chosen command.Date = asks_clock chosen
command_row board chosen command.Newgroups = responds chosen fixed.NewGroups
command_row board chosen command.Post = responds chosen fixed.NotPosted
command_row board chosen (command.Show part target) = show_row board chosen part target
command_row board chosen command.Syntax = responds chosen fixed.Syntax
command_row board chosen command.Unknown = responds chosen fixed.Unknown
