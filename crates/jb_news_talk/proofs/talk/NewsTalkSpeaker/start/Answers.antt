use Rattle.std.proofs.Common.{refl, ◌∙◌, ap}
use Rattle.jb_news.specs.Reading.{HasRead}
use Rattle.jb_news.specs.Responses.{greeting_text}
use Rattle.jb_speech.proofs.Talked.{talked_first}
use Rattle.jb_news_talk.specs.Conversations.{manner_of}
use Rattle.jb_news_talk.proofs.talk.NewsTalkSpeaker.start.Goals as goal

pub returns-clause-fits : goal.returns-clause-fits
returns-clause-fits c =
    talked_first (manner_of c.args.board.now) HasRead _ refl c.new.ensures refl
    (c.in_ok-from_slice.ensures.items ∙ c.as_slice-3.ensures ∙ c.in_ok-greeting.ensures ∙ ap greeting_text c.as_slice.ensures) refl refl
