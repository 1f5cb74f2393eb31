use Rattle.jb_news_talk.proofs.Asking.{asks_fewer}
use Rattle.jb_news_talk.proofs.talk.NewsTalkSpeaker.answer.Goals as goal

pub returns-in-Ok-clause-fewer : goal.returns-in-Ok-clause-fewer
returns-in-Ok-clause-fewer c = λ line asks.
    rw c.in-Ok.ensures.turn (asks_fewer c.args.board.now c.args.self.now.held.place c.args.given.now c.requires.waits.1.place (rw (← c.in-Ok.ensures.request) asks))
