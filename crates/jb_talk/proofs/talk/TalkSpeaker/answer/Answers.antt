use Rattle.jb_talk.proofs.Asking.{asks_fewer}
use Rattle.jb_telnet.specs.Reading.{HasRead}
use Rattle.jb_speech.proofs.Talked.{talked_answer}
use Rattle.jb_talk.specs.Conversations.{manner_of}
use Rattle.jb_talk.proofs.talk.TalkSpeaker.answer.Goals as goal

pub returns-in-Ok-clause-fits : goal.returns-in-Ok-clause-fits
returns-in-Ok-clause-fits c = λ bytes sent answers asked talked.
    rw (c.in-Ok.ensures.turn, c.in-Ok.ensures.request) (talked_answer (manner_of c.args.board.now) HasRead c.args.self.now bytes sent answers asked talked c.args.given.now
    c.requires.waits.1.waits)

pub returns-in-Ok-clause-fewer : goal.returns-in-Ok-clause-fewer
returns-in-Ok-clause-fewer c = λ line asks.
    rw c.in-Ok.ensures.turn (asks_fewer c.args.board.now c.args.self.now.place c.args.given.now c.requires.waits.1.menu line (rw (← c.in-Ok.ensures.request) asks))
