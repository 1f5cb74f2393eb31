use Rattle.jb_telnet.proofs.Readings.{read_on, ends_unit}
use Rattle.jb_telnet.proofs.decoder.Decoder.push.Goals as goal

pub returns-clause-found : goal.returns-clause-found
returns-clause-found c = λ event.
    rw (← c.self.view_is) (ends_unit c.self.inside.phase c.step-phase.result.0 c.args.byte c.step-phase.result.1 c.step-phase.ensures.first event)

pub returns-clause-fits : goal.returns-clause-fits
returns-clause-fits c = λ bytes events read.
    read_on c.self.inside.phase c.step-phase.result.0 c.args.byte c.step-phase.result.1 c.step-phase.ensures.first c.step-phase.ensures.text bytes events (rw (← c.self.view_is) at read)
