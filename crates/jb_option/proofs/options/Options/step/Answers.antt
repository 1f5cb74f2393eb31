use Rattle.jb_option.proofs.EventLemmas.{answered_on}
use Rattle.jb_option.proofs.options.Options.step.Goals as goal

pub returns-clause-fits : goal.returns-clause-fits
returns-clause-fits c = λ events answers answered.
    rw (c.answer.ensures.exact, c.answer.ensures.value) (answered_on c.args.self.now events answers c.args.event answered)
