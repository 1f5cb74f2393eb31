use Rattle.jb_line.proofs.LineLemmas.{typed_on}
use Rattle.jb_line.proofs.editor.LineEditor.push.Goals as goal

pub returns-clause-fits : goal.returns-clause-fits
returns-clause-fits c = λ keys lines typed.
    rw (c.press.ensures.exact, c.press.ensures.line, c.meaning.ensures) (typed_on c.args.self.now keys lines c.args.key typed)
