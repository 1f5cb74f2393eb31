use Rattle.jb_news.proofs.Held.{read_end, read_on}
use Rattle.jb_news.proofs.cutter.LineCutter.push.Goals as goal

pub returns-then-byte-eq10-clause-fits : goal.returns-then-byte-eq10-clause-fits
returns-then-byte-eq10-clause-fits c = λ bytes lines read.
    rw (c.if-byte-eq10.true, c.line-line.ensures) (read_end c.args.self.now bytes lines read)

pub returns-else-byte-eq10-clause-fits : goal.returns-else-byte-eq10-clause-fits
returns-else-byte-eq10-clause-fits c = λ bytes lines read.
    rw c.hold.ensures (read_on c.args.self.now bytes lines c.args.byte c.if-byte-eq10.false read)
