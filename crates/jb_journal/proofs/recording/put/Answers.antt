use Rattle.jb_journal.proofs.PutsLemmas.{puts_one}
use Rattle.jb_journal.proofs.recording.put.Goals as goal

pub returns : goal.returns
returns g c = puts_one c.args.at c.args.bytes.now _ _ _ _ _ c.requires.place c.requires.bound c.put.ensures
