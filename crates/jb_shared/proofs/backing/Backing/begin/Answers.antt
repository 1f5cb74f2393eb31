use Rattle.jb_shared.proofs.BackingLemmas.{begins_not_at_all}
use Rattle.jb_shared.proofs.backing.Backing.begin.Goals as goal

pub returns-in_err-copier-clause-crash : goal.returns-in_err-copier-clause-crash
returns-in_err-copier-clause-crash g c = begins_not_at_all (g.E.Disk.device c.args.onto.now)
