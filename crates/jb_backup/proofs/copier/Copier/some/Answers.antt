use Rattle.std.proofs.Common.{ℕ, subst, sym}
use Rattle.jb_backup.specs.Target.{HasFront}
use Rattle.jb_backup.proofs.copier.Copier.some.Goals as goal

pub returns-clause-front : goal.returns-clause-front
returns-clause-front g c = λ files there front. c.in_ok-reached.ensures.front files there (subst (λ (n : ℕ). HasFront n files (g.E.Disk.device c.args.onto.now).contents) (sym c.self.view_is) front)
