use Rattle.std.proofs.Common.{[], length, subst, rules, List}
use Rattle.jb_disk.specs.Images.{Images}
use Rattle.jb_journal.specs.Coming.{ComeBy}
use Rattle.jb_journal.proofs.ComingLemmas.{come_wrote}
use Rattle.jb_journal.proofs.CopyLemmas.{part_keeps}
use Rattle.jb_journal.proofs.Told.{on_ok}
use Rattle.jb_journal.proofs.copying.copy_part.Goals as goal

pub returns-clause-keeps : goal.returns-clause-keeps
returns-clause-keeps g c = λ lengths pieces start written. part_keeps lengths pieces start c.args.part.to c.args.part.to_at (length c.args.bytes.now) _ _ _ _ _ c.read_at.ensures.kept (g.met.D.Disk.told c.write_at.new.self)
    c.write_at.ensures.changed c.write_at.ensures.ok c.write_at.ensures.cause (search rules) written

pub returns-clause-come : goal.returns-clause-come
returns-clause-come g c = on_ok c.write_at.result _ _ (λ is. subst (λ (l : List Images). ComeBy [] [] l (g.D.Disk.device c.write_at.new.self).moments) c.in_ok-read_at.ensures.kept.moments (come_wrote c.args.part.to c.args.part.to_at _ _ _ is)) c.write_at.ensures.crash
