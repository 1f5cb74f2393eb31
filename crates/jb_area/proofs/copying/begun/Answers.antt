use Rattle.std.proofs.Common.{◌∙◌, Option, ap, subst, sym}
use Rattle.std.specs.Option.{ForSome}
use Rattle.jb_pack.proofs.TouchLemmas.{touches-none}
use Rattle.jb_pack.specs.Shadow.{HasCopies, Shadow}
use Rattle.jb_decide.specs.Holds.{HoldsCopies}
use Rattle.jb_area.specs.Copying.{begun_of}
use Rattle.jb_area.proofs.Outcomes.{if_ok_then, if_ok_then2}
use Rattle.jb_area.proofs.copying.begun.Goals as goal

pub returns-in-Some-clause-begun : goal.returns-in-Some-clause-begun
returns-in-Some-clause-begun g c = sym (ap begun_of c.in-Some.is)

pub returns-in-Some-clause-has : goal.returns-in-Some-clause-has
returns-in-Some-clause-has g c =
    subst (λ (k : Option Shadow). ForSome (g.D.Disk.device c.args.disk.now).contents (HoldsCopies k)) c.in-Some.is c.requires.has

pub returns-in-Some-clause-kept : goal.returns-in-Some-clause-kept
returns-in-Some-clause-kept g c = touches-none (g.D.Disk.device c.args.disk.now)

pub returns-in-None-clause-begun : goal.returns-in-None-clause-begun
returns-in-None-clause-begun g c = if_ok_then c.begin.result _ _ c.begin.ensures.begun (λ packer is. is ∙ sym (ap begun_of c.in-None.is))

pub returns-in-None-clause-has : goal.returns-in-None-clause-has
returns-in-None-clause-has g c =
    if_ok_then2 c.begin.result _ _ _ c.begin.ensures.begun c.begin.ensures.has (λ packer is has.
    subst (λ (s : Shadow). ForSome (g.D.Disk.device c.begin.new.disk).contents (HasCopies s)) (sym is) has)
