use Rattle.std.proofs.Common.{ap, refl, sym, ◌∙◌}
use Rattle.std.proofs.lemmas.Bool.{false≢true}
use Rattle.std.specs.Prelude.{is_some}
use Rattle.jb_area.proofs.Outcomes.{if_ok_then}
use Rattle.jb_area.proofs.StepLemmas.{steps_none}
use Rattle.jb_area.proofs.area.OpenArea.pack_some.Goals as goal

pub returns-in-Some-clause-steps : goal.returns-in-Some-clause-steps
returns-in-Some-clause-steps g c = steps_none g.D.Disk.device c.args.self.now _

pub returns-in-Some-clause-refused : goal.returns-in-Some-clause-refused
returns-in-Some-clause-refused g c = λ texts resting refused. (refl, refl)

pub returns-in-Some-clause-copied : goal.returns-in-Some-clause-copied
returns-in-Some-clause-copied g c = λ texts resting stands.
    absurd (false≢true (sym stands ∙ c.refuse_pack.ensures.says texts resting.kept.ruled.sized ∙ ap is_some c.in-Some.is))

pub copy-requires-clause-fits : goal.copy-requires-clause-fits
copy-requires-clause-fits g c = (c.refuse_pack.ensures.may c.in-None.is).fits

pub returns-in-None-clause-refused : goal.returns-in-None-clause-refused
returns-in-None-clause-refused g c = λ texts resting refused.
    absurd (false≢true (sym (c.refuse_pack.ensures.says texts resting.kept.ruled.sized ∙ ap is_some c.in-None.is) ∙ refused))

pub returns-in-None-clause-copied : goal.returns-in-None-clause-copied
returns-in-None-clause-copied g c = if_ok_then c.copy.result _ _ c.copy.ensures.copied (λ more is texts resting stands. is)
