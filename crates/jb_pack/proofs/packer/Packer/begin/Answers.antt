use Rattle.jb_pack.proofs.PackerLemmas.{begun_has, fault_counted}
use Rattle.jb_pack.proofs.packer.Packer.begin.Goals as goal

pub returns-clause-has : goal.returns-clause-has
returns-clause-has g c = begun_has _ _ c.in_ok-empty_shadow.ensures.told

pub returns-in_err-empty_shadow-clause-faults : goal.returns-in_err-empty_shadow-clause-faults
returns-in_err-empty_shadow-clause-faults g c =
    let fails = c.in_err-empty_shadow.ensures.cause in
    fault_counted _ _ _ c.from_residual-in_err-empty_shadow.ensures.1 fails.later fails.failed
