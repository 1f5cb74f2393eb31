use Rattle.std.proofs.Common.{ap, arith}
use Rattle.jb_limits.specs.declared.limits.TheConstants.{MOST_SLOTS}
use Rattle.jb_pack.proofs.FitLemmas.{headers_fit}
use Rattle.jb_pack.proofs.PlanLemmas.{texts_small}
use Rattle.jb_state.specs.Packed.{headers_size, texts_size}
use Rattle.jb_pack.proofs.planning.plan.Goals as goal

pub sizes_of-sizes-requires-clause-headers : goal.sizes_of-sizes-requires-clause-headers
sizes_of-sizes-requires-clause-headers g c =
    omega (arith, headers_fit MOST_SLOTS c.args.loaded.now c.requires.sound, ap headers_size c.as_slice.ensures)

pub sizes_of-sizes-requires-clause-texts : goal.sizes_of-sizes-requires-clause-texts
sizes_of-sizes-requires-clause-texts g c =
    omega (arith, texts_small MOST_SLOTS c.args.loaded.now c.requires.sound (omega arith), ap texts_size c.as_slice.ensures)
