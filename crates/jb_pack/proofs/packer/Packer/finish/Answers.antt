use Rattle.std.proofs.Common.{List, ap, arith, subst}
use Rattle.jb_limits.specs.declared.limits.TheConstants.{MOST_SLOTS}
use Rattle.jb_pack.specs.Finish.{IsPackOfCopies}
use Rattle.jb_state.specs.Packed.{headers_size, texts_size}
use Rattle.jb_pack.specs.Shadow.{Shadow}
use Rattle.jb_pack.specs.declared.copied.CopiedText.{CopiedText}
use Rattle.jb_pack.proofs.FitLemmas.{headers_fit}
use Rattle.jb_pack.proofs.PlanLemmas.{texts_small}
use Rattle.jb_pack.proofs.packer.Packer.finish.Goals as goal

pub sizes_of-sizes-requires-clause-headers : goal.sizes_of-sizes-requires-clause-headers
sizes_of-sizes-requires-clause-headers g c =
    omega (arith, headers_fit MOST_SLOTS c.args.loaded.now c.requires.sound, ap headers_size c.as_slice.ensures)

pub sizes_of-sizes-requires-clause-texts : goal.sizes_of-sizes-requires-clause-texts
sizes_of-sizes-requires-clause-texts g c =
    omega (arith, texts_small MOST_SLOTS c.args.loaded.now c.requires.sound (omega arith), ap texts_size c.as_slice.ensures)

pub returns-clause-finishes : goal.returns-clause-finishes
returns-clause-finishes g c =
    subst (λ (s : Shadow). IsPackOfCopies c.args.loaded.now s c.put_copied_pack.new.redo) c.self.view_is
    (subst (λ (l : List CopiedText). IsPackOfCopies c.args.loaded.now (record { texts = l; len = c.self.inside.len }) c.put_copied_pack.new.redo)
    c.as_slice-copies.ensures.value (c.in_ok-put_copied_pack.ensures.packs c.self.inside.len))
