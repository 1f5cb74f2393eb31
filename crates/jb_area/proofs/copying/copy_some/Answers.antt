use Rattle.std.proofs.Common.{◌∙◌, Bool, Err, Option, Result, ap, refl, subst, sym}
use Rattle.std.specs.Option.{ForSome}
use Rattle.jb_pack.specs.Copying.{is_pack_fault}
use Rattle.jb_pack.proofs.PackerLemmas.{texts_kept}
use Rattle.jb_pack.proofs.TouchLemmas.{touches-then}
use Rattle.jb_pack.specs.Shadow.{Shadow}
use Rattle.jb_pack.specs.declared.error.PackError.{PackError}
use Rattle.jb_decide.specs.Holds.{HoldsCopies}
use Rattle.jb_area.specs.Copying.{begun_of}
use Rattle.jb_area.proofs.BegunLemmas.{copied_begun, synced_unless, unless_always, unless_then}
use Rattle.jb_area.proofs.Outcomes.{counts_behind, if_ok_then}
use Rattle.jb_area.proofs.copying.copy_some.Goals as goal

pub copy_with-requires-clause-told : goal.copy_with-requires-clause-told
copy_with-requires-clause-told g c =
    texts_kept c.args.loaded.now.texts_len (g.D.Disk.device c.args.disk.now).contents (g.D.Disk.device c.begun.new.disk).contents c.requires.told c.begun.ensures.kept.others

pub copy_with-requires-clause-has : goal.copy_with-requires-clause-has
copy_with-requires-clause-has g c = c.in-Ok.ensures.has

pub returns-in-Ok-clause-copied : goal.returns-in-Ok-clause-copied
returns-in-Ok-clause-copied g c =
    if_ok_then c.copy_with.result _ _ c.copy_with.ensures.copied (λ more some.
    copied_begun c.args.budget c.args.loaded.now.slots c.args.kept.now c.in-Ok.packer c.copy_with.new.kept more (c.in-Ok.ensures.begun ∙ ap begun_of c.replace.ensures.value) some)

pub returns-in-Ok-clause-durable : goal.returns-in-Ok-clause-durable
returns-in-Ok-clause-durable g c =
    unless_then c.copy_with.result _ _ (λ next synced. next (c.in-Ok.ensures.durable synced)) c.copy_with.ensures.durable

pub returns-in-Ok-clause-touches : goal.returns-in-Ok-clause-touches
returns-in-Ok-clause-touches g c =
    touches-then (g.D.Disk.device c.args.disk.now) (g.D.Disk.device c.begun.new.disk) (g.D.Disk.device c.copy_with.new.disk) c.begun.ensures.kept c.copy_with.ensures.touches

pub returns-in-Ok-clause-faults : goal.returns-in-Ok-clause-faults
returns-in-Ok-clause-faults g c =
    counts_behind is_pack_fault (g.D.Disk.device c.args.disk.now) (g.D.Disk.device c.begun.new.disk) (g.D.Disk.device c.copy_with.new.disk) c.copy_with.result c.in-Ok.ensures.faults.quiet c.copy_with.ensures.faults

pub returns-in-Err-clause-has : goal.returns-in-Err-clause-has
returns-in-Err-clause-has g c =
    let result : Result Bool PackError = Err c.in-Err.error in
    unless_always result _ (subst (λ (k : Option Shadow). ForSome (g.D.Disk.device c.begun.new.disk).contents (HoldsCopies k)) (sym c.replace.ensures.after) (λ files there. tt))

pub returns-in-Err-clause-durable : goal.returns-in-Err-clause-durable
returns-in-Err-clause-durable g c =
    let result : Result Bool PackError = Err c.in-Err.error in
    synced_unless c.in-Err.error result (g.D.Disk.device c.args.disk.now) (g.D.Disk.device c.begun.new.disk) refl c.in-Err.ensures.unchanged
