-- What copying some texts comes to, whatever it answers.
use Rattle.std.proofs.Common.{◌≡◌, ℕ, Bool, List, Option, Some, Result, Ok, Err, IfErr, OnOk, sym, subst}
use Rattle.std.specs.Option.{ForSome}
use Rattle.jb_disk.specs.Device.{Device}
use Rattle.jb_disk.specs.Runs.{IsAllSynced}
use Rattle.jb_state.specs.declared.loaded.LoadedSlot.{LoadedSlot}
use Rattle.jb_pack.specs.Advance.{Copies}
use Rattle.jb_pack.specs.Shadow.{HasCopies, Shadow}
use Rattle.jb_pack.specs.Touching.{IsUntouched, StaysUnlessFault}
use Rattle.jb_pack.specs.declared.error.PackError.{PackError}
use Rattle.jb_pack.specs.declared.error.PackError.TheVariants.{OutOfMemory, StoreFault}
use Rattle.jb_area.specs.Copying.{HasCopiedSome, UnlessFault, begun_of}

-- what is always so
pub unless_always : {T : Type 0} (result : Result T PackError) (P : Type 0) → P → UnlessFault result P
unless_always (Ok value) P is = is
unless_always (Err StoreFault) P is = tt
unless_always (Err OutOfMemory) P is = is

-- what follows from what is so
pub unless_then : {T : Type 0} (result : Result T PackError) (P Q : Type 0) → (P → Q) → UnlessFault result P → UnlessFault result Q
unless_then (Ok value) P Q then is = then is
unless_then (Err StoreFault) P Q then is = tt
unless_then (Err OutOfMemory) P Q then is = then is

-- without memory the device is as it was
pub synced_unless : {T : Type 0} (error : PackError) (result : Result T PackError) (old new : Device) → result ≡ Err error → IsUntouched old new error
    → UnlessFault result (IsAllSynced old → IsAllSynced new)
synced_unless {T} StoreFault result old new is same = subst (λ (r : Result T PackError). UnlessFault r (IsAllSynced old → IsAllSynced new)) (sym is) tt
synced_unless {T} OutOfMemory result old new is same =
    subst (λ (r : Result T PackError). UnlessFault r (IsAllSynced old → IsAllSynced new)) (sym is) (λ synced. subst IsAllSynced (sym same) synced)

-- a step of a packer that was done, or wanted memory: its copies are there
pub has_unless : {T : Type 0} (result : Result T PackError) (was now : Shadow) (old new : Device) → OnOk result (ForSome new.contents (HasCopies now)) → IfErr result (StaysUnlessFault was now old new)
    → ForSome old.contents (HasCopies was) → UnlessFault result (ForSome new.contents (HasCopies now))
has_unless (Ok value) was now old new done same has = done
has_unless (Err StoreFault) was now old new done same has = tt
has_unless (Err OutOfMemory) was now old new done same has =
    subst (λ (s : Shadow). ForSome new.contents (HasCopies s)) (sym same.0) (subst (λ (d : Device). ForSome d.contents (HasCopies was)) (sym same.1) has)

-- and all is synced that was so
pub durable_unless : {T : Type 0} (result : Result T PackError) (was now : Shadow) (old new : Device) → OnOk result (IsAllSynced old → IsAllSynced new) → IfErr result (StaysUnlessFault was now old new)
    → UnlessFault result (IsAllSynced old → IsAllSynced new)
durable_unless (Ok value) was now old new done same = done
durable_unless (Err StoreFault) was now old new done same = tt
durable_unless (Err OutOfMemory) was now old new done same = λ synced. subst IsAllSynced (sym same.1) synced

-- what was copied from copies that were begun was copied from those that were kept
pub copied_begun : (budget : ℕ) (slots : List LoadedSlot) (old : Option Shadow) (packer : Shadow) (new : Option Shadow) (more : Bool) → packer ≡ begun_of old → HasCopiedSome budget slots (Some packer) new more
    → HasCopiedSome budget slots old new more
copied_begun budget slots old packer new more is some = record {
  shadow = some.shadow;
  kept = some.kept;
  copies = subst (λ (s : Shadow). Copies budget slots s some.shadow) is some.copies;
  says = some.says;
}
