-- A disk that was claimed, which only reads: it is as it was, or it has failed and the area is refused.
use Rattle.std.proofs.Common.{◌≡◌, ◌∙◌, ℕ, ◌≤◌, List, Option, [], ◌∷◌, Result, Ok, Err, IfErr, IfOk, OnOk, ap, arith, refl}
use Rattle.std.specs.Option.{ForSome}
use Rattle.jb_area.specs.Area.{device_of, rules_of}
use Rattle.jb_area.specs.Calls.{HasRest}
use Rattle.jb_area.specs.declared.area.OpenArea.{OpenArea}
use Rattle.jb_area_open.specs.Opening.{IsOpenAt, IsRecovered, KeepsOpening, OpensAs, OpensAsAtStart, OpensFirmly, Refuses, opened_device, is_opening_fault}
use Rattle.jb_area_open.specs.declared.error.OpeningError.{OpeningError}
use Rattle.jb_area_open.specs.declared.error.OpeningError.TheVariants.{Base}
use Rattle.jb_base.specs.declared.area.AreaRules.{AreaRules}
use Rattle.jb_bytes.specs.Fault.{Rose}
use Rattle.jb_disk.specs.Device.{Device, OnlyReads, TellsAlike, RoseIf}
use Rattle.jb_disk.specs.Files.{Files}
use Rattle.jb_disk.specs.Images.{Images}
use Rattle.jb_disk.specs.Runs.{LeavesNow}
use Rattle.jb_disk.proofs.RunLemmas.{runs-refl}
use Rattle.jb_image.specs.declared.error.OpenError.TheVariants.{StoreFault}
use Rattle.jb_journal.specs.Recover.{IsGrowthSafe}
use Rattle.jb_run.specs.AreasErrors.{RefusesDisk, refused_at}
use Rattle.jb_run.specs.Lives.{OpensOver}

-- what was only read, and counts no fault more, is as it was
pub claimed : (old new : Device) → OnlyReads old new → new.faults ≡ old.faults → new ≡ old
claimed old new reads faults =
    let by_faults : (n : ℕ) → Device = λ n. record { faults = n; contents = new.contents; moments = new.moments } in
    let by_contents : (c : Option Files) → Device = λ c. record { faults = old.faults; contents = c; moments = new.moments } in
    let by_moments : (m : List Images) → Device = λ m. record { faults = old.faults; contents = old.contents; moments = m } in
    ap by_faults faults ∙ ap by_contents reads.contents ∙ ap by_moments reads.moments

-- what files open to they open to
same_opens : (files : Files) → OpensAs files files
same_opens files loaded texts = (λ opens. opens, λ opens. opens)

-- before anything is done a crash leaves what it might leave
leaves_first : (moments : List Images) → LeavesNow (OpensAsAtStart moments) moments
leaves_first [] = tt
leaves_first (now ∷ earlier) = λ files image. record { was = files; might = image; same = same_opens files }

-- a claim that was refused leaves what was there
pub refuses_claim : (place slots : ℕ) (before after : Device) → OnlyReads before after → Rose before.faults after.faults → before.faults ≤ after.faults
    → RefusesDisk place slots before after (refused_at place (Base StoreFault))
refuses_claim place slots before after reads rose later = record {
  why = Base StoreFault;
  is = refl;
  refuses = λ other. absurd (other refl);
  cause = rose;
  crash = λ was there safe. record { first = leaves_first before.moments; run = runs-refl (OpensAsAtStart before.moments) before.moments after.moments reads.moments };
  firm = λ was there safe. record { syncing = []; firm = []; since = reads.moments; few = omega arith; only = tt };
  later = later;
}

module _ {D : Type 0} (shown : D → Device) (by : AreaRules) (before : Device) where
  -- an area that was opened
  pub opens_over : (result : Result (OpenArea D) (D × OpeningError)) → IfOk result (λ area. rules_of area ≡ by) → IfOk result (HasRest shown)
      → IfOk result (λ area. ForSome before.contents (λ was. IsGrowthSafe was → IsOpenAt shown was area))
      → IfOk result (λ area. ForSome before.contents (λ was. IsRecovered was (device_of shown area))) → OnOk result ((opened_device shown result).faults ≡ before.faults)
      → KeepsOpening before (opened_device shown result) → OpensFirmly before (opened_device shown result) → TellsAlike before (opened_device shown result)
      → IfOk result (OpensOver shown by before)
  opens_over (Ok area) rules rest opens recovered faults crash firm alike =
      record { rules = rules; rest = rest; opens = opens; recovered = recovered; faults = faults; crash = crash; firm = firm; alike = alike }
  opens_over (Err back) rules rest opens recovered faults crash firm alike = tt

  -- and one that was refused
  pub refuses_disk : (result : Result (OpenArea D) (D × OpeningError)) → IfErr result (λ back. Refuses by.slots before (shown back.0) back.1)
      → IfErr result (λ back. RoseIf (is_opening_fault back.1) before.faults (opened_device shown result).faults) → KeepsOpening before (opened_device shown result)
      → OpensFirmly before (opened_device shown result) → before.faults ≤ (opened_device shown result).faults
      → IfErr result (λ back. (place : ℕ) → RefusesDisk place by.slots before (shown back.0) (refused_at place back.1))
  refuses_disk (Ok area) refuses cause crash firm later = tt
  refuses_disk (Err back) refuses cause crash firm later =
      λ place. record { why = back.1; is = refl; refuses = refuses; cause = cause; crash = crash; firm = firm; later = later }
