-- A refusal of one part of the opening, as a refusal of the whole.
use Rattle.std.proofs.Common.{◌≡◌, ◌≤◌, inl, inr, ℕ, Result, Err, Some, ap, ◌∙◌, sym, refl, subst}
use Rattle.std.specs.Option.{ForSome}
use Rattle.jb_area_open.proofs.OpeningLemmas.{loads_beside, recovered_read}
use Rattle.jb_area_open.specs.Laws.{OpensWithin, RefusesNothingThatOpens}
use Rattle.jb_area_open.specs.Opening.{IsRecovered, Refuses, is_opening_fault, of_journal}
use Rattle.jb_area_open.specs.declared.error.OpeningError.{OpeningError}
use Rattle.jb_area_open.specs.declared.error.OpeningError.TheVariants.{BadJournal, Base}
use Rattle.jb_disk.specs.Device.{CountsFaults, Device, OnlyReads, RoseIf}
use Rattle.jb_disk.specs.Files.{Files}
use Rattle.jb_disk.specs.Gate.{IsGateOpen}
use Rattle.jb_image.proofs.Theorems.{not_refused_where_open}
use Rattle.jb_image.specs.Answers.{IsRefusedBy, OpensTo}
use Rattle.jb_image.specs.declared.error.OpenError.{OpenError}
use Rattle.jb_image.specs.declared.error.OpenError.TheVariants.{StoreFault as DiskFault}
use Rattle.jb_journal.proofs.RecoverLemmas.{told_now}
use Rattle.jb_journal.specs.Recover.{IsRefusedOver, is_journal_fault}
use Rattle.jb_journal.specs.declared.error.JournalError.{JournalError}
use Rattle.jb_journal.specs.declared.error.JournalError.TheVariants.{BadRecord, StoreFault}
use Rattle.jb_redo.proofs.OneReading.{record_or_bad_place}
use Rattle.jb_redo.proofs.WayLemmas.{one_replay}
use Rattle.jb_redo.specs.Reading.{IsBadAt}
use Rattle.jb_redo.specs.Replay.{Replays}
use Rattle.jb_state.specs.declared.loaded.Loaded.{Loaded}

-- the recovery is refused
pub refused_journal : (limit : ℕ) (before after : Device) (error : JournalError) → ForSome before.contents (IsRefusedOver error after) → Refuses limit before after (of_journal error)
refused_journal limit before after (BadRecord at) is = is
refused_journal limit before after StoreFault is = λ other. absurd (other refl)

-- the recovered files are refused
pub refused_files : (limit : ℕ) (before mid after : Device) (error : OpenError) → ForSome before.contents (λ was. IsRecovered was mid) → OnlyReads mid after
    → ForSome mid.contents (λ files. IsRefusedBy limit files error) → Refuses limit before after (Base error)
refused_files limit before mid after error recovered kept refused = λ other. record {
  recovered = recovered_read before mid after kept recovered;
  refused = λ files is. refused files (sym kept.contents ∙ is);
}

-- a fault says nothing of the files
pub refused_fault : (limit : ℕ) (before after : Device) → Refuses limit before after (Base DiskFault)
refused_fault limit before after = λ other. absurd (other refl)

-- a fault of the recovery is one of the opening
pub rose_journal : (error : JournalError) (before now : ℕ) → RoseIf (is_journal_fault error) before now → RoseIf (is_opening_fault (of_journal error)) before now
rose_journal (BadRecord at) before now rose = rose
rose_journal StoreFault before now rose = rose

-- a refusal behind calls that are done counts its own faults alone
pub refused_counts : (before mid after : Device) (refusal : OpeningError) (result : Result Loaded OpeningError) → result ≡ Err refusal → mid.faults ≡ before.faults → mid.faults ≤ after.faults
    → RoseIf (is_opening_fault refusal) mid.faults after.faults → CountsFaults is_opening_fault before after result
refused_counts before mid after refusal result is quiet later cause = subst (CountsFaults is_opening_fault before after) (sym is) (record {
  quiet = tt;
  later = subst (λ (n : ℕ). n ≤ after.faults) quiet later;
  cause = subst (λ (n : ℕ). RoseIf (is_opening_fault refusal) n after.faults) quiet cause;
})

-- files that replay to others have no bad place behind an open gate
pub no_bad_place : (was after : Files) (at : ℕ) → Replays was after → IsGateOpen was → IsBadAt was at → ⊥
no_bad_place was after at replays is_open bad = elim replays [
  | inl shut ↦ shut.0 is_open
  | inr redone ↦ record_or_bad_place was at bad (record { lengths = redone.lengths; pieces = redone.pieces; is = redone.has })
]

-- the recovered files of a base that opens are those of its area but for the journal
recovered_opens : (limit : ℕ) (was now : Files) (after : Device) → (opens : OpensWithin limit was) → IsRecovered was after → after.contents ≡ Some now → OpensTo limit now opens.loaded
recovered_opens limit was now after opens is now_is =
    let to = is.replayed opens.safe now now_is in
    let one : to.after ≡ opens.after = one_replay was to.after opens.after to.replays opens.replays in
    record {
      loads = loads_beside now opens.after opens.loaded (λ file ne. sym (to.same file ne) ∙ ap (λ (x : Files). x file) one) opens.opens.loads;
      few_slots = opens.opens.few_slots;
    }

-- a base that opens is refused for nothing that it holds
pub refuses_nothing_that_opens : RefusesNothingThatOpens
refuses_nothing_that_opens limit before after was (BadJournal at) there opens refused =
    let over = refused was there in
    no_bad_place was opens.after at opens.replays over.0 over.1
refuses_nothing_that_opens limit before after was (Base DiskFault) there opens refused = tt
refuses_nothing_that_opens limit before after was (Base error) there opens refused =
    let files = refused (λ is. absurd (cc)) in
    let is = files.recovered was there in
    let now = told_now after.contents is.told in
    not_refused_where_open limit now.0 opens.loaded error (recovered_opens limit was now.0 after opens is now.1) (files.refused now.0 now.1)
