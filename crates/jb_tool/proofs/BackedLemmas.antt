-- A base that is opened and then backed up.
use Rattle.std.proofs.Common.{◌≡◌, ◌≢◌, inl, inr, ℕ, ◌≤◌, List, [], ◌∷◌, ap, refl, ◌∙◌, subst, arith}
use Rattle.std.specs.Prelude.{Bool, true, false, Ok, Err, Some}
use Rattle.std.specs.Option.{ForSome}
use Rattle.jb_area.specs.Calls.{HasRest}
use Rattle.jb_area.specs.declared.area.OpenArea.{OpenArea}
use Rattle.jb_area_open.proofs.OpeningLemmas.{recovered_read}
use Rattle.jb_area_open.specs.Laws.{RefusesNothingThatOpens}
use Rattle.jb_area_open.specs.Opening.{IsOpenAt, IsRecovered, KeepsOpening, OpensAsAtStart, Refuses, is_opening_fault}
use Rattle.jb_area_open.specs.declared.error.OpeningError.{OpeningError}
use Rattle.jb_area_open.specs.declared.error.OpeningError.TheVariants.{BadJournal as bad_journal, Base}
use Rattle.jb_disk.proofs.RunLemmas.{runs-refl}
use Rattle.jb_disk.specs.Device.{Device, OnlyReads, RoseIf}
use Rattle.jb_disk.specs.Files.{Files}
use Rattle.jb_disk.specs.Images.{Images}
use Rattle.jb_disk.specs.Runs.{LeavesNow}
use Rattle.jb_image.specs.Answers.{is_open_fault}
use Rattle.jb_image.specs.declared.error.OpenError.TheVariants.{OutOfMemory as no_memory, StoreFault}
use Rattle.jb_journal.specs.Recover.{IsGrowthSafe}
use Rattle.jb_limits.specs.declared.limits.TheConstants.{MOST_SLOTS}
use Rattle.jb_state.specs.State.{state_of}
use Rattle.jb_tool.proofs.CompleteLemmas.{wants_memory}
use Rattle.jb_tool.proofs.TendLemmas.{opened_as, opened_files, opened_stands}
use Rattle.jb_tool.specs.Backing.{AnswersBackup, BacksUp, CountsInOne, IsOpenedAs, RoseInOneIf}
use Rattle.jb_tool.specs.BackingArea.{CopiesArea}
use Rattle.jb_tool.specs.Changing.{of_opening}
use Rattle.jb_tool.specs.Laws.{BacksUpWhatOpens, IsBackedUpFrom}
use Rattle.jb_tool.specs.Recovered.{is_tool_fault}
use Rattle.jb_tool.specs.Tending.{ToolAnswer}
use Rattle.jb_tool.specs.declared.error.ToolError.{ToolError}
use Rattle.jb_tool.specs.declared.error.ToolError.TheVariants.{AlreadyThere, BadJournal, NotEmpty, Open, TextFull}

-- what a crash leaves now opens to just what some opens to that it might leave now
now_left : (moments : List Images) → LeavesNow (OpensAsAtStart moments) moments
now_left [] = tt
now_left (now ∷ earlier) = λ files image. record { was = files; might = image; same = λ loaded texts. (λ x. x, λ x. x) }

-- nothing is done to the base
pub nothing_opened : (device : Device) → KeepsOpening device device
nothing_opened device = λ was there safe. record { first = now_left device.moments; run = runs-refl (OpensAsAtStart device.moments) device.moments device.moments refl }

-- nor to the target, for want of memory
pub answers_none : (device target : Device) → AnswersBackup device device target target (Err (Open no_memory))
answers_none device target = record {
  says = inl (refl, inl (refl, refl));
  faults = record { quiet = tt; later = omega arith; other_later = omega arith; cause = (refl, refl) };
}

-- a fault of one disk alone
rose_alone : (fault : Bool) (one one_now other : ℕ) → RoseIf fault one one_now → RoseInOneIf fault one one_now other other
rose_alone true one one_now other rose = inl rose
rose_alone false one one_now other same = (same, refl)

-- a fault of the opening is one of the tool
rose_opening : (error : OpeningError) (one one_now other : ℕ) → RoseIf (is_opening_fault error) one one_now → RoseInOneIf (is_tool_fault (of_opening error)) one one_now other other
rose_opening (bad_journal at) one one_now other same = (same, refl)
rose_opening (Base error) one one_now other cause = rose_alone (is_open_fault error) one one_now other cause

-- a base that is not opened is not backed up
pub answers_unopened : (before after target : Device) (error : OpeningError) → Refuses MOST_SLOTS before after error → before.faults ≤ after.faults
    → RoseIf (is_opening_fault error) before.faults after.faults → AnswersBackup before after target target (Err (of_opening error))
answers_unopened before after target error refuses later cause = record {
  says = says error refuses;
  faults = record { quiet = tt; later = later; other_later = omega arith; cause = rose_opening error before.faults after.faults target.faults cause };
}
  where
    says : (e : OpeningError) → Refuses MOST_SLOTS before after e → BacksUp before after target target (Err (of_opening e))
    says (bad_journal at) refused = (refl, refused)
    says (Base e) refused = inl (refl, inr (inl refused))

-- behind what left the count of the base's disk as it was
counts_behind : (before mid after target target_now : Device) (answer : ToolAnswer) → mid.faults ≡ before.faults → CountsInOne mid after target target_now answer
    → CountsInOne before after target target_now answer
counts_behind before mid after target target_now (Ok text) quiet counts = record {
  quiet = (counts.quiet.0 ∙ quiet, counts.quiet.1);
  later = omega (arith, quiet, counts.later);
  other_later = counts.other_later;
  cause = tt;
}
counts_behind before mid after target target_now (Err error) quiet counts = record {
  quiet = tt;
  later = omega (arith, quiet, counts.later);
  other_later = counts.other_later;
  cause = subst (λ (n : ℕ). RoseInOneIf (is_tool_fault error) n after.faults target.faults target_now.faults) quiet counts.cause;
}

module _ {D : Type 0} (shown : D → Device) (before : Device) (area : OpenArea D)
    (recovered : ForSome before.contents (λ was. IsRecovered was (shown area.disk)))
    (opened : ForSome before.contents (λ was. IsGrowthSafe was → IsOpenAt shown was area))
    (rest : HasRest shown area) where
  -- a base that was opened is so still, where its disk was only read since
  still_opened : (after : Device) → OnlyReads (shown area.disk) after → (was : Files) → before.contents ≡ Some was → IsOpenedAs (state_of rest.texts area.held) was after
  still_opened after reads was there = record {
    recovered = recovered_read before (shown area.disk) after reads recovered was there;
    stands = opened_stands shown before area recovered opened rest after reads;
    opened = opened_as shown before area recovered opened rest was there;
  }

  module _ (quiet : (shown area.disk).faults ≡ before.faults) (new : OpenArea D) (target target_now : Device) where
    -- what is said of it then
    says_opened : (answer : ToolAnswer) → CopiesArea shown area new target target_now answer → BacksUp before (shown new.disk) target target_now answer
    says_opened (Ok text) copies = λ was there.
        let now = opened_files shown before area recovered opened rest was there in
        record {
          part = record { state = state_of rest.texts area.held; opened = still_opened (shown new.disk) copies.reads was there; crash = copies.crash now.files now.is rest.texts rest.rests };
          empty = copies.empty;
          opens = copies.opens now.files now.is rest.texts rest.rests;
          line = copies.line rest.texts;
        }
    says_opened (Err (Open error)) copies = elim copies.failed [
      | inl memory ↦ inl (memory.1, inr (inr (memory.0, λ was there. record { state = state_of rest.texts area.held; opened = still_opened (shown new.disk) copies.reads was there })))
      | inr fault ↦ inr (
        fault,
        λ was there.
            let now = opened_files shown before area recovered opened rest was there in
            record { state = state_of rest.texts area.held; opened = still_opened (shown new.disk) copies.reads was there; crash = copies.crash now.files now.is rest.texts rest.rests },
      )
    ]
    says_opened (Err (NotEmpty file)) copies = (copies.failed, λ was there. record { state = state_of rest.texts area.held; opened = still_opened (shown new.disk) copies.reads was there })
    says_opened (Err (BadJournal at)) copies = absurd copies.failed
    says_opened (Err AlreadyThere) copies = absurd copies.failed
    says_opened (Err (TextFull length)) copies = absurd copies.failed

    -- a base that is opened is backed up, or not, as its area is
    pub answers_opened : (answer : ToolAnswer) → CopiesArea shown area new target target_now answer → AnswersBackup before (shown new.disk) target target_now answer
    answers_opened answer copies = record {
      says = says_opened answer copies;
      faults = counts_behind before (shown area.disk) (shown new.disk) target target_now answer quiet copies.faults;
    }

-- where no fault was counted a store fault is not answered
no_fault : (was : Files) (before after target target_now : Device) → IsBackedUpFrom was before after target target_now (Err (Open StoreFault)) → ⊥
no_fault was before after target target_now is = elim is.answers.faults.cause [
  | inl rose ↦ is.quiet rose
  | inr rose ↦ is.target_quiet rose
]

-- each base that opens is backed up
pub backs_up_what_opens : RefusesNothingThatOpens → BacksUpWhatOpens
backs_up_what_opens nothing was before after target target_now (Ok text) opens is = tt
backs_up_what_opens nothing was before after target target_now (Err (Open error)) opens is = elim is.answers.says [
  | inl unasked ↦ elim unasked.1 [
    | inl memory ↦ memory.0
    | inr later ↦ elim later [
      | inl refuses ↦ wants_memory error (nothing MOST_SLOTS before after was (Base error) is.told opens refuses) fault
      | inr memory ↦ memory.0
    ]
  ]
  | inr failed ↦ absurd (fault (ap Open failed.0))
]
  where
    fault : Open error ≢ Open StoreFault
    fault same = no_fault was before after target target_now (subst (λ (e : ToolError). IsBackedUpFrom was before after target target_now (Err e)) same is)
backs_up_what_opens nothing was before after target target_now (Err (NotEmpty file)) opens is = is.answers.says.0.full
backs_up_what_opens nothing was before after target target_now (Err (BadJournal at)) opens is =
    nothing MOST_SLOTS before after was (bad_journal at) is.told opens is.answers.says.1
backs_up_what_opens nothing was before after target target_now (Err AlreadyThere) opens is = absurd is.answers.says
backs_up_what_opens nothing was before after target target_now (Err (TextFull length)) opens is = absurd is.answers.says
