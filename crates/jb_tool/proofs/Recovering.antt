-- A base that is recovered and then read.
use Rattle.std.proofs.Common.{◌≡◌, ℕ, List, refl, ◌∙◌, sym, subst, arith}
use Rattle.std.specs.Prelude.{Bool, Option, Some, None, IsSome, Result, Ok, Err}
use Rattle.std.specs.Option.{ForSome}
use Rattle.jb_limits.specs.declared.limits.TheConstants.{MOST_SLOTS}
use Rattle.jb_disk.specs.Device.{CountsFaults, Device, OnlyReads, RoseIf}
use Rattle.jb_disk.specs.Files.{Files}
use Rattle.jb_disk.specs.Images.{Images}
use Rattle.jb_disk.specs.Runs.{LeavesNow, Runs, IsAllSynced}
use Rattle.jb_disk.specs.declared.file.FileId.TheVariants.{Jdt}
use Rattle.jb_image.specs.declared.error.OpenError.TheVariants.{OutOfMemory as no_memory}
use Rattle.jb_image.specs.Answers.{IsRefusedBy, OpensTo}
use Rattle.jb_image.specs.Stands.{StandsFor}
use Rattle.jb_journal.specs.declared.error.JournalError.{JournalError}
use Rattle.jb_journal.specs.declared.error.JournalError.TheVariants.{BadRecord, StoreFault}
use Rattle.jb_journal.specs.declared.error.Recovered.{Recovered}
use Rattle.jb_journal.specs.Recover.{IsFound, IsGrowthSafe, IsRefusedOver, ReplaysAsAtStart}
use Rattle.jb_state.specs.State.{state_of}
use Rattle.jb_state.specs.declared.loaded.Loaded.{Loaded}
use Rattle.jb_redo.specs.Replay.{Replays}
use Rattle.jb_tool.specs.Recovered.{IsRecoveredTo, KeepsReplay, RefusesReading, tool_of_journal}
use Rattle.jb_tool.specs.declared.error.ToolError.TheVariants.{Open}
use Rattle.jb_area_open.proofs.OpeningLemmas.{record_of}

-- what is told, and that it is
pub record IsTold (contents : Option Files) : Type 0 where
  pub files : Files
  pub is : contents ≡ Some files

-- what is there is told
pub is_told : (contents : Option Files) → IsSome contents → IsTold contents
is_told None there = absurd (cc)
is_told (Some files) there = record { files = files; is = refl }

-- a base that was recovered and then only read, and what was found in its files
pub recovered : (property : Files → Type 0) (before mid after : Device) (found : Recovered) → ForSome before.contents (IsFound found)
    → ForSome before.contents (λ was. IsGrowthSafe was → ForSome mid.contents (Replays was))
    → IsAllSynced mid → (IsSome before.contents → IsSome mid.contents)
    → OnlyReads mid after → ForSome mid.contents property → ForSome before.contents (λ was. IsRecoveredTo property was after)
recovered property before mid after found is done synced told kept has = λ was there. record {
  record_found = record_of found was (is was there);
  replayed = λ safe.
      let now = is_told mid.contents (told (subst IsSome (sym there) refl)) in
      record {
        files = now.files;
        told = kept.contents ∙ now.is;
        replays = done was there safe now.files now.is;
        synced = subst (λ (m : List Images). LeavesNow (λ left. left ≡ now.files) m) (sym kept.moments) (synced now.files now.is);
        has = has now.files now.is;
      };
  now = λ files now_is. has files (sym kept.contents ∙ now_is);
}

-- the files of a recovered base have a property that follows from what was found in them
pub recovered_has : (one other : Files → Type 0) (was : Files) (after : Device) → ((files : Files) → one files → other files) → IsRecoveredTo one was after → IsRecoveredTo other was after
recovered_has one other was after follows is = record {
  record_found = is.record_found;
  replayed = λ safe.
      let so = is.replayed safe in
      record { files = so.files; told = so.told; replays = so.replays; synced = so.synced; has = follows so.files so.has };
  now = λ files now_is. follows files (is.now files now_is);
}

-- files that hold a loaded area stand for it
pub opens_stands : (files : Files) (loaded : Loaded) → OpensTo MOST_SLOTS files loaded → StandsFor MOST_SLOTS files (state_of (files Jdt) loaded)
opens_stands files loaded opens = record { loaded = loaded; loads = opens.loads; few_slots = opens.few_slots; same = refl }

-- a recovery that is refused
pub refused : (before after : Device) (error : JournalError) → ForSome before.contents (IsRefusedOver error after) → RefusesReading before after (tool_of_journal error)
refused before after (BadRecord at) is = is
refused before after StoreFault is = λ other. absurd (other refl)

-- reads after a recovery leave no more
pub crash_then : (before mid after : Device) → KeepsReplay before mid → OnlyReads mid after → KeepsReplay before after
crash_then before mid after keeps kept = λ was there safe.
    let leaves = keeps was there safe in
    record { first = leaves.first; run = subst (λ (m : List Images). Runs (ReplaysAsAtStart before.moments) before.moments m) (sym kept.moments) leaves.run }

-- a base that was recovered, and no memory then
pub unlisted : (property : Files → Type 0) (before after : Device) → ForSome before.contents (λ was. IsRecoveredTo property was after) → RefusesReading before after (Open no_memory)
unlisted property before after is = λ other was there. recovered_has property (λ files. IsRefusedBy MOST_SLOTS files no_memory) was after (λ files has. tt) (is was there)

-- behind what left the count of faults as it was
pub counts_then : {T E : Type 0} (is_fault : E → Bool) (old mid new : Device) (result : Result T E) → mid.faults ≡ old.faults
    → CountsFaults is_fault mid new result → CountsFaults is_fault old new result
counts_then is_fault old mid new (Ok value) quiet counts = record { quiet = counts.quiet ∙ quiet; later = omega (arith, quiet, counts.later); cause = tt }
counts_then is_fault old mid new (Err error) quiet counts =
    record { quiet = tt; later = omega (arith, quiet, counts.later); cause = subst (λ (n : ℕ). RoseIf (is_fault error) n new.faults) quiet counts.cause }
