-- The area at the end of a run.
use Rattle.std.proofs.Common.{◌≡◌, ℕ, List, ap, ◌∙◌, subst, arith}
use Rattle.std.specs.Prelude.{Result, Ok, Err, IfOk, IsSome}
use Rattle.jb_area.specs.declared.area.OpenArea.{OpenArea}
use Rattle.jb_base.specs.declared.area.AreaRules.{AreaRules}
use Rattle.jb_limits.specs.declared.limits.TheConstants.{MOST_SLOTS}
use Rattle.jb_decide.specs.declared.error.AreaError.{AreaError}
use Rattle.jb_disk.specs.Device.{Device, TellsAlike}
use Rattle.jb_image.specs.Stands.{StandsFor}
use Rattle.jb_state.specs.State.{AreaState, state_of}
use Rattle.jb_tool.specs.LoadRuns.{IsRunAt, IsFilled, IsLoaded, RestsAs, run_at}
use Rattle.jb_tool.specs.LoadSummary.{run_summary}
use Rattle.jb_tool.specs.Workload.{LoadRun, empty_area}
use Rattle.jb_tool.specs.declared.counts.Counts.{Counts}
use Rattle.jb_tool.proofs.ChangingLemmas.{holds_stands}

-- the area and the counts of a run are the run
run_is : (area : AreaState) (counts : Counts) (run : LoadRun) → area ≡ run.area → counts.posts ≡ run.posts → counts.reads ≡ run.reads → counts.kills ≡ run.kills → run_at area counts ≡ run
run_is area counts run same posts reads kills = λ i. record { area = same i; posts = posts i; reads = reads i; kills = kills i }

-- of a disk that shows itself so
module _ {D : Type 0} (shown : D → Device) where
  -- the summary of an area that rests where a run has come is that of the run
  pub summary_is : (area : OpenArea D) (counts : Counts) (run : LoadRun) (text : List ℕ) → IsRunAt shown area counts run
      → ((texts : List ℕ) → text ≡ run_summary (run_at (state_of texts area.held) counts)) → text ≡ run_summary run
  summary_is area counts run text at is =
      is at.rests.texts ∙ ap (λ (r : LoadRun). run_summary r) (run_is (state_of at.rests.texts area.held) counts run at.rests.is at.posts at.reads at.kills)

  -- the files of an area that was filled
  pub filled_loaded : (seed count : ℕ) (text : List ℕ) (area : OpenArea D) → IsFilled shown seed count text area → IsLoaded seed count text (shown area.disk)
  filled_loaded seed count text area filled =
      let few = filled.rests.rests.kept.ruled.sound.few_slots in
      let rules = ap (λ (r : AreaRules). r.slots) filled.rules in
      record {
        text_is = filled.text_is;
        stands = λ files there. subst (StandsFor MOST_SLOTS files) filled.rests.is
            (holds_stands area.held filled.rests.texts files (omega (arith, few, rules)) (filled.rests.rests.kept.settled.rests files there).holds);
        synced = filled.rests.rests.kept.settled.synced;
      }

  -- so of an answer
  pub filled_answer : (seed count : ℕ) (answer : Result (List ℕ) AreaError) (before : Device) (old area : OpenArea D) (after : Device) → TellsAlike before (shown old.disk) → RestsAs shown old empty_area → shown area.disk ≡ after
      → IfOk answer (λ text. IsSome (shown old.disk).contents → RestsAs shown old empty_area → IsFilled shown seed count text area)
      → IfOk answer (λ text. IsSome before.contents → IsLoaded seed count text after)
  filled_answer seed count (Ok text) before old area after alike rests same filled = λ tells. subst (IsLoaded seed count text) same (filled_loaded seed count text area (filled (alike ∙ tells) rests))
  filled_answer seed count (Err error) before old area after alike rests same filled = tt
