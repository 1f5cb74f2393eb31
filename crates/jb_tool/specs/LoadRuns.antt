-- An open area in which the workload runs.
use Rattle.std.specs.Prelude.{◌≡◌, ℕ, ◌+◌, ◌≤◌, IsSome, List, Result, Ok, Err, OnOk}
use Rattle.std.specs.Option.{ForSome}
use Rattle.jb_area.specs.Area.{IsResting}
use Rattle.jb_area.specs.Calls.{HasRest}
use Rattle.jb_area.specs.declared.area.OpenArea.{OpenArea}
use Rattle.jb_limits.specs.declared.limits.TheConstants.{MOST_SLOTS}
use Rattle.jb_decide.specs.Errors.{is_area_fault}
use Rattle.jb_decide.specs.declared.error.AreaError.{AreaError}
use Rattle.jb_disk.specs.Device.{CountsFaults, Device, TellsAlike}
use Rattle.jb_disk.specs.Runs.{IsAllSynced}
use Rattle.jb_image.specs.Stands.{StandsFor}
use Rattle.jb_state.specs.State.{AreaState, state_of}
use Rattle.jb_tool.specs.LoadSummary.{run_summary}
use Rattle.jb_tool.specs.Workload.{LoadRun, load_rules, load_run}
use Rattle.jb_tool.specs.declared.counts.Counts.{Counts}

-- so many answers were counted
abbrev pub answers_in : Counts → ℕ
answers_in counts = counts.posts + counts.reads + counts.kills

-- this area, and what was counted
abbrev pub run_at : AreaState → Counts → LoadRun
run_at area counts = record { area = area; posts = counts.posts; reads = counts.reads; kills = counts.kills }

-- of a disk that shows itself so
module _ {D : Type 0} (shown : D → Device) where
  -- the area is at rest, and stands for this state
  pub record RestsAs (area : OpenArea D) (state : AreaState) : Type 0 where
    pub texts : List ℕ
    pub rests : IsResting shown area texts
    pub is : state_of texts area.held ≡ state

  -- the area rests where this run has come, and so many answers were counted
  pub record IsRunAt (area : OpenArea D) (counts : Counts) (run : LoadRun) : Type 0 where
    pub rests : RestsAs area run.area
    pub posts : counts.posts ≡ run.posts
    pub reads : counts.reads ≡ run.reads
    pub kills : counts.kills ≡ run.kills

  -- the area is at rest, under the rules of the workload
  pub record IsLoadReady (area : OpenArea D) : Type 0 where
    pub rest : HasRest shown area
    pub rules : area.rules ≡ load_rules

  -- commands were done, which take a run so far; or the disk failed, or there was no memory
  pub record Goes (most : ℕ) (old new : OpenArea D) (was now : Counts) (further : LoadRun → LoadRun) (result : Result (Unit {0}) AreaError) : Type 0 where
    pub ready : OnOk result (IsLoadReady new)
    pub done : OnOk result (IsSome (shown old.disk).contents → (run : LoadRun) → IsRunAt old was run → IsRunAt new now (further run))
    pub few : answers_in now ≤ answers_in was + most
    pub faults : CountsFaults is_area_fault (shown old.disk) (shown new.disk) result
    pub alike : TellsAlike (shown old.disk) (shown new.disk)

  -- the text is the summary of the whole run, and the area rests at its end
  pub record IsFilled (seed count : ℕ) (text : List ℕ) (area : OpenArea D) : Type 0 where
    pub text_is : text ≡ run_summary (load_run seed count)
    pub rests : RestsAs area (load_run seed count).area
    pub rules : area.rules ≡ load_rules

  -- the disk as it is then, in the area or handed back
  abbrev pub device_then : Result (OpenArea D) (D × AreaError) → Device
  device_then (Ok area) = shown area.disk
  device_then (Err back) = shown back.0

-- the text is the summary of the whole run, and the files, synced, stand for its last area
pub record IsLoaded (seed count : ℕ) (text : List ℕ) (after : Device) : Type 0 where
  pub text_is : text ≡ run_summary (load_run seed count)
  pub stands : ForSome after.contents (λ files. StandsFor MOST_SLOTS files (load_run seed count).area)
  pub synced : IsAllSynced after
