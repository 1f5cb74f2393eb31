-- When an open area stands for a history.
use Rattle.std.specs.Prelude.{◌≡◌, ℕ, ◌≤◌, not, List, length, Option, Some, None, is_some, option_map}
use Rattle.jb_area.specs.Area.{device_of, loaded_of, packs_of, rules_of, IsDoubtful, IsResting}
use Rattle.jb_area.specs.declared.area.OpenArea.{OpenArea}
use Rattle.jb_decide.specs.Coming.{Coming}
use Rattle.jb_disk.specs.Device.{Device}
use Rattle.jb_disk.specs.Runs.{LeavesOnly, Shows}
use Rattle.jb_disk.specs.declared.file.FileId.TheVariants.{Jdt}
use Rattle.jb_model.specs.History.{last_faults}
use Rattle.jb_model.specs.Standing.{Standing, Settled, InDoubt, StandsWithin, is_settled}
use Rattle.jb_state.specs.State.{AreaState, state_of}
use Rattle.jb_model.specs.declared.entry.Entry.{Entry}
use Rattle.jb_model.specs.declared.entry.Entry.TheVariants.{Called, Reopened}
use Rattle.jb_state.specs.declared.loaded.Loaded.{Loaded}
use Rattle.jb_turn.specs.Rows.{Begins}
use Rattle.jb_shared.specs.Histories.{IsHistory, Tells, leads_to, stopped_last}
use Rattle.jb_shared.specs.Stops.{ComesBy, OpensBetween, OpensAtLast}
use Rattle.jb_shared.specs.Texts.{HasTextFiles, text_files_at}
use Rattle.jb_shared.specs.declared.opening.Opening.{Opening}

-- the node whose call an entry is; a reopening is nobody's
abbrev pub caller_of : Entry → Option ℕ
caller_of (Called node call user moment command outcome) = Some node
caller_of (Reopened stands) = None

-- the state that is to come
abbrev pub state_to : Coming → AreaState
state_to coming = state_of coming.texts coming.to

-- between the area as it is loaded and what is to come, where something is
abbrev pub doubt_between : List ℕ → Loaded → Option Coming → Standing
doubt_between texts loaded coming = InDoubt (state_of texts loaded) (option_map state_to coming)

-- of a disk that shows itself so
module _ {D : Type 0} (shown : D → Device) where
  -- how the area stands as it is shared
  abbrev pub opening_of : OpenArea D → Opening
  opening_of area = record {
    rules = rules_of area;
    loaded = loaded_of area;
    texts = option_map (λ files. files Jdt) (device_of shown area).contents;
    faults = (device_of shown area).faults;
    moments = length (device_of shown area).moments;
    packs = packs_of area;
  }

  -- the area rests, settled at this state; or a call was stopped, which left it between these two
  abbrev pub IsAt : OpenArea D → Standing → Type 0
  IsAt area (Settled state) = (texts : List ℕ) × IsResting shown area texts × (state_of texts (loaded_of area) ≡ state)
  IsAt area (InDoubt before after) = (texts : List ℕ) × (coming : Option Coming) × IsDoubtful shown area texts coming
      × StandsWithin (doubt_between texts (loaded_of area) coming) (InDoubt before after)

  -- the area stands so after the history: by the same rules, with a disk that tells as it did and has failed no less often than the
  -- history says, since a backup reads it too; in doubt just where the device stopped the last call; and where the disk tells its
  -- files, just there where the history leads, with the texts and the packs that it makes. Then what is read, and what a crash leaves
  -- now, opens to the area after the history, and since the sharing the disk has come by each part of it
  pub record StandsAt (area : OpenArea D) (opening : Opening) (entries : List Entry) (standing : Standing) : Type 0 where
    pub rules : rules_of area ≡ opening.rules
    pub history : IsHistory opening entries
    pub faults : last_faults opening.faults entries ≤ (device_of shown area).faults
    pub told : is_some (device_of shown area).contents ≡ is_some opening.texts
    pub at : IsAt area standing
    pub kind : is_settled standing ≡ not (stopped_last entries)
    pub leads : Tells opening → standing ≡ leads_to opening entries
    pub text_files : Tells opening → HasTextFiles shown area standing (text_files_at opening entries)
    pub opens : Tells opening → Shows (OpensAtLast opening entries) (device_of shown area)
    pub crash : Tells opening → (part : List Entry) → Begins part entries → ComesBy opening part entries (device_of shown area)

  -- where the disk tells its files, a crash at any moment from the old area to the new one leaves what opens to the area after a
  -- history that begins with the first one and begins the second one
  abbrev pub LeavesBetween : OpenArea D → OpenArea D → Opening → List Entry → List Entry → Type 0
  LeavesBetween old new opening first last = Tells opening → LeavesOnly (device_of shown old) (device_of shown new) (OpensBetween opening first last)

  -- the area stands for the history, at rest or in doubt
  abbrev pub StandsForHistory : OpenArea D → Opening → List Entry → Type 0
  StandsForHistory area opening entries = (standing : Standing) × StandsAt area opening entries standing

  -- the area stands for the history, and is settled
  abbrev pub StandsSettled : OpenArea D → Opening → List Entry → Type 0
  StandsSettled area opening entries = (state : AreaState) × StandsAt area opening entries (Settled state)

  -- the area stands for the history, and is in doubt
  abbrev pub StandsInDoubt : OpenArea D → Opening → List Entry → Type 0
  StandsInDoubt area opening entries = (before : AreaState) × (after : Option AreaState) × StandsAt area opening entries (InDoubt before after)
