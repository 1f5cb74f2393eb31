-- When what lies behind the turn stands for a history: the open area does, and looks see all that is settled of it.
use Rattle.std.specs.Prelude.{◌≡◌, ℕ, List, [], Some, None, IsSome, unwrap_or}
use Rattle.std.specs.Option.{ForSome}
use Rattle.jb_area.specs.Area.{IsDoubtful, IsResting, device_of, loaded_of, rules_of}
use Rattle.jb_area.specs.Holds.{Opens}
use Rattle.jb_area.specs.declared.area.OpenArea.{OpenArea}
use Rattle.jb_base.specs.declared.user.User.{User}
use Rattle.jb_decide.specs.Coming.{Coming}
use Rattle.jb_disk.specs.Device.{Device}
use Rattle.jb_disk.specs.Runs.{LeavesOnly}
use Rattle.jb_index.specs.Edit.{absorbed}
use Rattle.jb_index.specs.Index.{AreaIndex, index_of}
use Rattle.jb_index.specs.declared.op.OpEdit.{OpEdit}
use Rattle.jb_model.specs.Standing.{InDoubt}
use Rattle.jb_state.specs.State.{AreaState, state_of}
use Rattle.jb_model.specs.Step.{step}
use Rattle.jb_model.specs.declared.command.Command.{Command}
use Rattle.jb_model.specs.declared.entry.Entry.{Entry}
use Rattle.jb_publish.specs.Marks.{book_at, mark_with}
use Rattle.jb_publish.specs.Publications.{publication_of}
use Rattle.jb_publish.specs.declared.known.PairMark.{PairMark}
use Rattle.jb_shared.specs.Histories.{Tells, leads_to, settled_of, state_at}
use Rattle.jb_shared.specs.Standing.{StandsForHistory, StandsInDoubt, StandsSettled, opening_of}
use Rattle.jb_shared.specs.declared.opening.Opening.{Opening}
use Rattle.jb_shared.specs.declared.shown.ShownArea.{ShownArea}

-- of a disk that shows itself so
module _ {D : Type 0} (shown : D → Device) where
  -- the area is in doubt about a change, which may stand
  abbrev pub HasChange : OpenArea D → Type 0
  HasChange area = (texts : List ℕ) × (coming : Coming) × IsDoubtful shown area texts (Some coming)

  -- of an area at rest whose disk tells its files, the edits make of the index that of the area after the command
  abbrev pub FollowsCommand : OpenArea D → User → ℕ → Command → List OpEdit → Type 0
  FollowsCommand area user moment command edits = (texts : List ℕ) → IsResting shown area texts → IsSome (device_of shown area).contents
      → absorbed (index_of (rules_of area) (state_of texts (loaded_of area))) edits
      ≡ index_of (rules_of area) (step (rules_of area) (state_of texts (loaded_of area)) user moment command).state

  -- of an area at rest whose disk tells its files, a crash meanwhile leaves what opens to it as it was
  abbrev pub LeavesAsIs : OpenArea D → OpenArea D → Type 0
  LeavesAsIs old new = (texts : List ℕ) → IsResting shown old texts
      → ForSome (device_of shown old).contents (λ files. LeavesOnly (device_of shown old) (device_of shown new) (Opens (loaded_of old) texts))

  -- where the disk tells its files: if the change that is in doubt stands, the edits make of the index that of the area after it
  abbrev pub IsDoubted : OpenArea D → Opening → List Entry → AreaIndex → List OpEdit → Type 0
  IsDoubted area opening history index edits = Tells opening → (before after : AreaState) → leads_to opening history ≡ InDoubt before (Some after) → HasChange area
      → absorbed index edits ≡ index_of opening.rules after

  -- looks see all that is settled of the history, and nothing waits to be shown
  pub record IsPublished (state : ShownArea D) (mark : PairMark Opening) (history : List Entry) : Type 0 where
    pub pair : (publication_of state.shower).mark ≡ Some mark
    pub list : (publication_of state.shower).list ≡ settled_of history
    pub queued : (publication_of state.shower).queued ≡ []
    pub value : Tells mark.opening → (publication_of state.shower).value ≡ index_of mark.opening.rules (state_at (leads_to mark.opening history))
    pub doubted : IsDoubted state.area mark.opening history (publication_of state.shower).value state.doubted.op

  -- the area stands so for the history, and looks see all that is settled of it
  pub record IsKeptBy (stands : OpenArea D → Opening → List Entry → Type 0) (state : ShownArea D) (mark : PairMark Opening) (history : List Entry) : Type 0 where
    pub area : stands state.area mark.opening history
    pub index : IsPublished state mark history

  -- it stands for the history, at rest or in doubt
  abbrev pub IsKept : ShownArea D → PairMark Opening → List Entry → Type 0
  IsKept = IsKeptBy (StandsForHistory shown)

  -- and is settled
  abbrev pub IsKeptSettled : ShownArea D → PairMark Opening → List Entry → Type 0
  IsKeptSettled = IsKeptBy (StandsSettled shown)

  -- and is in doubt
  abbrev pub IsKeptInDoubt : ShownArea D → PairMark Opening → List Entry → Type 0
  IsKeptInDoubt = IsKeptBy (StandsInDoubt shown)

  -- the mark from which its history goes on
  abbrev pub history_mark : ShownArea D → PairMark Opening
  history_mark state = unwrap_or (publication_of state.shower).mark (mark_with (book_at {O = Opening} None) (opening_of shown state.area))
