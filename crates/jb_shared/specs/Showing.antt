-- What is shown with a call.
use Rattle.std.specs.Prelude.{◌≡◌, Bool, List, [], Some, if◌then◌else◌}
use mathlib.Core.List.{IsPrefix}
use Rattle.jb_disk.specs.Device.{Device}
use Rattle.jb_index.specs.Index.{AreaIndex}
use Rattle.jb_model.specs.declared.entry.Entry.{Entry}
use Rattle.jb_publish.specs.Marks.{ValueStandsFrom, opening_at}
use Rattle.jb_publish.specs.Publications.{Publication, publication_of}
use Rattle.jb_shared.specs.Standing.{StandsSettled}
use Rattle.jb_shared.specs.Shows.{IsShownAs, index_changed}
use Rattle.jb_shared.specs.declared.change.IndexChange.{IndexChange}
use Rattle.jb_shared.specs.declared.opening.Opening.{Opening}
use Rattle.jb_shared.specs.declared.shown.ShownArea.{ShownArea}

-- this index shown as this list, and nothing queued
abbrev pub published_with : Publication AreaIndex IndexChange Opening Entry → AreaIndex → List Entry → Publication AreaIndex IndexChange Opening Entry
published_with p value list = record { mark = p.mark; list = list; queued = []; value = value }

module _ {D : Type 0} where
  -- the index that looks see, with the change that is kept where it is done
  abbrev pub value_with : ShownArea D → Bool → AreaIndex
  value_with state done = if done then index_changed (publication_of state.shower).value state.doubted else (publication_of state.shower).value

  -- that index may be shown as these entries
  pub record CanShow (state : ShownArea D) (done : Bool) (entries : List Entry) : Type 0 where
    pub longer : IsPrefix (publication_of state.shower).list entries
    pub queued : (publication_of state.shower).queued ≡ []
    pub stands : ValueStandsFrom IsShownAs (opening_at (publication_of state.shower).mark) (value_with state done) entries

  -- it is shown so
  pub record HasShown (old new : ShownArea D) (done : Bool) (entries : List Entry) : Type 0 where
    pub published : publication_of new.shower ≡ published_with (publication_of old.shower) (value_with old done) entries
    pub area : new.area ≡ old.area

-- of a disk that shows itself so, the area is settled after these entries: whatever a crash leaves opens to it after them
abbrev pub IsFirm : {D : Type 0} → (D → Device) → ShownArea D → List Entry → Type 0
IsFirm shown state entries = (opening : Opening) → opening_at (publication_of state.shower).mark ≡ Some opening → StandsSettled shown state.area opening entries
