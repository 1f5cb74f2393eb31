-- What is to come of an area, and the change of its files that brings it.
use Rattle.std.specs.Option.{ForSome}
use Rattle.std.specs.Prelude.{ℕ, List, Option}
use Rattle.jb_redo.specs.Changes.{Brings, IsWritable}
use Rattle.jb_disk.specs.RedoView.{RedoView}
use Rattle.jb_disk.specs.Files.{Files}
use Rattle.jb_state.specs.Change.{after, texts_after}
use Rattle.jb_state.specs.declared.change.Change.{Change}
use Rattle.jb_state.specs.declared.loaded.Loaded.{Loaded}
use Rattle.jb_pack.specs.Shadow.{Shadow}
use Rattle.jb_decide.specs.Holds.{Holds, HoldsWith}

-- an area to come: as it is loaded, and with all its texts
pub record Coming : Type 0 where
  pub to : Loaded
  pub texts : List ℕ

-- what a change, with this text behind the others, makes of an area and its texts
abbrev pub coming_of : Change → Loaded → List ℕ → List ℕ → Coming
coming_of change from posted texts = record { to = after change from; texts = texts_after change from posted texts }

-- of whatever files hold the area with these texts and these copies of them, the change makes files that hold what is to come
abbrev pub BringsComing : RedoView → Loaded → List ℕ → Option Shadow → Coming → Type 0
BringsComing change from texts copies coming = Brings change (HoldsWith from texts copies) (λ _. Holds coming.to coming.texts)

-- where the disk tells its files, this redo brings what is to come; on each disk it can be committed
pub record IsChange (contents : Option Files) (redo : RedoView) (from : Loaded) (texts : List ℕ) (copies : Option Shadow) (coming : Coming) : Type 0 where
  pub brings : ForSome contents (λ files. BringsComing redo from texts copies coming)
  pub writable : IsWritable redo
