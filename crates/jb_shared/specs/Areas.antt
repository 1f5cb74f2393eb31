-- A shared area, and its passes when it is new.
use Rattle.std.specs.Prelude.{◌≡◌, ℕ, ◌+◌, List, All, length, slice_get, Some}
use Rattle.jb_area.specs.declared.area.OpenArea.{OpenArea}
use Rattle.jb_disk.specs.Device.{Device}
use Rattle.jb_publish.specs.Fronts.{book_of}
use Rattle.jb_turn.specs.Seats.{id_of, seats_of}
use Rattle.jb_shared.specs.Passes.{AreaId, PassView, first_known}
use Rattle.jb_shared.specs.Standing.{opening_of}
use Rattle.jb_shared.specs.declared.shared.SharedArea.{SharedArea}

module _ {D : Type 0} where
  -- which area it is
  abbrev pub area_id : SharedArea D → AreaId
  area_id area = record { turn = id_of area.turn; book = book_of area.origin }

  -- how many passes it was made with
  abbrev pub passes_of : SharedArea D → ℕ
  passes_of area = seats_of area.turn

  -- the pass is of this area
  pub record IsOf (area : SharedArea D) (pass : PassView) : Type 0 where
    pub here : pass.area ≡ Some (area_id area)

-- of a disk that shows itself so: there are so many passes, numbered from 1, of this area, which know its opening and have seen nothing
pub record IsShared {D : Type 0} (shown : D → Device) (was : OpenArea D) (nodes : ℕ) (area : SharedArea D) (passes : List PassView) : Type 0 where
  pub seats : passes_of area ≡ nodes
  pub count : length passes ≡ nodes
  pub ours : All (IsOf area) passes
  pub fresh : (k : ℕ) (pass : PassView) → slice_get passes k ≡ Some pass → pass.known ≡ first_known (k + 1) (opening_of shown was)
