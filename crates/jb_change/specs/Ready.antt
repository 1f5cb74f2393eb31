-- A redo into which a change may be put.
use Rattle.std.specs.Prelude.{◌≡◌, ℕ, ◌+◌, ◌*◌, ◌≤◌, [], length}
use Rattle.jb_redo.specs.Changes.{record_size}
use Rattle.jb_disk.specs.RedoView.{RedoView, HasRoom, held_by}
use Rattle.jb_state.specs.declared.loaded.Loaded.{Loaded}
use Rattle.jb_change.specs.Makes.{Makes}

-- with nothing in it, there is room in the redo for each change that takes no memory
pub record HasRoomInAll (redo : RedoView) : Type 0 where
  pub for_lengths : 1 ≤ redo.spare_lengths + length redo.lengths
  pub for_pieces : 4 ≤ redo.spare_pieces + length redo.pieces
  pub for_bytes : 32 ≤ redo.spare_bytes + held_by redo.pieces

-- a redo that holds nothing
pub record IsEmptied (redo : RedoView) : Type 0 where
  pub no_lengths : redo.lengths ≡ []
  pub no_pieces : redo.pieces ≡ []
  pub makes : (loaded : Loaded) → Makes redo loaded loaded []
  pub size : record_size redo ≡ 24

-- a redo that holds nothing, with room for each change that takes no memory
pub record IsCleared (redo : RedoView) : Type 0 where
  pub no_lengths : redo.lengths ≡ []
  pub no_pieces : redo.pieces ≡ []
  pub room : HasRoom 1 4 32 redo
  pub makes : (loaded : Loaded) → Makes redo loaded loaded []
  pub size : record_size redo ≡ 24

-- a redo that holds nothing, with room for the links of so many messages and for the counts
pub record IsReadyFor (count : ℕ) (redo : RedoView) : Type 0 where
  pub no_lengths : redo.lengths ≡ []
  pub no_pieces : redo.pieces ≡ []
  pub room : HasRoom 0 (count + 1) (12 * count + 8) redo
  pub makes : (loaded : Loaded) → Makes redo loaded loaded []
  pub size : record_size redo ≡ 24
