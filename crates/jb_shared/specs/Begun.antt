-- What a call that is begun changes in the index.
use Rattle.std.specs.Prelude.{◌≡◌, ℕ, List}
use Rattle.jb_area.specs.Area.{IsBegun, loaded_of, rules_of}
use Rattle.jb_area.specs.declared.area.OpenArea.{OpenArea}
use Rattle.jb_decide.specs.Coming.{Coming}
use Rattle.jb_disk.specs.Device.{Device}
use Rattle.jb_index.specs.Edit.{absorbed}
use Rattle.jb_index.specs.Index.{index_of}
use Rattle.jb_index.specs.declared.op.OpEdit.{OpEdit}
use Rattle.jb_state.specs.State.{state_of}
use Rattle.jb_model.specs.declared.reply.Reply.{Reply}

-- of a disk that shows itself so
module _ {D : Type 0} (shown : D → Device) where
  -- the edits make of the index of the area that of the area that is to come
  abbrev pub IsFollowed : OpenArea D → List OpEdit → Type 0
  IsFollowed area edits = (texts : List ℕ) (reply : Reply) (coming : Coming) → IsBegun shown area texts reply coming
      → absorbed (index_of (rules_of area) (state_of texts (loaded_of area))) edits ≡ index_of (rules_of area) (state_of coming.texts coming.to)
