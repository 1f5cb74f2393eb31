-- What a call that is begun changes in the index.
use Rattle.std.proofs.Common.{◌≡◌, ℕ, List, sym, ◌∙◌, ap}
use Rattle.jb_area.specs.Area.{HasBegun, IsBegun, loaded_of, rules_of}
use Rattle.jb_area.specs.declared.area.OpenArea.{OpenArea}
use Rattle.jb_decide.specs.Coming.{Coming}
use Rattle.jb_disk.specs.Device.{Device}
use Rattle.jb_index.specs.Change.{Follows}
use Rattle.jb_index.specs.Index.{index_of}
use Rattle.jb_index.specs.declared.op.OpEdit.{OpEdit}
use Rattle.jb_state.specs.Change.{Fits, after}
use Rattle.jb_state.specs.Sound.{IsSound}
use Rattle.jb_state.specs.State.{state_of}
use Rattle.jb_state.specs.declared.change.Change.{Change}
use Rattle.jb_state.specs.declared.loaded.Loaded.{Loaded}
use Rattle.jb_model.specs.declared.reply.Reply.{Reply}
use Rattle.jb_shared.specs.Begun.{IsFollowed}

module _ {D : Type 0} (shown : D → Device) where
  -- over an area that is sound
  pub begun_sound : (area : OpenArea D) → HasBegun shown area → IsSound (rules_of area).slots (loaded_of area)
  begun_sound area begun = begun.begun.kept.ruled.sound

  -- the edits that follow the change follow the call that is begun
  pub followed_by : (area : OpenArea D) (change : Change) (edits : List OpEdit) → HasBegun shown area → Fits (rules_of area).slots change (loaded_of area)
      → ((texts : List ℕ) (reply : Reply) (coming : Coming) → IsBegun shown area texts reply coming → coming.to ≡ after change (loaded_of area))
      → Follows change (loaded_of area) edits → IsFollowed shown area edits
  followed_by area change edits begun fits becomes follows = λ texts reply coming is.
      follows (rules_of area) texts coming.texts (begun_sound area begun) fits
      ∙ sym (ap (λ (l : Loaded). index_of (rules_of area) (state_of coming.texts l)) (becomes texts reply coming is))
