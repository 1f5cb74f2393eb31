-- What a look or a count makes of what its pass knows, and from what it is answered.
use Rattle.std.specs.Prelude.{◌≡◌, true, Some, Result, Ok, Err}
use Rattle.jb_index.specs.Index.{AreaIndex, index_of}
use Rattle.jb_model.specs.Standing.{is_settled}
use Rattle.jb_state.specs.declared.look.Answer.{Answer}
use Rattle.jb_state.specs.declared.look.LookError.{LookError}
use Rattle.jb_state.specs.declared.look.LookError.TheVariants.{Barred, OutOfMemory}
use Rattle.jb_turn.specs.Rows.{Begins}
use Rattle.jb_shared.specs.Histories.{IsHistory, Tells, leads_to, settled_of, state_at}
use Rattle.jb_shared.specs.Passes.{Known, looking, turned_away}
use Rattle.jb_shared.specs.declared.opening.Opening.{Opening}

-- a look that was let in: it shows a legal history that ends settled, and that begins with all that was shown before and with all that
-- is settled of what the pass has seen; it counts how much it showed, and all else stays
pub record Looks (old new : Known) : Type 0 where
  pub opening : Opening
  pub from : old.opening ≡ Some opening
  pub further : Begins old.shown new.shown
  pub seen : Begins (settled_of old.front) new.shown
  pub history : IsHistory opening new.shown
  pub whole : settled_of new.shown ≡ new.shown
  pub settled : Tells opening → is_settled (leads_to opening new.shown) ≡ true
  pub same : new ≡ looking old new.shown

-- a look by its answer: it was let in, whether or not there was memory for the answer; or it was not, which is counted, and all else stays
abbrev pub LooksAs : Known → Known → Result Answer LookError → Type 0
LooksAs old new (Ok answer) = Looks old new
LooksAs old new (Err OutOfMemory) = Looks old new
LooksAs old new (Err Barred) = new ≡ turned_away old

-- where the disk tells its files, this holds of the index of the area after what was shown
abbrev pub OfShown : Known → (AreaIndex → Type 0) → Type 0
OfShown known holds = (opening : Opening) → known.opening ≡ Some opening → Tells opening
    → holds (index_of opening.rules (state_at (leads_to opening known.shown)))
