-- What a change makes of the index of its area.
use Rattle.std.specs.Prelude.{◌≡◌, ℕ, ◌==◌, List, ◌∷◌, filter, map}
use Rattle.jb_base.specs.declared.area.AreaRules.{AreaRules}
use Rattle.jb_index.specs.Edit.{absorbed}
use Rattle.jb_index.specs.Index.{index_of}
use Rattle.jb_index.specs.declared.op.OpEdit.{OpEdit}
use Rattle.jb_index.specs.declared.op.OpEdit.TheVariants.{Drop, Parent}
use Rattle.jb_link.specs.Orphans.{without_one}
use Rattle.jb_state.specs.Change.{Fits, after}
use Rattle.jb_state.specs.Links.{Linkable, parent_of}
use Rattle.jb_state.specs.Sound.{IsSound}
use Rattle.jb_state.specs.State.{state_of}
use Rattle.jb_state.specs.declared.change.Change.{Change}
use Rattle.jb_state.specs.declared.loaded.Loaded.{Loaded}

-- the edits make of the index of the area that of the area after the change, by whatever rules the change fits, and whatever its
-- texts are
abbrev pub Follows : Change → Loaded → List OpEdit → Type 0
Follows change loaded edits = (rules : AreaRules) (texts later : List ℕ) → IsSound rules.slots loaded → Fits rules.slots change loaded
    → absorbed (index_of rules (state_of texts loaded)) edits ≡ index_of rules (state_of later (after change loaded))

-- the edits of a kill: the message has no summary, and those that answered it have the parent that the others give them
abbrev pub edits_of_kill : List Linkable → ℕ → List OpEdit
edits_of_kill live number =
    Drop number ∷ map (λ one. Parent one.number (parent_of (without_one number live) one)) (filter (λ one. parent_of live one == number) live)
