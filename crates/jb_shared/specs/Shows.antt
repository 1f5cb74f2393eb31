-- What the index that looks see stands for.
use Rattle.std.specs.Prelude.{◌≡◌, true, List}
use Rattle.jb_index.specs.Edit.{absorbed}
use Rattle.jb_index.specs.Index.{AreaIndex, index_of}
use Rattle.jb_model.specs.Standing.{is_settled}
use Rattle.jb_model.specs.declared.entry.Entry.{Entry}
use Rattle.jb_shared.specs.Histories.{IsHistory, Tells, leads_to, settled_of, state_at}
use Rattle.jb_shared.specs.declared.change.IndexChange.{IndexChange}
use Rattle.jb_shared.specs.declared.opening.Opening.{Opening}

-- the index after a change
abbrev pub index_changed : AreaIndex → IndexChange → AreaIndex
index_changed index change = absorbed index change.op

-- the entries are a legal history that ends settled, and where the disk tells its files, the index is that of the area after them
pub record IsShownAs (index : AreaIndex) (opening : Opening) (entries : List Entry) : Type 0 where
  pub history : IsHistory opening entries
  pub whole : settled_of entries ≡ entries
  pub settled : Tells opening → is_settled (leads_to opening entries) ≡ true
  pub after : Tells opening → index ≡ index_of opening.rules (state_at (leads_to opening entries))
