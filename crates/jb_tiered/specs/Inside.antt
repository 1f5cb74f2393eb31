-- How a tiered vector is held.
use Rattle.std.specs.Prelude.{◌≡◌, ◌-◌, ◌*◌, ◌^◌, ◌≤◌, length}
use Rattle.jb_tiered.specs.Pieces.{AreFilled, items_of}
use Rattle.jb_tiered.specs.Tiered.{TieredList}
use Rattle.jb_tiered.specs.declared.tiered.Tiered.TheInside.{Inside}

module _ {X : Type 0} where
  -- the elements of the pieces, and their free places
  abbrev pub list_of : Inside X → TieredList X
  list_of held = record { items = items_of held.pieces.items; room = 512 * length held.pieces.items - held.len }

  -- the pieces are filled from the first on, and are few enough that their places can be counted
  pub record IsInPieces (held : Inside X) : Type 0 where
    pub filled : AreFilled held.len held.pieces.items
    pub counted : length (items_of held.pieces.items) ≡ held.len
    pub within : held.len ≤ 512 * length held.pieces.items
    pub few : length held.pieces.items ≤ 2 ^ 40
