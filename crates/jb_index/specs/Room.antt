-- The room for summaries.
use Rattle.std.specs.Prelude.{ℕ, ◌+◌, ◌≤◌, length}
use Rattle.jb_state.specs.declared.summary.Summary.{Summary}
use Rattle.jb_tiered.specs.Tiered.{TieredList}

-- no more than so many stand there, and so many fit in all
pub record HasPlaces (slots : ℕ) (list : TieredList Summary) : Type 0 where
  pub few : length list.items ≤ slots
  pub places : slots ≤ length list.items + list.room
