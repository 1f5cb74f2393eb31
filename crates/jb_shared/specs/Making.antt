-- The passes of a new area.
use Rattle.std.specs.Prelude.{◌≡◌, ℕ, ◌+◌, List, slice_get, Some}
use Rattle.jb_model.specs.declared.entry.Entry.{Entry}
use Rattle.jb_publish.specs.Accounts.{IsFresh}
use Rattle.jb_publish.specs.Marks.{book_at}
use Rattle.jb_publish.specs.declared.known.PairMark.{PairMark}
use Rattle.jb_publish.specs.declared.ends.Shown.{Shown}
use Rattle.jb_index.specs.Index.{AreaIndex}
use Rattle.jb_turn.specs.Seats.{TurnId}
use Rattle.jb_shared.specs.Passes.{PassView, first_known}
use Rattle.jb_shared.specs.declared.opening.Opening.{Opening}

-- ends that look, of the pair with this mark, that were shown nothing and told nothing
abbrev pub AreFresh : PairMark Opening → List (Shown AreaIndex Opening Entry) → Type 0
AreFresh mark readers = (k : ℕ) (reader : Shown AreaIndex Opening Entry) → slice_get readers k ≡ Some reader → IsFresh (Some mark) reader

-- the pass at place k of a new area with this turn and this mark
abbrev pub fresh_pass : TurnId → PairMark Opening → ℕ → PassView
fresh_pass turn mark k = record { area = Some (record { turn = turn; book = book_at (Some mark) }); known = first_known (k + 1) mark.opening }
