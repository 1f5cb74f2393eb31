use Rattle.std.proofs.Common.{◌≡◌, ℕ, ◌+◌, ◌≤◌, length, drop, All, Some, slice_get}
use Rattle.std.specs.Prelude.{vec_capacity}
use mathlib.Core.List.{IsPrefix}
use Rattle.jb_publish.specs.declared.known.PairMark.{PairMark}
use Rattle.jb_turn.specs.Seats.{AreNewSeats, Rests, id_of}
use Rattle.jb_shared.specs.Making.{AreFresh, fresh_pass}
use Rattle.jb_shared.specs.Passes.{PassView}
use Rattle.jb_shared.specs.declared.opening.Opening.{Opening}
use Rattle.jb_shared.proofs.making.join.Given as goal

abbrev pub invariant-loop-seats : goal.invariant-loop-seats
invariant-loop-seats g l = record {
  seats : l.seats.items ≡ drop (length l.passes.items) l.fn.seats.items;
  readers : IsPrefix l.readers.items l.fn.readers.items;
  sum : length l.passes.items + length l.seats.items ≡ length l.fn.seats.items;
  alike : length l.readers.items ≡ length l.seats.items;
  rests : All (Rests l.turn) l.seats.items;
  cap : length l.fn.seats.items ≤ vec_capacity l.passes;
  fresh : (mark : PairMark Opening) → AreNewSeats mark l.fn.seats.items → AreFresh mark l.fn.readers.items
      → (k : ℕ) (pass : PassView) → slice_get l.passes.items k ≡ Some pass → pass ≡ fresh_pass (id_of l.turn) mark k;
}

abbrev pub decreases-loop-seats : goal.decreases-loop-seats
decreases-loop-seats g l = length l.seats.items
