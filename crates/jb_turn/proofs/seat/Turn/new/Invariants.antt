use Rattle.std.proofs.Common.{◌≡◌, ℕ, ◌+◌, ◌≤◌, [], ◌∷◌, length, slice_get, Some}
use Rattle.std.specs.Prelude.{vec_capacity, All}
use Rattle.jb_turn.specs.declared.view.TicketStage.TheVariants.{Idle}
use Rattle.jb_turn.specs.Rows.{row, view_of}
use Rattle.jb_turn.specs.Seats.{IsNew, HasNoTicket, turn_of}
use Rattle.jb_turn.proofs.seat.Turn.new.Given as goal

abbrev pub invariant-loop-node : goal.invariant-loop-node
invariant-loop-node g l = record {
  table : (l.table.shared.table_id.words ≡ 3) × (l.table.shared.table_id.slots ≡ 1) × (l.table.shared.key.seats ≡ l.seats);
  seated : l.place.table_id ≡ l.table.shared.table_id;
  view : l.place.me ≡ (view_of Idle (row l.node (Some (g.S.Kept.opening l.fn.state)) [] [] [] ∷ []) l.node, []);
  count : length l.all.items + 1 ≡ l.node;
  room : l.seats ≤ vec_capacity l.all;
  rests : All (λ s. (turn_of s ≡ l.table.shared.table_id) × HasNoTicket s) l.all.items;
  each : (k : ℕ) (s : _) → slice_get l.all.items k ≡ Some s → IsNew (g.S.Kept.opening l.fn.state) k s;
}
