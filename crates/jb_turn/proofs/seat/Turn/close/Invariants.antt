use Rattle.std.proofs.Common.{◌≡◌, ◌<◌, List, [], ◌++◌, map, reverse, length}
use Rattle.std.specs.Prelude.{All}
use Rattle.jb_turn.specs.declared.view.TicketStage.TheVariants.{Idle}
use Rattle.jb_turn.proofs.seat.Turn.close.Given as goal

abbrev pub invariant-loop-seat : goal.invariant-loop-seat
invariant-loop-seat g l = record {
  table : l.table ≡ l.fn.self.table;
  seated : l.place.table_id ≡ l.fn.self.table.shared.table_id;
  stage : l.place.me.0.stage ≡ Idle;
  empty : l.place.me.1 ≡ [];
  some : 0 < length l.place.me.0.rows;
  left : All (λ s. g.P.Seated.rests s l.fn.self.table.shared.table_id) l.seats.items;
  taken : (rest : List g.row.P.Denot) × (l.fn.seats.items ≡ l.seats.items ++ rest) × (l.place.me.0.rows ≡ reverse (map g.P.Seated.knows rest));
}

abbrev pub decreases-loop-seat : goal.decreases-loop-seat
decreases-loop-seat g l = goal.left-loop-seat g l
