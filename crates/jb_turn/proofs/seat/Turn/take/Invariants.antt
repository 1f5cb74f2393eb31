use Rattle.std.proofs.Common.{◌≡◌, ◌%◌, ◌^◌, []}
use Rattle.jb_turn.specs.declared.view.TicketStage.TheVariants.{Waits}
use Rattle.jb_turn.specs.Steps.{ticket}
use Rattle.jb_turn.proofs.seat.Turn.take.Given as goal

abbrev pub invariant-loop : goal.invariant-loop
invariant-loop g l = record {
  table : l.seat.place.table_id ≡ l.fn.seat.place.table_id;
  stage : l.seat.place.me.0.stage ≡ Waits (ticket l.seat.place.me.0.stage);
  drawn : l.ticket ≡ ticket l.seat.place.me.0.stage % 2 ^ 64;
  empty : l.seat.place.me.1 ≡ [];
  rows : l.seat.place.me.0.rows ≡ l.fn.seat.place.me.0.rows;
}
