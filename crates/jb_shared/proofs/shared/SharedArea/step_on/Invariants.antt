use Rattle.std.proofs.Common.{◌≡◌, List, length}
use Rattle.jb_turn.specs.Seats.{id_of, resting_row, resting_turn}
use Rattle.jb_shared.specs.Calls.{AreLeft}
use Rattle.jb_shared.specs.Inside.{known_in}
use Rattle.jb_shared.specs.Passes.{stepping}
use Rattle.jb_shared.specs.Stepping.{HasTaken}
use Rattle.jb_shared.specs.declared.refusal.Refusal.{Refusal}
use Rattle.jb_shared.proofs.shared.SharedArea.step_on.Given as goal

abbrev pub invariant-loop : goal.invariant-loop
invariant-loop g l = record {
  ours : resting_turn l.parts.seat ≡ id_of l.self.turn;
  mark : (resting_row l.parts.seat).opening ≡ (resting_row l.fn.parts.seat).opening;
  taken : (steps : List Refusal) × AreLeft steps × (length steps ≡ l.counter) × HasTaken (stepping (known_in l.fn.parts) steps) (known_in l.parts);
}
