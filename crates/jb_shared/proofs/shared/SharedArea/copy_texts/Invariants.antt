use Rattle.std.proofs.Common.{◌≡◌}
use Rattle.jb_backup.proofs.AnswerLemmas.{ok_of}
use Rattle.jb_backup.specs.declared.error.BackupError.{BackupError}
use Rattle.jb_turn.specs.Seats.{id_of, resting_row, resting_turn}
use Rattle.jb_shared.specs.Backing.{CopiesOnto}
use Rattle.jb_shared.specs.Inside.{known_in}
use Rattle.jb_shared.proofs.shared.SharedArea.copy_texts.Given as goal

abbrev pub invariant-loop : goal.invariant-loop
invariant-loop g l = record {
  ours : resting_turn l.parts.seat ≡ id_of l.self.turn;
  mark : (resting_row l.parts.seat).opening ≡ (resting_row l.fn.parts.seat).opening;
  copies : CopiesOnto (known_in l.fn.parts) (known_in l.parts) l.backing (g.E.Disk.device l.initial.onto) (g.E.Disk.device l.onto) (ok_of (Unit {0}) BackupError tt);
}
