-- Writes into the journal, behind its head and at its gate.
use Rattle.std.proofs.Common.{ℕ, ◌≤◌, ◌∙◌, arith}
use Rattle.jb_disk.specs.declared.file.FileId.TheVariants.{Jnl}
use Rattle.jb_disk.specs.Files.{Files, InFile}
use Rattle.jb_disk.specs.Steps.{Torn, Cut}
use Rattle.jb_journal.specs.Stages.{KeepsHead, IsAtGate}

-- a write behind the head
pub untouched_torn : (start before after : Files) (at len : ℕ) → 16 ≤ at → KeepsHead start before → InFile Jnl (Torn at len) before after → KeepsHead start after
untouched_torn start before after at len behind was step =
    let size = step.here.size in
    let long = was.long in
    record {
      same = λ file ne. step.others file ne ∙ was.same file ne;
      long = omega arith;
      head = λ i low. step.here.below i (omega arith) ∙ was.head i low;
    }

-- a change of length that keeps the head
pub untouched_cut : (start before after : Files) (len : ℕ) → 16 ≤ len → KeepsHead start before → InFile Jnl (Cut len) before after → KeepsHead start after
untouched_cut start before after len behind was step =
    let shorter = step.here.no_shorter in
    let long = was.long in
    record {
      same = λ file ne. step.others file ne ∙ was.same file ne;
      long = omega arith;
      head = λ i low. step.here.below i (omega arith) (omega arith) ∙ was.head i low;
    }

-- a write of the gate
pub gate_torn : (base before after : Files) → IsAtGate base before → InFile Jnl (Torn 0 1) before after → IsAtGate base after
gate_torn base before after was step =
    record {
      same = λ file ne. step.others file ne ∙ was.same file ne;
      size = step.here.size ∙ was.size;
      behind = λ i high. step.here.above i high ∙ was.behind i high;
    }
