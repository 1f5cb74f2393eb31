use Rattle.jb_disk.proofs.RunLemmas.{keeps-then, keeps-reads}
use Rattle.jb_journal.specs.Stages.{IsAtGate}
use Rattle.jb_journal.proofs.recovery.close_gate.Goals as goal

pub returns-in_err-is_gate_open-clause-keeps : goal.returns-in_err-is_gate_open-clause-keeps
returns-in_err-is_gate_open-clause-keeps g c = λ base. keeps-reads (IsAtGate base) _ _ c.is_gate_open.ensures.kept

pub returns-then-branch-clause-keeps : goal.returns-then-branch-clause-keeps
returns-then-branch-clause-keeps g c = λ base. keeps-then (IsAtGate base) _ _ _ (keeps-reads (IsAtGate base) _ _ c.is_gate_open.ensures.kept) (c.set_gate.ensures.keeps base)

pub returns-else-branch-clause-keeps : goal.returns-else-branch-clause-keeps
returns-else-branch-clause-keeps g c = λ base. keeps-reads (IsAtGate base) _ _ c.is_gate_open.ensures.kept
