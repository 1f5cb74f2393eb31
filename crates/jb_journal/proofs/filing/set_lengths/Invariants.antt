use Rattle.std.proofs.Common.{drop}
use Rattle.jb_journal.proofs.SettingLemmas.{Setting}
use Rattle.jb_journal.proofs.filing.set_lengths.Given as goal

abbrev pub invariant-loop-entry : goal.invariant-loop-entry
invariant-loop-entry g l = Setting (g.D.Disk.device l.initial.disk) (g.D.Disk.device l.disk) l.lengths (drop l.entry-index l.lengths)
