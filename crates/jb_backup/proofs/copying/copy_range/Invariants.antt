use Rattle.std.proofs.Common.{◌≡◌, ◌-◌, length}
use Rattle.jb_backup.proofs.CopyLemmas.{Filling}
use Rattle.jb_backup.proofs.copying.copy_range.Given as goal

abbrev pub invariant-loop-at : goal.invariant-loop-at
invariant-loop-at g l = record {
  size : length l.buffer ≡ length l.initial.buffer;
  filling : Filling (g.S.Source.source l.initial.source) (g.S.Source.source l.source) (g.E.Disk.device l.initial.onto) (g.E.Disk.device l.onto) l.file l.from l.at l.end;
  stays : g.S.Source.stays l.initial.source l.source;
}

abbrev pub decreases-loop-at : goal.decreases-loop-at
decreases-loop-at g l = l.end - l.at
