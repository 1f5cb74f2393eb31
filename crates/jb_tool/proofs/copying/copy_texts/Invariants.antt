use Rattle.std.proofs.Common.{◌≡◌}
use Rattle.std.specs.Option.{ForSome}
use Rattle.jb_backup.specs.Target.{HasBegun, HasFront, IsUnsigned}
use Rattle.jb_disk.specs.Runs.{LeavesOnly}
use Rattle.jb_tool.proofs.BackingLemmas.{Copies}
use Rattle.jb_tool.proofs.copying.copy_texts.Given as goal

abbrev pub invariant-loop : goal.invariant-loop
invariant-loop g l = record {
  begun : HasBegun l.copier (g.E.Disk.device l.onto);
  front : ForSome (g.S.Source.source l.initial.source).contents (λ files. HasFront l.copier files (g.E.Disk.device l.onto).contents);
  crash : LeavesOnly (g.E.Disk.device l.initial.onto) (g.E.Disk.device l.onto) IsUnsigned;
  copies : Copies (g.S.Source.source l.initial.source) (g.S.Source.source l.source) (g.E.Disk.device l.initial.onto) (g.E.Disk.device l.onto);
  stays : g.S.Source.stays l.initial.source l.source;
  told : g.H.Host.desk l.host ≡ g.H.Host.desk l.initial.host;
}
