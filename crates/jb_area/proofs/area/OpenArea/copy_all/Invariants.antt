use Rattle.std.proofs.Common.{◌≡◌, ◌≤◌, Ok, false}
use Rattle.jb_limits.specs.declared.limits.TheConstants.{TEXTS_CEILING}
use Rattle.jb_state.specs.Packed.{texts_size}
use Rattle.jb_area.specs.Calls.{HasRest, StepsPack}
use Rattle.jb_area.specs.Copying.{AreAllCopied, begun_of}
use Rattle.jb_area.proofs.MeasureLemmas.{to_do_with}
use Rattle.jb_area.proofs.area.OpenArea.copy_all.Given as goal

abbrev pub invariant-loop-more : goal.invariant-loop-more
invariant-loop-more g l = record {
  steps : StepsPack g.D.Disk.device l.initial.self l.self (Ok l.more);
  rest : HasRest g.D.Disk.device l.self;
  fits : texts_size l.self.held.slots ≤ TEXTS_CEILING;
  all : l.more ≡ false → AreAllCopied l.self.held.slots l.self.packer;
}

abbrev pub decreases-loop-more : goal.decreases-loop-more
decreases-loop-more g l = to_do_with l.more l.self.held.slots (begun_of l.self.packer)
