use Rattle.std.proofs.Common.{length, ◌-◌}
use Rattle.jb_files.proofs.WholeLemmas.{Writing}
use Rattle.jb_files.proofs.whole.write_whole.Given as goal

abbrev pub invariant-loop-done : goal.invariant-loop-done
invariant-loop-done g l = Writing (g.F.TakesParts.held l.initial.file) (g.F.TakesParts.held l.file) l.at l.bytes l.done

abbrev pub decreases-loop-done : goal.decreases-loop-done
decreases-loop-done g l = length l.bytes - l.done
