use Rattle.std.proofs.Common.{◌≡◌, ◌++◌, drop}
use Rattle.jb_model.specs.Run.{run_of}
use Rattle.jb_state.specs.Tight.{tight_state}
use Rattle.jb_plain.specs.Seen.{seen_state}
use Rattle.jb_plain.specs.Small.{AreSmall}
use Rattle.jb_plain.proofs.run.run_slow.Given as goal

abbrev pub invariant-loop-asked : goal.invariant-loop-asked
invariant-loop-asked l = record {
  small : AreSmall (seen_state l.state).slots;
  replies : l.replies.items ++ (run_of l.rules (seen_state l.state) (drop l.asked-index l.list)).replies ≡ (run_of l.rules (tight_state l.fn.area) l.list).replies;
  state : (run_of l.rules (seen_state l.state) (drop l.asked-index l.list)).state ≡ (run_of l.rules (tight_state l.fn.area) l.list).state;
}
