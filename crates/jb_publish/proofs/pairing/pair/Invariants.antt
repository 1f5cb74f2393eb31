use Rattle.std.proofs.Common.{◌≡◌, ℕ, ◌-◌, ◌≤◌, length, slice_get, Some}
use Rattle.std.specs.Prelude.{vec_capacity}
use Rattle.jb_publish.specs.Accounts.{IsFresh}
use Rattle.jb_publish.specs.Publications.{publication_of}
use Rattle.jb_publish.proofs.pairing.pair.Given as goal

abbrev pub invariant-loop-shower : goal.invariant-loop-shower
invariant-loop-shower g l = record {
  same : publication_of l.shower ≡ publication_of l.initial.shower;
  cap : l.fn.readers ≤ vec_capacity l.ends;
  most : length l.ends.items ≤ l.fn.readers;
  each : (k : ℕ) (s : _) → slice_get l.ends.items k ≡ Some s → IsFresh (publication_of l.initial.shower).mark s;
}

abbrev pub decreases-loop-shower : goal.decreases-loop-shower
decreases-loop-shower g l = l.fn.readers - length l.ends.items
