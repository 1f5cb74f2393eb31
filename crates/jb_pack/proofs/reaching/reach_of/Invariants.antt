use Rattle.std.proofs.Common.{◌≡◌, ◌+◌, ◌≤◌, take}
use Rattle.std.specs.Prelude.{sum}
use Rattle.jb_limits.specs.declared.limits.TheConstants.{SHADOW_CEILING}
use Rattle.jb_pack.specs.Shadow.{lefts}
use Rattle.jb_pack.proofs.reaching.reach_of.Given as goal

abbrev pub invariant-loop-place : goal.invariant-loop-place
invariant-loop-place l = record {
  bytes_are : l.bytes ≡ sum (take l.place (lefts l.copies l.slots));
  fits : l.bytes ≤ l.budget;
  room : l.len + l.bytes ≤ SHADOW_CEILING;
}
