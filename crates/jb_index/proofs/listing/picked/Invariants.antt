use Rattle.std.proofs.Common.{◌≡◌, ◌&&◌, ◌-◌, ◌≤◌, drop, filter, length, take}
use Rattle.jb_index.specs.Answer.{is_listed}
use Rattle.jb_index.specs.Wanted.{is_kind}
use Rattle.jb_index.proofs.listing.picked.Given as goal

abbrev pub invariant-loop-place : goal.invariant-loop-place
invariant-loop-place l = record {
  found : l.found ≡ filter (λ one. is_listed l.rules l.user one && is_kind l.user l.wanted one) (take (l.place - l.start) (drop l.start l.summaries.items));
  few : length l.found ≤ l.most;
  from : l.start ≤ l.place;
}
