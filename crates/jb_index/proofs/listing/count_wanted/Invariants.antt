use Rattle.std.proofs.Common.{◌≡◌, ◌&&◌, ◌-◌, ◌≤◌, drop, filter, length, take}
use Rattle.jb_index.specs.Answer.{is_listed}
use Rattle.jb_index.specs.Wanted.{is_kind}
use Rattle.jb_index.proofs.listing.count_wanted.Given as goal

abbrev pub invariant-loop-place : goal.invariant-loop-place
invariant-loop-place l = record {
  count : l.count ≡ length (filter (λ one. is_listed l.rules l.user one && is_kind l.user l.wanted one) (take (l.place - l.start) (drop l.start l.summaries.items)));
  from : l.start ≤ l.place;
}
