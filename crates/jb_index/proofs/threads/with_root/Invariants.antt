use Rattle.std.proofs.Common.{◌≡◌, ◌&&◌, ◌==◌, ◌≤◌, filter, length, take}
use Rattle.jb_index.specs.Answer.{is_listed}
use Rattle.jb_index.specs.Thread.{root_in}
use Rattle.jb_index.proofs.threads.with_root.Given as goal

abbrev pub invariant-loop-place : goal.invariant-loop-place
invariant-loop-place l = record {
  found : l.found ≡ filter (λ one. is_listed l.rules l.user one && (root_in l.summaries.items one.number == l.root)) (take l.place l.summaries.items);
  few : length l.found ≤ l.most;
}
