use Rattle.std.proofs.Common.{◌≡◌, ◌≤◌, ◌+◌, ◌*◌, [], take}
use Rattle.jb_redo.specs.Changes.{KeepsRoom, record_size}
use Rattle.jb_change.specs.Headers.{Updates}
use Rattle.jb_change.specs.Put.{IsInLinks, LeavesBut}
use Rattle.jb_disk.specs.RedoView.{Spends}
use Rattle.jb_state.specs.Linked.{with_links_of}
use Rattle.jb_change.specs.Links.{AreLeftAbove}
use Rattle.jb_change.proofs.relinking.put_plan.Given as goal

abbrev pub invariant-loop-links : goal.invariant-loop-links
invariant-loop-links l = record {
  makes : Updates l.initial.redo l.loaded l.loaded [] → Updates l.redo l.loaded (with_links_of (take l.links-index l.plan) l.loaded) [];
  leaves : Updates l.initial.redo l.loaded l.loaded [] → LeavesBut l.initial.redo l.loaded (IsInLinks l.loaded) → LeavesBut l.redo l.loaded (IsInLinks l.loaded);
  above : AreLeftAbove (take l.links-index l.plan) l.last l.loaded;
  lengths : l.redo.lengths ≡ l.initial.redo.lengths;
  room : Spends 0 l.links-index (12 * l.links-index) l.initial.redo l.redo;
  kept : KeepsRoom l.initial.redo l.redo;
  size : record_size l.redo ≤ record_size l.initial.redo + 32 * l.links-index;
}
