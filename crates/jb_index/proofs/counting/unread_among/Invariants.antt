use Rattle.std.proofs.Common.{◌≡◌, ◌≤◌, filter, length, take}
use Rattle.jb_index.specs.Making.{is_unread, slots_listed}
use Rattle.jb_state.specs.LiveSlots.{linkables_from}
use Rattle.jb_index.proofs.counting.unread_among.Given as goal

abbrev pub invariant-loop-place : goal.invariant-loop-place
invariant-loop-place l = record {
  counted : l.count ≡ length (filter (is_unread l.rules l.user l.last) (slots_listed (linkables_from l.base l.slots) l.base (take l.place l.slots)));
  few : l.count ≤ l.place;
}
