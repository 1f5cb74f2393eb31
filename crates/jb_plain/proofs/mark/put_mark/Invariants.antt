use Rattle.std.proofs.Common.{◌≡◌, ◌++◌, drop, take}
use Rattle.jb_state.specs.Marks.{with_mark}
use Rattle.jb_plain.proofs.mark.put_mark.Given as goal

abbrev pub invariant-loop-place : goal.invariant-loop-place
invariant-loop-place l =
    (l.marks.items ≡ l.initial.marks.items)
    × (take l.place l.marks.items ++ with_mark l.mark (drop l.place l.marks.items) ≡ with_mark l.mark l.marks.items)
