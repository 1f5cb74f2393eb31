use Rattle.std.proofs.Common.{◌≡◌, ◌≤◌, ◌+◌, length, take}
use Rattle.jb_link.specs.Keys.{numbers_of}
use Rattle.jb_link.proofs.keys.numbers_of.Given as goal

abbrev pub invariant-loop-key : goal.invariant-loop-key
invariant-loop-key l = (l.numbers.items ≡ numbers_of l.keying.base l.keying.wide (take l.key-index l.keys)) × (length l.keys ≤ l.numbers.room + l.key-index)
