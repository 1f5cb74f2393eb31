use Rattle.std.proofs.Common.{◌≡◌, take}
use Rattle.jb_state.specs.Packed.{texts_size}
use Rattle.jb_shared.proofs.stepping.text_bytes.Given as goal

abbrev pub invariant-loop-slot : goal.invariant-loop-slot
invariant-loop-slot l = l.bytes ≡ texts_size (take l.slot-index l.slots)
