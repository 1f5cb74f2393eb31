use Rattle.std.proofs.Common.{◌≡◌, take}
use Rattle.jb_state.specs.Packed.{headers_size, killed_slots, live_slots, texts_size}
use Rattle.jb_pack.proofs.sizes.sizes_of.Given as goal

abbrev pub invariant-loop-slot : goal.invariant-loop-slot
invariant-loop-slot l = record {
  live : l.sizes.live ≡ live_slots (take l.slot-index l.slots);
  killed : l.sizes.killed ≡ killed_slots (take l.slot-index l.slots);
  headers : l.sizes.headers ≡ headers_size (take l.slot-index l.slots);
  texts : l.sizes.texts ≡ texts_size (take l.slot-index l.slots);
}
