use Rattle.std.proofs.Common.{ap, arith, length, refl}
use Rattle.jb_state.proofs.loaded.LoadedSlots.new.Goals as goal

pub invariant_of-result : goal.invariant_of-result
invariant_of-result c = record {
  most = 512;
  power = (9, refl);
  within = omega (arith, ap length c.in_ok-items.ensures.items);
  room = c.in_ok-items.ensures.capacity;
}
