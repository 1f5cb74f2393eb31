use Rattle.std.proofs.Common.{◌≡◌, Bool, true, false, nat_lt, cond, List, Some, None, length, refl, sym, arith, ltb-false}
use Rattle.std.specs.List.{position_or_len}
use Rattle.std.specs.Prelude.{not}
use Rattle.std.proofs.lemmas.List.Sums.{prefix_len-le-length}
use Rattle.jb_state.specs.declared.loaded.LoadedSlot.{LoadedSlot}
use Rattle.jb_state.specs.Packed.{is_live_slot}
use Rattle.jb_pack.proofs.sizes.first_live.Goals as goal

-- where none is live, the first place is behind all
none_live : (slots : List LoadedSlot) (b : Bool) → nat_lt (position_or_len is_live_slot slots) (length slots) ≡ b
    → cond b (Some (position_or_len is_live_slot slots)) None ≡ None → length slots ≡ position_or_len is_live_slot slots
none_live slots true some none = cc
none_live slots false least none =
    omega (arith, ltb-false (position_or_len is_live_slot slots) (length slots) least, prefix_len-le-length (λ slot. not (is_live_slot slot)) slots)

pub returns-in-None : goal.returns-in-None
returns-in-None c = none_live c.args.slots.now _ refl (sym c.in-None.ensures)
