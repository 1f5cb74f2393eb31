use Rattle.std.proofs.Common.{◌≡◌, ◌+◌, ◌-◌, ap, arith, length, length-drop, subst}
use Rattle.std.proofs.lemmas.Result.{IfOk-weaker}
use Rattle.std.specs.Int.{IsPowerOfTwo}
use Rattle.jb_state.specs.Room.{IsWider}
use Rattle.jb_state.specs.LiveSlots.{linkables_from}
use Rattle.jb_state.specs.Packed.{kept_slots, new_base, packed}
use Rattle.jb_state.specs.declared.loaded.Loaded.{Loaded}
use Rattle.jb_pack.proofs.HeldLemmas.{length-packed}
use Rattle.jb_pack.proofs.PlanLemmas.{base_within}
use Rattle.jb_link.specs.Index.{HasSameLists, IsIndexOf, ReplyIndex}
use Rattle.jb_held.proofs.IndexLaws.{same_lists}
use Rattle.jb_held.proofs.PackIndexLemmas.{packed_index}
use Rattle.jb_held.proofs.held.HeldArea.replies_after_pack.Goals as goal

pub overflow_sub-kept : goal.overflow_sub-kept
overflow_sub-kept c =
    let base = rw (← c.self.view_is) at c.requires.base in
    let within = base_within c.self.inside.loaded in
    let above = within.0 in
    omega (arith, above, base)

pub overflow_sub-kept-2 : goal.overflow_sub-kept-2
overflow_sub-kept-2 c =
    let base = rw (← c.self.view_is) at c.requires.base in
    let within = base_within c.self.inside.loaded in
    let below = within.1 in
    omega (arith, below, base, ap length c.as_slice.ensures)

pub returns-clause-index : goal.returns-clause-index
returns-clause-index c =
    let sound = rw (← c.self.view_is) at c.requires.sound in
    let loaded : Loaded = c.self.inside.loaded in
    rw (← c.self.view_is) (IfOk-weaker c.copied.result (λ (copy : ReplyIndex). HasSameLists c.self.inside.replies copy) (λ (copy : ReplyIndex). IsIndexOf copy (packed loaded))
    (λ copy same. packed_index loaded copy sound.base (same_lists c.self.inside.replies copy loaded same c.self.invariant.replies)) c.copied.ensures.lists)

pub returns-clause-room : goal.returns-clause-room
returns-clause-room c =
    let sound = rw (← c.self.view_is) at c.requires.sound in
    let base = rw (← c.self.view_is) at c.requires.base in
    let loaded : Loaded = c.self.inside.loaded in
    let within = base_within loaded in
    let above = within.0 in
    let below = within.1 in
    let many = length-packed (linkables_from loaded.base loaded.slots) (new_base loaded) 1024 0 (kept_slots loaded) in
    let left = length-drop (new_base loaded - loaded.base) loaded.slots in
    rw (← c.self.view_is) (IfOk-weaker c.copied.result (λ (copy : ReplyIndex). copy.room ≡ c.room_behind.result)
    (λ (copy : ReplyIndex). IsWider (length (packed loaded).slots) (length (packed loaded).slots + copy.room))
    (λ copy room. record {
      more = omega (arith, above, below, many, left, base, ap length c.as_slice.ensures, room, c.room_behind.ensures.more);
      few = omega (arith, above, below, many, left, base, ap length c.as_slice.ensures, room, c.room_behind.ensures.few);
      power = subst IsPowerOfTwo (omega (arith, above, below, many, left, base, ap length c.as_slice.ensures, room)) c.room_behind.ensures.power;
    }) c.copied.ensures.room)

pub room_behind-requires : goal.room_behind-requires
room_behind-requires c =
    let sound = rw (← c.self.view_is) at c.requires.sound in
    omega (arith, sound.few_slots, ap length c.as_slice.ensures)
