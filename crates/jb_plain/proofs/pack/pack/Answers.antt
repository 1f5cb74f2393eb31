use Rattle.std.proofs.Common.{◌≡◌, ℕ, ◌+◌, ◌-◌, ◌^◌, ◌<◌, min, List, length, map, drop, ap, sym, ◌∙◌, arith, length-drop}
use Rattle.std.proofs.lemmas.List.{length-map}
use Rattle.jb_state.specs.Live.{counted, killed_count, live_count}
use Rattle.jb_state.specs.PackedState.{emptied, packed_base, packed_slots, packed_state}
use Rattle.jb_state.specs.Relinked.{relinked_slots}
use Rattle.jb_state.specs.State.{AreaState, SlotState}
use Rattle.jb_state.specs.Tight.{headers_together, owned_slot, texts_together}
use Rattle.jb_state.specs.declared.area.Slot.{Slot}
use Rattle.jb_model.specs.declared.reply.Reply.TheVariants.{Packed}
use Rattle.jb_state.proofs.PackLaws.{length-relinked}
use Rattle.jb_plain.specs.Changes.{cut_area, tightened_area}
use Rattle.jb_plain.specs.Seen.{seen_state}
use Rattle.jb_plain.specs.Walk.{front_of}
use Rattle.jb_plain.proofs.Lists.{front_of-first}
use Rattle.jb_plain.proofs.SeenLaws.{answer, pack_way}
use Rattle.jb_plain.proofs.SmallLaws.{headers_told, small_packed, texts_fit, texts_told}
use Rattle.jb_plain.proofs.pack.pack.Goals as goal

pub refusal-requires : goal.refusal-requires
refusal-requires c =
    let state = c.args.state.now in
    texts_fit (map owned_slot state.slots.items) (omega (arith, length-map state.slots.items owned_slot, state.slots.ok, state.numbers)) c.requires

pub drop_killed-requires : goal.drop_killed-requires
drop_killed-requires c = omega (arith, c.slots_in_front-front.ensures.few, c.deref-3.ensures.len, c.write_links.ensures.kept)

-- a packed area of these parts
abbrev parts : AreaState → ℕ → List SlotState → ℕ → ℕ → AreaState
parts state base slots headers texts = counted (record state { base = base; slots = slots; headers_len = headers; texts_len = texts })

pub returns : goal.returns
returns c =
    let held = c.args.state.now in
    let state : AreaState = seen_state held in
    let front : ℕ = c.slots_in_front-front.result in
    let slots : List Slot = held.slots.items in
    let most : ℕ = 2 ^ 64 - 1 in
    let base_is : state.base + front ≡ packed_base state =
    ap (λ n. state.base + n) (c.slots_in_front-front.ensures.same ∙ ap front_of c.deref-3.ensures.value) ∙ front_of-first state.base slots in
    let front_is : front ≡ packed_base state - state.base = omega arith in
    let slots_is : map emptied (drop front (relinked_slots state)) ≡ packed_slots state = ap (λ n. map emptied (drop n (relinked_slots state))) front_is in
    let few : length (packed_slots state) < 2 ^ 32 =
    omega (
      arith,
      length-map (drop (packed_base state - state.base) (relinked_slots state)) emptied,
      length-drop (packed_base state - state.base) (relinked_slots state),
      length-relinked state,
      length-map slots owned_slot,
      held.slots.ok,
      held.numbers,
    ) in
    let state_is : seen_state c.count.new.self ≡ packed_state state =
    c.count.ensures
    ∙ ap counted (c.tighten.ensures ∙ ap tightened_area (c.drop_killed.ensures ∙ ap (λ (a : AreaState). cut_area a front) c.in_ok-write_links.ensures.value))
    ∙ ap (λ (l : List SlotState). parts state (state.base + front) l (min (1024 + headers_together l) most) (min (texts_together l) most)) slots_is
    ∙ ap (λ (b : ℕ). parts state b (packed_slots state) (min (1024 + headers_together (packed_slots state)) most) (min (texts_together (packed_slots state)) most)) base_is
    ∙ ap (λ (h : ℕ). parts state (packed_base state) (packed_slots state) h (min (texts_together (packed_slots state)) most)) (headers_told (packed_slots state) few (small_packed state c.requires))
    ∙ ap (parts state (packed_base state) (packed_slots state) (1024 + headers_together (packed_slots state))) (texts_told (packed_slots state) few (small_packed state c.requires)) in
    let live : c.live_messages-live.result ≡ live_count (map owned_slot slots) =
    c.live_messages-live.ensures.same ∙ ap (λ (l : List Slot). live_count (map owned_slot l)) c.deref.ensures.value in
    let dropped : c.killed_messages-dropped.result ≡ killed_count (map owned_slot slots) =
    c.killed_messages-dropped.ensures.same ∙ ap (λ (l : List Slot). killed_count (map owned_slot l)) c.deref-2.ensures.value in
    ap (λ (n : ℕ). answer (Packed c.count.new.self.base n c.killed_messages-dropped.result) (seen_state c.count.new.self)) live
    ∙ ap (λ (n : ℕ). answer (Packed c.count.new.self.base (live_count (map owned_slot slots)) n) (seen_state c.count.new.self)) dropped
    ∙ ap (λ (s : AreaState). answer (Packed s.base (live_count (map owned_slot slots)) (killed_count (map owned_slot slots))) s) state_is
    ∙ sym (pack_way c.args.rules.now state c.args.user.now (sym c.denied.ensures ∙ c.in_default.is) (sym c.refusal.ensures ∙ c.in_default-refusal.is))
