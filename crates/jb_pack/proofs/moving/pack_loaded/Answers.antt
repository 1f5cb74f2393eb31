use Rattle.std.proofs.Common.{◌≡◌, ◌+◌, ◌-◌, ◌∙◌, ℕ, List, ap, arith, drop, map, sym}
use Rattle.jb_limits.specs.declared.limits.TheConstants.{MOST_SLOTS}
use Rattle.jb_state.specs.Plan.{links_of}
use Rattle.jb_state.specs.LiveSlots.{linkables_from}
use Rattle.jb_state.specs.Links.{Linkable}
use Rattle.jb_state.specs.declared.loaded.Loaded.{Loaded}
use Rattle.jb_state.specs.declared.loaded.LoadedSlot.{LoadedSlot}
use Rattle.jb_pack.proofs.FitLemmas.{headers_fit_kept}
use Rattle.jb_pack.proofs.PlanLemmas.{base_within}
use Rattle.jb_pack.proofs.SlotLemmas.{linkables_kept}
use Rattle.jb_state.specs.Packed.{headers_size, kept_slots, live_slots, packed, packed_from, texts_size}
use Rattle.jb_pack.proofs.moving.pack_loaded.Goals as goal

pub overflow_sub-base : goal.overflow_sub-base
overflow_sub-base c =
    let within = base_within c.args.loaded.now in
    let above = within.0 in
    omega (arith, above, c.requires.base)

pub drop_first-requires : goal.drop_first-requires
drop_first-requires c =
    let within = base_within c.args.loaded.now in
    let above = within.0 in
    let below = within.1 in
    omega (arith, above, below, c.requires.base)

pub move_slots-end-requires-clause-links : goal.move_slots-end-requires-clause-links
move_slots-end-requires-clause-links c =
    let loaded : Loaded = c.args.loaded.now in
    let live : List Linkable = linkables_from loaded.base loaded.slots in
    let kept : c.drop_first.new.self ≡ kept_slots loaded = c.drop_first.ensures ∙ ap (λ (n : ℕ). drop (n - loaded.base) loaded.slots) c.requires.base in
    record {
      live = live;
      are = c.requires.links ∙ ap (map (links_of live)) (sym (linkables_kept loaded)) ∙ sym (λ i. map (links_of live) (linkables_from (c.requires.base i) (kept i)));
    }

pub move_slots-end-requires-clause-headers : goal.move_slots-end-requires-clause-headers
move_slots-end-requires-clause-headers c =
    let loaded : Loaded = c.args.loaded.now in
    let kept : c.drop_first.new.self ≡ kept_slots loaded = c.drop_first.ensures ∙ ap (λ (n : ℕ). drop (n - loaded.base) loaded.slots) c.requires.base in
    omega (arith, headers_fit_kept MOST_SLOTS loaded c.requires.sound, ap headers_size kept)

pub returns : goal.returns
returns c =
    let loaded : Loaded = c.args.loaded.now in
    let live : List Linkable = linkables_from loaded.base loaded.slots in
    let kept : c.drop_first.new.self ≡ kept_slots loaded = c.drop_first.ensures ∙ ap (λ (n : ℕ). drop (n - loaded.base) loaded.slots) c.requires.base in
    let are = c.requires.links ∙ ap (map (links_of live)) (sym (linkables_kept loaded)) ∙ sym (λ i. map (links_of live) (linkables_from (c.requires.base i) (kept i))) in
    let base = c.requires.base in
    let slots : c.move_slots-end.new.slots ≡ (packed loaded).slots =
    c.move_slots-end.ensures.moved live are ∙ (λ i. packed_from live (base i) 1024 0 (kept i)) in
    let active = c.move_slots-end.ensures.live ∙ ap live_slots kept in
    let headers = c.move_slots-end.ensures.headers ∙ ap (λ (l : List LoadedSlot). 1024 + headers_size l) kept in
    let texts = c.move_slots-end.ensures.texts ∙ ap texts_size kept in
    λ i. record loaded {
      counter = (packed loaded).counter;
      active = active i;
      base = base i;
      slots = slots i;
      headers_len = headers i;
      texts_len = texts i;
    }
