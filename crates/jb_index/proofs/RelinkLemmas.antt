-- A relink and a pack keep the summaries of an area.
use Rattle.std.proofs.Common.{◌≡◌, ℕ, ◌+◌, ◌-◌, ◌≤◌, ◌==◌, List, [], ◌∷◌, Option, Some, None, find, get_or, map, take, drop, refl, sym, ◌∙◌, ap, arith}
use Rattle.std.specs.Prelude.{option_map}
use Rattle.std.proofs.lemmas.List.{drop-map}
use Rattle.std.proofs.Math.Seq.{drop-nil, take-nil}
use Rattle.jb_base.specs.declared.area.AreaRules.{AreaRules}
use Rattle.jb_state.specs.Linked.{with_links_of}
use Rattle.jb_state.specs.Links.{Linkable, linkable, linkables_of, parent_at, parent_or_0}
use Rattle.jb_state.specs.Live.{Numbered, change_live_from, live_in}
use Rattle.jb_state.specs.LiveSlots.{linkables_from}
use Rattle.jb_state.specs.Loaded.{header_size}
use Rattle.jb_state.specs.PackedState.{emptied, packed_base, packed_slots, packed_state}
use Rattle.jb_state.specs.Packed.{kept_slots, new_base, packed, packed_from}
use Rattle.jb_state.specs.Plan.{plan_of}
use Rattle.jb_state.specs.Relinked.{relinked, relinked_area, relink_by}
use Rattle.jb_state.specs.State.{AreaState, LiveMessage, SlotState, live_message, no_message, slot_state, state_of}
use Rattle.jb_state.specs.declared.change.Change.TheVariants.{Packed, Relinked}
use Rattle.jb_state.specs.declared.links.Links.{Links}
use Rattle.jb_state.specs.declared.loaded.Loaded.{Loaded}
use Rattle.jb_state.specs.declared.loaded.LoadedSlot.{LoadedSlot}
use Rattle.jb_state.specs.declared.loaded.LoadedSlot.TheVariants.{Empty, Killed, Live}
use Rattle.jb_state.proofs.PackLaws.{length-relinked, live_in-packed, packed_base-within, packed_next, drop-change}
use Rattle.jb_state.proofs.RelinkLaws.{linkables-relinked, live_in-relinked, map-map, parent_of-kept, relinked_one, with_kept}
use Rattle.jb_index.specs.Change.{Follows}
use Rattle.jb_index.specs.Edit.{absorbed}
use Rattle.jb_index.specs.Index.{index_of, summary_of, summary_with}
use Rattle.jb_index.specs.declared.op.OpEdit.TheVariants.{Base}
use Rattle.jb_index.proofs.ChangeLemmas.{follows, index_on, textless, textless_slots}
use Rattle.jb_index.proofs.ListLemmas.{find_map}
use Rattle.jb_index.proofs.MakingLemmas.{same_index}
use Rattle.jb_index.proofs.SlotLemmas.{map_agree}
use Rattle.jb_state.proofs.LinkedLaws.{linked_state, links_of_area}

-- the parent of a number is the same once all parents are written
parent_at-kept : (live : List Linkable) (number : ℕ) → parent_at (map (with_kept live) live) number ≡ parent_at live number
parent_at-kept live number =
    ap (parent_or_0 (map (with_kept live) live)) (find_map (λ (one : Linkable). one.number == number) (with_kept live) live)
    ∙ by (find (λ (one : Linkable). one.number == number) live)
  where
    by : (found : Option Linkable) → parent_or_0 (map (with_kept live) live) (option_map (with_kept live) found) ≡ parent_or_0 live found
    by None = refl
    by (Some one) = parent_of-kept live one

-- the summaries of relinked messages are the same
relinked_summaries : (state later : AreaState) → live_in later ≡ map (relinked_one (linkables_of state)) (live_in state)
    → map (summary_of (linkables_of later)) (live_in later) ≡ map (summary_of (linkables_of state)) (live_in state)
relinked_summaries state later is =
    ap (λ (messages : List Numbered). map (summary_of (map linkable messages)) messages) is
    ∙ ap (λ (live : List Linkable). map (summary_of live) (map (relinked_one (linkables_of state)) (live_in state))) (linkables-relinked (linkables_of state) (live_in state))
    ∙ map-map (relinked_one (linkables_of state)) (summary_of (map (with_kept (linkables_of state)) (linkables_of state))) (live_in state)
    ∙ map_agree (λ one. summary_of (map (with_kept (linkables_of state)) (linkables_of state)) (relinked_one (linkables_of state) one)) (summary_of (linkables_of state)) (live_in state)
    (λ k d within. same (get_or (live_in state) k d))
  where
    same : (one : Numbered) → summary_of (map (with_kept (linkables_of state)) (linkables_of state)) (relinked_one (linkables_of state) one) ≡ summary_of (linkables_of state) one
    same one = ap (summary_with one.number one.message.head one.message.subfields) (parent_at-kept (linkables_of state) one.number)

-- the area with the links of a plan has the index of the relinked one
linked_index : (rules : AreaRules) (plan : List Links) (loaded : Loaded) → plan ≡ plan_of (linkables_from loaded.base loaded.slots)
    → index_of rules (state_of [] (with_links_of plan loaded)) ≡ index_of rules (relinked_area (state_of [] loaded))
linked_index rules plan loaded is =
    let live : List Linkable = linkables_from loaded.base loaded.slots in
    ap (λ l. index_of rules (state_of [] l)) (links_of_area loaded plan is)
    ∙ ap (index_on rules loaded.marks loaded.base) (linked_state [] live loaded.base loaded.slots)

-- a relink changes no summary
pub relinked_follows : (plan : List Links) (loaded : Loaded) → Follows (Relinked plan) loaded []
relinked_follows plan loaded = follows (Relinked plan) loaded [] (λ rules sound is. same rules ∙ sym (linked_index rules plan loaded is))
  where
    state : AreaState
    state = state_of [] loaded

    same : (rules : AreaRules) → index_of rules state ≡ index_of rules (relinked_area state)
    same rules =
        same_index _ _ state.marks state.marks state.base _ _ rules rules (sym (relinked_summaries state (relinked_area state) (live_in-relinked state)))
        refl (ap (λ n. state.base + n) (sym (length-relinked state))) refl

-- no text is read of none
no_text : (len at : ℕ) → ◌≡◌ {A = List ℕ} (take len (drop at [])) []
no_text len at = ap (take len) (drop-nil at) ∙ take-nil len

-- the slots after a pack are those of the packed state
slots_packed : (live : List Linkable) (number header_at text_at : ℕ) (slots : List LoadedSlot)
    → map (slot_state []) (packed_from live number header_at text_at slots) ≡ map emptied (change_live_from (relink_by live) number (map (slot_state []) slots))
slots_packed live number header_at text_at [] = refl
slots_packed live number header_at text_at (Empty ∷ slots) = ap (λ (rest : List SlotState). no_message ∷ rest) (slots_packed live (number + 1) header_at text_at slots)
slots_packed live number header_at text_at (Killed at ∷ slots) = ap (λ (rest : List SlotState). no_message ∷ rest) (slots_packed live (number + 1) header_at text_at slots)
slots_packed live number header_at text_at (Live message ∷ slots) =
    let after : List SlotState = map (slot_state []) (packed_from live (number + 1) (header_at + header_size message) (text_at + message.text_len) slots) in
    ap (λ text. live_message (record (relink_by live number (textless message)) { text = text }) ∷ after) (no_text message.text_len text_at ∙ sym (no_text message.text_len message.text_at))
    ∙ ap (λ (rest : List SlotState). live_message (relink_by live number (textless message)) ∷ rest)
    (slots_packed live (number + 1) (header_at + header_size message) (text_at + message.text_len) slots)

-- the slots of a packed area
packed_are : (loaded : Loaded) → textless_slots (packed loaded) ≡ packed_slots (state_of [] loaded)
packed_are loaded =
    let live : List Linkable = linkables_from loaded.base loaded.slots in
    let above : loaded.base ≤ new_base loaded = (packed_base-within (state_of [] loaded)).0 in
    let base_is : loaded.base + (new_base loaded - loaded.base) ≡ new_base loaded = omega arith in
    slots_packed live (new_base loaded) 1024 0 (kept_slots loaded)
    ∙ sym (ap (map emptied) (drop-change (relink_by live) (new_base loaded - loaded.base) loaded.base (textless_slots loaded))
    ∙ ap (λ n. map emptied (change_live_from (relink_by live) n (drop (new_base loaded - loaded.base) (textless_slots loaded)))) base_is
    ∙ ap (λ (l : List SlotState). map emptied (change_live_from (relink_by live) (new_base loaded) l)) (drop-map (slot_state []) (new_base loaded - loaded.base) loaded.slots))

-- a pack changes the base alone
pub packed_follows : (plan : List Links) (base : ℕ) (loaded : Loaded) → Follows (Packed plan base) loaded (Base base ∷ [])
packed_follows plan base loaded = follows (Packed plan base) loaded (Base base ∷ []) (λ rules sound fits.
    ap (λ n. absorbed (index_of rules state) (Base n ∷ [])) fits.1 ∙ same rules ∙ ap (index_on rules loaded.marks (new_base loaded)) (sym (packed_are loaded)))
  where
    state : AreaState
    state = state_of [] loaded

    same : (rules : AreaRules) → absorbed (index_of rules state) (Base (new_base loaded) ∷ []) ≡ index_of rules (packed_state state)
    same rules =
        same_index _ _ state.marks state.marks (packed_base state) _ _ rules rules (sym (relinked_summaries state (packed_state state) (live_in-packed state)))
        refl (sym (packed_next state)) refl
