-- The links of a plan, put into the headers of an area: what they leave as it is, and what they make of it.
use Rattle.std.proofs.Common.{◌≡◌, ℕ, suc, ◌+◌, ◌-◌, ◌<◌, false, cond, nat_lt, le-ltb, List, [], ◌∷◌, ◌++◌, All, length, get_or, map, set, slice_get, take, Option, Some, None, refl, sym, ◌∙◌, ap, subst, arith, append_assoc, add-zero}
use Rattle.std.proofs.Math.Seq.{take-suc}
use Rattle.std.proofs.lemmas.List.{length-set, length_push, set_at}
use Rattle.std.proofs.lemmas.List.Elements.{All-cons, All-nil}
use Rattle.jb_state.specs.Change.{live_messages}
use Rattle.jb_state.specs.Linked.{IsPlaced, linked_head, with_links_in, with_links_of}
use Rattle.jb_state.specs.Links.{Linkable}
use Rattle.jb_state.specs.Live.{change_live_from}
use Rattle.jb_state.specs.LiveSlots.{linkables_from, loaded_linkable, message_in}
use Rattle.jb_state.specs.Plan.{links_of, loaded_at, plan_of}
use Rattle.jb_state.specs.Relinked.{relinked, relinked_slots}
use Rattle.jb_state.specs.State.{SlotState, killed_message, live_message, no_message, slot_state, state_of, text_of}
use Rattle.jb_state.specs.declared.links.Links.{Links}
use Rattle.jb_state.specs.declared.loaded.Loaded.{Loaded}
use Rattle.jb_state.specs.declared.loaded.LoadedMessage.{LoadedMessage}
use Rattle.jb_state.specs.declared.loaded.LoadedSlot.{LoadedSlot}
use Rattle.jb_state.specs.declared.loaded.LoadedSlot.TheVariants.{Empty, Killed, Live}
use Rattle.jb_state.proofs.CountLaws.{live_read}
use Rattle.jb_state.proofs.PlaceLaws.{named_at_place}

-- links leave the number of the first slot
base_in : (links : Links) (found : Option LoadedMessage) (loaded : Loaded) → (with_links_in links found loaded).base ≡ loaded.base
base_in links None loaded = refl
base_in links (Some message) loaded = refl

-- so do those of a plan
pub base_of : (plan : List Links) (loaded : Loaded) → (with_links_of plan loaded).base ≡ loaded.base
base_of [] loaded = refl
base_of (links ∷ plan) loaded =
    base_of plan (with_links_in links (loaded_at loaded links.number) loaded) ∙ base_in links (loaded_at loaded links.number) loaded

-- links leave as many slots
length_in : (links : Links) (found : Option LoadedMessage) (loaded : Loaded) → length (with_links_in links found loaded).slots ≡ length loaded.slots
length_in links None loaded = refl
length_in links (Some message) loaded = length-set loaded.slots (links.number - loaded.base) _

-- so do those of a plan
pub length_of : (plan : List Links) (loaded : Loaded) → length (with_links_of plan loaded).slots ≡ length loaded.slots
length_of [] loaded = refl
length_of (links ∷ plan) loaded =
    length_of plan (with_links_in links (loaded_at loaded links.number) loaded) ∙ length_in links (loaded_at loaded links.number) loaded

-- links leave the marks
marks_in : (links : Links) (found : Option LoadedMessage) (loaded : Loaded) → (with_links_in links found loaded).marks ≡ loaded.marks
marks_in links None loaded = refl
marks_in links (Some message) loaded = refl

-- so do those of a plan
pub marks_of : (plan : List Links) (loaded : Loaded) → (with_links_of plan loaded).marks ≡ loaded.marks
marks_of [] loaded = refl
marks_of (links ∷ plan) loaded =
    marks_of plan (with_links_in links (loaded_at loaded links.number) loaded) ∙ marks_in links (loaded_at loaded links.number) loaded

-- links keep as many messages live
pub links_keep_live : (plan : List Links) (loaded : Loaded) → live_messages (with_links_of plan loaded) ≡ live_messages loaded
links_keep_live [] loaded = refl
links_keep_live (links ∷ plan) loaded =
    links_keep_live plan (with_links_in links (loaded_at loaded links.number) loaded) ∙ one (loaded_at loaded links.number) refl
  where
    one : (found : Option LoadedMessage) → loaded_at loaded links.number ≡ found → live_messages (with_links_in links found loaded) ≡ live_messages loaded
    one None at = refl
    one (Some message) at =
        live_read loaded (links.number - loaded.base) (linked_head links message.head) message (named_at_place loaded links.number message at)

-- the links of one message more behind a plan
pub links_of_more : (plan : List Links) (links : Links) (loaded : Loaded)
    → with_links_of (plan ++ links ∷ []) loaded ≡ with_links_in links (loaded_at (with_links_of plan loaded) links.number) (with_links_of plan loaded)
links_of_more [] links loaded = refl
links_of_more (first ∷ plan) links loaded = links_of_more plan links (with_links_in first (loaded_at loaded first.number) loaded)

-- links for a slot stay so
pub still_placed : (plan : List Links) (loaded : Loaded) (links : Links) → IsPlaced loaded links → IsPlaced (with_links_of plan loaded) links
still_placed plan loaded links placed =
    let base = base_of plan loaded in
    let slots = length_of plan loaded in
    let low = placed.low in
    let within = placed.within in
    record { low = omega arith; within = subst (λ (n : ℕ). links.number - n < length (with_links_of plan loaded).slots) (sym base) (omega arith) }

-- the plan up to the next links
pub plan_more : (plan : List Links) (k : ℕ) (links : Links) → k < length plan → take (k + 1) plan ≡ take k plan ++ get_or plan k links ∷ []
plan_more plan k links low = let next : k + 1 ≡ suc k = omega arith in ap (λ (n : ℕ). take n plan) next ∙ take-suc plan k links low

-- what the next links make
pub plan_step : (plan : List Links) (k : ℕ) (d : Links) (loaded : Loaded) → k < length plan
    → with_links_in (get_or plan k d) (loaded_at (with_links_of (take k plan) loaded) (get_or plan k d).number) (with_links_of (take k plan) loaded)
    ≡ with_links_of (take (k + 1) plan) loaded
plan_step plan k d loaded low =
    sym (links_of_more (take k plan) (get_or plan k d) loaded) ∙ ap (λ (p : List Links). with_links_of p loaded) (sym (plan_more plan k d low))

-- the links of a live message with this number among these
abbrev links_at : List Linkable → ℕ → LoadedMessage → Links
links_at live number message = links_of live (loaded_linkable number message)

-- the message with these links in its header
abbrev linked_message : Links → LoadedMessage → LoadedMessage
linked_message links message = record message { head = linked_head links message.head }

-- slots with the links that these live messages give, the first of which has this number
abbrev pub linked_slots : List Linkable → ℕ → List LoadedSlot → List LoadedSlot
linked_slots live number [] = []
linked_slots live number (Empty ∷ slots) = Empty ∷ linked_slots live (number + 1) slots
linked_slots live number (Killed header_at ∷ slots) = Killed header_at ∷ linked_slots live (number + 1) slots
linked_slots live number (Live message ∷ slots) = Live (linked_message (links_at live number message) message) ∷ linked_slots live (number + 1) slots

-- the loaded area with other slots
abbrev pub slotted : Loaded → List LoadedSlot → Loaded
slotted loaded slots = record loaded { slots = slots }

-- what stands behind the first slots
get_behind : (front : List LoadedSlot) (slot : LoadedSlot) (slots : List LoadedSlot) → slice_get (front ++ slot ∷ slots) (length front) ≡ Some slot
get_behind [] slot slots = refl
get_behind (first ∷ front) slot slots = get_behind front slot slots

-- the plan of slots behind others links just them
links_behind : (live : List Linkable) (loaded : Loaded) (number : ℕ) (front slots : List LoadedSlot) → number ≡ loaded.base + length front
    → with_links_of (map (links_of live) (linkables_from number slots)) (slotted loaded (front ++ slots)) ≡ slotted loaded (front ++ linked_slots live number slots)
links_behind live loaded number front [] at = refl
links_behind live loaded number front (Empty ∷ slots) at =
    ap (λ s. with_links_of (map (links_of live) (linkables_from (number + 1) slots)) (slotted loaded s)) (sym (append_assoc front (Empty ∷ []) slots))
    ∙ links_behind live loaded (number + 1) (front ++ Empty ∷ []) slots (omega (arith, length_push front Empty))
    ∙ ap (slotted loaded) (append_assoc front (Empty ∷ []) (linked_slots live (number + 1) slots))
links_behind live loaded number front (Killed header_at ∷ slots) at =
    ap (λ s. with_links_of (map (links_of live) (linkables_from (number + 1) slots)) (slotted loaded s)) (sym (append_assoc front (Killed header_at ∷ []) slots))
    ∙ links_behind live loaded (number + 1) (front ++ Killed header_at ∷ []) slots (omega (arith, length_push front (Killed header_at)))
    ∙ ap (slotted loaded) (append_assoc front (Killed header_at ∷ []) (linked_slots live (number + 1) slots))
links_behind live loaded number front (Live message ∷ slots) at =
    let links : Links = links_at live number message in
    let slot : LoadedSlot = Live (linked_message links message) in
    let before : Loaded = slotted loaded (front ++ Live message ∷ slots) in
    let rest : List Links = map (links_of live) (linkables_from (number + 1) slots) in
    let above : nat_lt number loaded.base ≡ false = le-ltb number loaded.base (omega arith) in
    let place : number - loaded.base ≡ length front = omega arith in
    let found : loaded_at before number ≡ Some message =
    ap (λ b. cond b None (message_in (slice_get (front ++ Live message ∷ slots) (number - loaded.base)))) above
    ∙ ap (λ k. message_in (slice_get (front ++ Live message ∷ slots) k)) place ∙ ap message_in (get_behind front (Live message) slots) in
    ap (λ o. with_links_of rest (with_links_in links o before)) found
    ∙ ap (λ k. with_links_of rest (slotted loaded (set (front ++ Live message ∷ slots) k slot))) place
    ∙ ap (λ s. with_links_of rest (slotted loaded s)) (set_at front (Live message) slots slot (length front) refl)
    ∙ ap (λ s. with_links_of rest (slotted loaded s)) (sym (append_assoc front (slot ∷ []) slots))
    ∙ links_behind live loaded (number + 1) (front ++ slot ∷ []) slots (omega (arith, length_push front slot))
    ∙ ap (slotted loaded) (append_assoc front (slot ∷ []) (linked_slots live (number + 1) slots))

-- the plan of an area links its slots
pub links_of_area : (loaded : Loaded) (plan : List Links) → plan ≡ plan_of (linkables_from loaded.base loaded.slots)
    → with_links_of plan loaded ≡ slotted loaded (linked_slots (linkables_from loaded.base loaded.slots) loaded.base loaded.slots)
links_of_area loaded plan is =
    ap (λ (p : List Links). with_links_of p loaded) is
    ∙ links_behind (linkables_from loaded.base loaded.slots) loaded loaded.base [] loaded.slots (sym (add-zero loaded.base))

-- linked slots are the relinked ones of the state
pub linked_state : (texts : List ℕ) (live : List Linkable) (number : ℕ) (slots : List LoadedSlot)
    → map (slot_state texts) (linked_slots live number slots) ≡ change_live_from (λ n message. relinked live (record { number = n; message = message })) number (map (slot_state texts) slots)
linked_state texts live number [] = refl
linked_state texts live number (Empty ∷ slots) = ap (λ (l : List SlotState). no_message ∷ l) (linked_state texts live (number + 1) slots)
linked_state texts live number (Killed header_at ∷ slots) = ap (λ (l : List SlotState). killed_message ∷ l) (linked_state texts live (number + 1) slots)
linked_state texts live number (Live message ∷ slots) =
    ap (λ (l : List SlotState). live_message (relinked live (record { number = number; message = record { owner = message.owner; head = message.head; subfields = message.subfields; text = text_of texts message } })) ∷ l)
    (linked_state texts live (number + 1) slots)

-- the plan of the area links the state
pub links_of_state : (loaded : Loaded) (plan : List Links) → plan ≡ plan_of (linkables_from loaded.base loaded.slots)
    → map (slot_state []) (with_links_of plan loaded).slots ≡ relinked_slots (state_of [] loaded)
links_of_state loaded plan is =
    ap (λ (l : Loaded). map (slot_state []) l.slots) (links_of_area loaded plan is)
    ∙ linked_state [] (linkables_from loaded.base loaded.slots) loaded.base loaded.slots

-- the links of slots from a place on are for slots from there on
placed_from : (live : List Linkable) (loaded : Loaded) (k number : ℕ) (slots : List LoadedSlot) → number ≡ loaded.base + k → k + length slots ≡ length loaded.slots
    → All (IsPlaced loaded) (map (links_of live) (linkables_from number slots))
placed_from live loaded k number [] at rest = All-nil (IsPlaced loaded)
placed_from live loaded k number (Empty ∷ slots) at rest = placed_from live loaded (k + 1) (number + 1) slots (omega arith) (omega arith)
placed_from live loaded k number (Killed header_at ∷ slots) at rest = placed_from live loaded (k + 1) (number + 1) slots (omega arith) (omega arith)
placed_from live loaded k number (Live message ∷ slots) at rest =
    All-cons (IsPlaced loaded) (links_at live number message) (map (links_of live) (linkables_from (number + 1) slots))
    (record { low = omega arith; within = omega arith }) (placed_from live loaded (k + 1) (number + 1) slots (omega arith) (omega arith))

-- the links of an area are for its slots
pub plan_is_placed : (loaded : Loaded) (plan : List Links) → plan ≡ plan_of (linkables_from loaded.base loaded.slots) → All (IsPlaced loaded) plan
plan_is_placed loaded plan is =
    let P : List Links → Type 0 = All (IsPlaced loaded) in
    subst P (sym is) (placed_from (linkables_from loaded.base loaded.slots) loaded 0 loaded.base loaded.slots (omega arith) (omega arith))
