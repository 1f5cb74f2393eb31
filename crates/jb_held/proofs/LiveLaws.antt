-- How many messages are live after each change.
use Rattle.std.proofs.Common.{◌≡◌, ℕ, ◌+◌, cond, List, [], ◌∷◌, Option, Some, None, refl, sym, ◌∙◌, ap, arith}
use Rattle.std.specs.Prelude.{sum_by}
use Rattle.std.proofs.lemmas.List.Sums.{sum_by-cons}
use Rattle.jb_state.specs.Change.{FitsAnew, HasMessageAt, IsNeighbourOf, IsReadingOf, after, headed_where, live_messages}
use Rattle.jb_state.specs.Links.{Linkable}
use Rattle.jb_state.specs.LiveSlots.{linkables_from, loaded_linkable}
use Rattle.jb_state.specs.Loaded.{header_size}
use Rattle.jb_state.specs.Packed.{is_live_slot, kept_slots, moved, new_base, packed, packed_from}
use Rattle.jb_state.specs.Plan.{links_of}
use Rattle.jb_state.specs.declared.change.Change.TheVariants.{Edited, Headed, Packed, Posted, Relinked, Killed as Kills}
use Rattle.jb_state.specs.declared.change.HeadAt.{HeadAt}
use Rattle.jb_state.specs.declared.links.Links.{Links}
use Rattle.jb_state.specs.declared.loaded.Loaded.{Loaded}
use Rattle.jb_state.specs.declared.loaded.LoadedMessage.{LoadedMessage}
use Rattle.jb_state.specs.declared.loaded.LoadedSlot.{LoadedSlot}
use Rattle.jb_state.specs.declared.loaded.LoadedSlot.TheVariants.{Empty, Killed, Live}
use Rattle.jb_pack.proofs.StateLemmas.{live_of_state, sum_of_kept}
use Rattle.jb_state.proofs.CountLaws.{live_after_set, live_behind, live_read, live_without}
use Rattle.jb_state.proofs.PlaceLaws.{headed_is, killed_is}
use Rattle.jb_state.proofs.LinkedLaws.{links_keep_live}

-- as many with the header of a neighbour
live_beside : (neighbour : Option HeadAt) (loaded : Loaded) → IsNeighbourOf neighbour loaded → live_messages (headed_where neighbour loaded) ≡ live_messages loaded
live_beside None loaded is = refl
live_beside (Some at) loaded is = ap live_messages (headed_is at is.message loaded is.here) ∙ live_read loaded at.place at.head is.message is.here

-- one more after a post
pub live_posted : (message : LoadedMessage) (neighbour : Option HeadAt) (loaded : Loaded) → IsNeighbourOf neighbour loaded
    → live_messages (after (Posted message neighbour) loaded) ≡ live_messages loaded + 1
live_posted message neighbour loaded is =
    live_behind (headed_where neighbour loaded) message ∙ ap (λ (n : ℕ). n + 1) (live_beside neighbour loaded is)

-- as many after a reading
pub live_headed : (at : HeadAt) (loaded : Loaded) → IsReadingOf at loaded → live_messages (after (Headed at) loaded) ≡ live_messages loaded
live_headed at loaded is = ap live_messages (headed_is at is.message loaded is.here) ∙ live_read loaded at.place at.head is.message is.here

-- as many after an edit
pub live_edited : (place : ℕ) (message : LoadedMessage) (loaded : Loaded) → FitsAnew place message loaded
    → live_messages (after (Edited place message) loaded) ≡ live_messages loaded
live_edited place message loaded fits =
    let counts : live_messages (after (Edited place message) loaded) + 1 ≡ live_messages loaded + 1 =
    live_after_set loaded place fits.was (Live message) fits.here in
    omega arith

-- one less after a kill
pub live_killed : (place : ℕ) (loaded : Loaded) → HasMessageAt place loaded → live_messages (after (Kills place) loaded) + 1 ≡ live_messages loaded
live_killed place loaded is =
    ap (λ (l : Loaded). live_messages l + 1) (killed_is place is.message loaded is.here) ∙ live_without loaded place is.message is.here

-- as many after a relink
pub live_relinked : (plan : List Links) (loaded : Loaded) → live_messages (after (Relinked plan) loaded) ≡ live_messages loaded
live_relinked plan loaded = links_keep_live plan loaded

-- one live slot more or none
abbrev one_live : LoadedSlot → ℕ
one_live slot = cond (is_live_slot slot) 1 0

-- a pack leaves as many live slots
live_kept : (live : List Linkable) (number header_at text_at : ℕ) (slots : List LoadedSlot)
    → sum_by one_live (packed_from live number header_at text_at slots) ≡ sum_by one_live slots
live_kept live number header_at text_at [] = refl
live_kept live number header_at text_at (Empty ∷ slots) =
    let rest = live_kept live (number + 1) header_at text_at slots in
    omega (arith, sum_by-cons one_live Empty slots, sum_by-cons one_live Empty (packed_from live (number + 1) header_at text_at slots))
live_kept live number header_at text_at (Killed at ∷ slots) =
    let rest = live_kept live (number + 1) header_at text_at slots in
    omega (arith, sum_by-cons one_live (Killed at) slots, sum_by-cons one_live Empty (packed_from live (number + 1) header_at text_at slots))
live_kept live number header_at text_at (Live message ∷ slots) =
    let after : List LoadedSlot = packed_from live (number + 1) (header_at + header_size message) (text_at + message.text_len) slots in
    let rest = live_kept live (number + 1) (header_at + header_size message) (text_at + message.text_len) slots in
    let there : LoadedMessage = moved (links_of live (loaded_linkable number message)) header_at text_at message in
    omega (arith, sum_by-cons one_live (Live message) slots, sum_by-cons one_live (Live there) after)

-- as many after a pack
pub live_packed : (plan : List Links) (base : ℕ) (loaded : Loaded) → live_messages (after (Packed plan base) loaded) ≡ live_messages loaded
live_packed plan base loaded =
    live_of_state [] (packed loaded).slots
    ∙ live_kept (linkables_from loaded.base loaded.slots) (new_base loaded) 1024 0 (kept_slots loaded)
    ∙ sum_of_kept one_live refl (λ at. refl) loaded ∙ sym (live_of_state [] loaded.slots)
