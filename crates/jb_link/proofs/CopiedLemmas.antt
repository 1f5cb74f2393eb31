-- The id that is copied into an answer, and the parent of an answer behind all others: those of the state that is loaded.
use Rattle.std.proofs.Common.{◌≡◌, ℕ, ◌+◌, ◌-◌, nat_lt, Bool, true, false, cond, List, [], Option, Some, None, length, slice_get, refl, ◌∙◌, ap}
use Rattle.std.specs.Prelude.{option_and_then, option_map}
use Rattle.std.proofs.lemmas.Option.{slice_get-map}
use Rattle.std.proofs.lemmas.List.{length-map}
use Rattle.jb_state.specs.Links.{Linkable, parent_for}
use Rattle.jb_state.specs.Live.{live_of}
use Rattle.jb_state.specs.Message.{msgid_of}
use Rattle.jb_state.specs.Posted.{if_copied, posted_parent, posted_replyid}
use Rattle.jb_state.specs.State.{LiveMessage, next_number, slot_state, state_of}
use Rattle.jb_state.specs.declared.loaded.Loaded.{Loaded}
use Rattle.jb_state.specs.declared.loaded.LoadedMessage.{LoadedMessage}
use Rattle.jb_state.specs.declared.loaded.LoadedSlot.{LoadedSlot}
use Rattle.jb_state.specs.declared.loaded.LoadedSlot.TheVariants.{Empty, Killed, Live}
use Rattle.jb_link.specs.Parents.{copied_msgid, parent_behind}
use Rattle.jb_state.specs.LiveSlots.{linkables, message_in}
use Rattle.jb_link.proofs.LiveLemmas.{linkables_with_texts}

-- the MSGID that is copied, of the area as it is loaded
pub copied_of_state : (texts : List ℕ) (loaded : Loaded) (number : ℕ) → posted_replyid (state_of texts loaded) number ≡ copied_msgid loaded number
copied_of_state texts loaded number =
    ap (λ slot. option_and_then if_copied (option_and_then (λ (answered : LiveMessage). msgid_of answered.subfields) (cond (nat_lt number loaded.base) None (live_of slot))))
    (slice_get-map (slot_state texts) loaded.slots (number - loaded.base))
    ∙ by (nat_lt number loaded.base) (slice_get loaded.slots (number - loaded.base))
  where
    by : (below : Bool) (slot : Option LoadedSlot)
        → option_and_then if_copied (option_and_then (λ (answered : LiveMessage). msgid_of answered.subfields) (cond below None (live_of (option_map (slot_state texts) slot))))
        ≡ option_and_then if_copied (option_and_then (λ (answered : LoadedMessage). msgid_of answered.subfields) (cond below None (message_in slot)))
    by true slot = refl
    by false None = refl
    by false (Some Empty) = refl
    by false (Some (Killed header_at)) = refl
    by false (Some (Live message)) = refl

-- the parent of what is posted, of the area as it is loaded
pub parent_of_state : (texts : List ℕ) (loaded : Loaded) (number : ℕ) → posted_parent (state_of texts loaded) number ≡ parent_behind loaded number
parent_of_state texts loaded number =
    ap (λ (live : List Linkable). parent_for live (next_number (state_of texts loaded)) (posted_replyid (state_of texts loaded) number) number)
    (linkables_with_texts texts loaded.base loaded.slots)
    ∙ ap (λ n. parent_for (linkables [] loaded) (loaded.base + n) (posted_replyid (state_of texts loaded) number) number) (length-map loaded.slots (slot_state texts))
    ∙ ap (λ (id : Option (List ℕ)). parent_for (linkables [] loaded) (loaded.base + length loaded.slots) id number) (copied_of_state texts loaded number)
