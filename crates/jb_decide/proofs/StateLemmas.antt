-- The state that a loaded area is the form of: its messages by number, and its slots after a change.
use Rattle.std.proofs.Common.{◌≡◌, ℕ, ◌-◌, Bool, true, false, cond, nat_lt, List, map, set, slice_get, Option, Some, None, refl, ◌∙◌, ap}
use Rattle.std.specs.Option.{option_map}
use Rattle.std.proofs.lemmas.List.{map-set}
use Rattle.std.proofs.lemmas.Option.{slice_get-map}
use Rattle.jb_base.specs.Access.{is_visible}
use Rattle.jb_base.specs.declared.area.AreaRules.{AreaRules}
use Rattle.jb_base.specs.declared.area.Rule.{Rule}
use Rattle.jb_base.specs.declared.user.User.{User}
use Rattle.jb_state.specs.Plan.{loaded_at}
use Rattle.jb_state.specs.LiveSlots.{message_in}
use Rattle.jb_model.specs.Answered.{Answered, unless_denied, unless_refused, with_message}
use Rattle.jb_state.specs.Live.{live_of, message_at, with_slot}
use Rattle.jb_state.specs.Loaded.{with_slot_at}
use Rattle.jb_state.specs.State.{AreaState, LiveMessage, SlotState, slot_state, state_of, with_text}
use Rattle.jb_state.specs.Visible.{if_shown, visible_at}
use Rattle.jb_state.specs.declared.loaded.Loaded.{Loaded}
use Rattle.jb_state.specs.declared.loaded.LoadedMessage.{LoadedMessage}
use Rattle.jb_state.specs.declared.loaded.LoadedSlot.{LoadedSlot}
use Rattle.jb_state.specs.declared.loaded.LoadedSlot.TheVariants.{Empty, Killed, Live}
use Rattle.jb_model.specs.declared.reply.Reply.{Reply}
use Rattle.jb_model.specs.declared.reply.Reply.TheVariants.{Denied, NoMessage}
use Rattle.jb_decide.specs.Seen.{if_seen, loaded_envelope, seen_at}

-- the live message of a slot, with its text or without
live_with_text : (texts : List ℕ) (below : Bool) (slot : Option LoadedSlot)
    → cond below None (live_of (option_map (slot_state texts) slot)) ≡ option_map (with_text texts) (cond below None (message_in slot))
live_with_text texts true slot = refl
live_with_text texts false None = refl
live_with_text texts false (Some Empty) = refl
live_with_text texts false (Some (Killed header_at)) = refl
live_with_text texts false (Some (Live message)) = refl

-- the message that a number names
pub message_at_loaded : (texts : List ℕ) (loaded : Loaded) (number : ℕ)
    → message_at (state_of texts loaded) number ≡ option_map (with_text texts) (loaded_at loaded number)
message_at_loaded texts loaded number =
    ap (λ slot. cond (nat_lt number loaded.base) None (live_of slot)) (slice_get-map (slot_state texts) loaded.slots (number - loaded.base))
    ∙ live_with_text texts (nat_lt number loaded.base) (slice_get loaded.slots (number - loaded.base))

-- a message that is seen, with its text or without
shown_with_text : (texts : List ℕ) (rules : AreaRules) (user : User) (found : Option LoadedMessage)
    → if_shown rules user (option_map (with_text texts) found) ≡ option_map (with_text texts) (if_seen rules user found)
shown_with_text texts rules user None = refl
shown_with_text texts rules user (Some message) = seen (is_visible user rules (loaded_envelope message))
  where
    seen : (visible : Bool) → cond visible (Some (with_text texts message)) None ≡ option_map (with_text texts) (cond visible (Some message) None)
    seen true = refl
    seen false = refl

-- the message that a number names, where the user sees it
pub visible_at_loaded : (texts : List ℕ) (rules : AreaRules) (user : User) (loaded : Loaded) (number : ℕ)
    → visible_at rules user (state_of texts loaded) number ≡ option_map (with_text texts) (seen_at rules user loaded number)
visible_at_loaded texts rules user loaded number =
    ap (if_shown rules user) (message_at_loaded texts loaded number) ∙ shown_with_text texts rules user (loaded_at loaded number)

-- the message is visible that was found and seen
pub visible_found : (texts : List ℕ) (rules : AreaRules) (user : User) (loaded : Loaded) (number : ℕ) (message : LoadedMessage)
    → seen_at rules user loaded number ≡ Some message → visible_at rules user (state_of texts loaded) number ≡ Some (with_text texts message)
visible_found texts rules user loaded number message found =
    visible_at_loaded texts rules user loaded number ∙ ap (option_map (with_text texts)) found

-- none is visible where none was seen
pub visible_none : (texts : List ℕ) (rules : AreaRules) (user : User) (loaded : Loaded) (number : ℕ)
    → seen_at rules user loaded number ≡ None → visible_at rules user (state_of texts loaded) number ≡ None
visible_none texts rules user loaded number found =
    visible_at_loaded texts rules user loaded number ∙ ap (option_map (with_text texts)) found

-- the state with other slots
abbrev pub with_slots : AreaState → List SlotState → AreaState
with_slots state slots = record state { slots = slots }

-- the state with another slot at the place of a number
pub state_with_slot : (texts : List ℕ) (loaded : Loaded) (number place : ℕ) (slot : LoadedSlot) → place ≡ number - loaded.base
    → state_of texts (with_slot_at place slot loaded) ≡ with_slot (state_of texts loaded) number (slot_state texts slot)
state_with_slot texts loaded number place slot placed =
    ap (with_slots (state_of texts loaded))
    (map-set (slot_state texts) loaded.slots place slot ∙ ap (λ k. set (map (slot_state texts) loaded.slots) k (slot_state texts slot)) placed)

-- a reply and a state
abbrev pub answer : Reply → AreaState → Answered
answer reply state = record { reply = reply; state = state }

-- a denial ends a command
pub denied_way : (state : AreaState) (found : Option Rule) (rule : Rule) (rest : Answered) → found ≡ Some rule → unless_denied state found rest ≡ answer (Denied rule) state
denied_way state found rule rest is = ap (λ r. unless_denied state r rest) is

-- no denial goes on
pub allowed_way : (state : AreaState) (found : Option Rule) (rest : Answered) → found ≡ None → unless_denied state found rest ≡ rest
allowed_way state found rest is = ap (λ r. unless_denied state r rest) is

-- a refusal ends a command
pub refused_way : (state : AreaState) (found : Option Reply) (reply : Reply) (rest : Answered) → found ≡ Some reply → unless_refused state found rest ≡ answer reply state
refused_way state found reply rest is = ap (λ r. unless_refused state r rest) is

-- no refusal goes on
pub accepted_way : (state : AreaState) (found : Option Reply) (rest : Answered) → found ≡ None → unless_refused state found rest ≡ rest
accepted_way state found rest is = ap (λ r. unless_refused state r rest) is

-- no message ends a command
pub none_way : (state : AreaState) (number : ℕ) (found : Option LiveMessage) (act : LiveMessage → Answered) → found ≡ None → with_message state number found act ≡ answer (NoMessage number) state
none_way state number found act is = ap (λ o. with_message state number o act) is

-- a message goes on
pub message_way : (state : AreaState) (number : ℕ) (found : Option LiveMessage) (message : LiveMessage) (act : LiveMessage → Answered) → found ≡ Some message → with_message state number found act ≡ act message
message_way state number found message act is = ap (λ o. with_message state number o act) is
