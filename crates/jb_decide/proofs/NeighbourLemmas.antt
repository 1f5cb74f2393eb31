-- The neighbour of a new message.
use Rattle.std.proofs.Common.{◌≡◌, ℕ, ◌-◌, List, set, map, Option, Some, None, refl, sym, ◌∙◌, ap, subst, bit_and}
use Rattle.std.specs.Option.{option_map}
use Rattle.jb_base.specs.declared.attribute.TheConstants.{DELETED}
use Rattle.jb_state.specs.Plan.{loaded_at}
use Rattle.jb_link.specs.Splice.{IsSplice}
use Rattle.jb_link.specs.declared.splicing.Spliced.TheVariants.{None as Nothing}
use Rattle.jb_state.specs.Live.{message_at}
use Rattle.jb_state.specs.Loaded.{IsMessageAt, with_head_at}
use Rattle.jb_state.specs.Posted.{slots_with, spliced_slots}
use Rattle.jb_state.specs.Sound.{IsSound}
use Rattle.jb_state.specs.State.{LiveMessage, live_message, slot_state, state_of, with_text}
use Rattle.jb_state.specs.declared.loaded.Loaded.{Loaded}
use Rattle.jb_state.specs.declared.loaded.LoadedMessage.{LoadedMessage}
use Rattle.jb_state.specs.declared.loaded.LoadedSlot.TheVariants.{Live}
use Rattle.jb_state.specs.declared.message.Head.{Head}
use Rattle.jb_decide.specs.Neighbour.{HasNeighbour, neighbour_at}
use Rattle.jb_state.proofs.PlaceLaws.{headed_is}
use Rattle.jb_state.specs.Change.{headed}
use Rattle.jb_decide.specs.Seen.{IsNamed, with_head}
use Rattle.jb_state.specs.declared.change.HeadAt.{HeadAt}
use Rattle.jb_decide.proofs.SoundLemmas.{slot_within, sound_after_set}
use Rattle.jb_decide.proofs.StateLemmas.{message_at_loaded, state_with_slot, with_slots}
use Rattle.jb_link.proofs.AreaLemmas.{named_is_in}

-- a message that a number names stands at its place
pub named_at_place : (loaded : Loaded) (number : ℕ) (message : LoadedMessage) → loaded_at loaded number ≡ Some message → IsNamed loaded number (number - loaded.base) message
named_at_place loaded number message is = let found = named_is_in loaded number message is in record { low = found.low; placed = refl; here = found.at }

-- another header without a bit that says that the message is killed keeps the area sound
pub sound_with_head : (limit : ℕ) (loaded : Loaded) (place : ℕ) (head : Head) (message : LoadedMessage) → IsMessageAt loaded place message
    → head.attribute ≡ message.head.attribute → IsSound limit loaded → IsSound limit (with_head_at place head message loaded)
sound_with_head limit loaded place head message here same sound =
    let fits = slot_within limit loaded place (Live message) here sound in
    sound_after_set limit loaded place (Live message) (Live (with_head head message)) here (λ i covered. covered)
    (record { live = ap (λ a. bit_and a DELETED) same ∙ fits.live; few_bytes = fits.few_bytes; header = fits.header; text = fits.text })
    sound

-- a message without a parent has no neighbour
pub no_neighbour : (loaded : Loaded) (parent number : ℕ) → ((texts : List ℕ) → IsSplice (state_of texts loaded) parent Nothing)
    → HasNeighbour loaded parent number None
no_neighbour loaded parent number splices = record {
  fits = tt;
  spliced = λ texts. ap (with_slots (state_of texts loaded)) (sym (splices texts number));
  sound = λ limit sound. sound;
}

-- the one neighbour, with its header changed
pub one_neighbour : (loaded : Loaded) (parent number of : ℕ) (change : Head → Head) (with_change : LiveMessage → LiveMessage) (neighbour : Option HeadAt)
    → ((texts : List ℕ) (message : LoadedMessage) → with_change (with_text texts message) ≡ with_text texts (with_head (change message.head) message))
    → ((head : Head) → change head ≡ record head { reply_first = (change head).reply_first; reply_next = (change head).reply_next })
    → neighbour ≡ neighbour_at loaded of change
    → ((texts : List ℕ) → spliced_slots (state_of texts loaded) parent number ≡ slots_with (state_of texts loaded) of (option_map with_change (message_at (state_of texts loaded) of)))
    → HasNeighbour loaded parent number neighbour
one_neighbour loaded parent number of change with_change neighbour same kept is splices = by_found (loaded_at loaded of) refl
  where
    by_found : (found : Option LoadedMessage) → loaded_at loaded of ≡ found → HasNeighbour loaded parent number neighbour
    by_found None at =
        let none : neighbour ≡ None = is ∙ ap (option_map (λ (message : LoadedMessage). let one : HeadAt = record { place = of - loaded.base; head = change message.head } in one)) at in
        let P : Option HeadAt → Type 0 = HasNeighbour loaded parent number in
        subst P (sym none) (record {
          fits = tt;
          spliced = λ texts. ap (with_slots (state_of texts loaded))
              (sym (splices texts ∙ ap (λ o. slots_with (state_of texts loaded) of (option_map with_change o)) (message_at_loaded texts loaded of ∙ ap (option_map (with_text texts)) at)));
          sound = λ limit sound. sound;
        })
    by_found (Some message) at =
        let named : IsNamed loaded of (of - loaded.base) message = named_at_place loaded of message at in
        let head : Head = change message.head in
        let one : HeadAt = record { place = of - loaded.base; head = head } in
        let some : neighbour ≡ Some one =
        is ∙ ap (option_map (λ (m : LoadedMessage). let one : HeadAt = record { place = of - loaded.base; head = change m.head } in one)) at in
        let there : headed one loaded ≡ with_head_at (of - loaded.base) head message loaded = headed_is one message loaded named.here in
        let P : Option HeadAt → Type 0 = HasNeighbour loaded parent number in
        subst P (sym some) (record {
          fits = record { message = message; here = named.here; same = kept message.head };
          spliced = λ texts.
              ap (state_of texts) there
              ∙ state_with_slot texts loaded of (of - loaded.base) (Live (with_head head message)) refl
              ∙ ap (with_slots (state_of texts loaded))
              (ap (λ m. set (map (slot_state texts) loaded.slots) (of - loaded.base) (live_message m)) (sym (same texts message))
              ∙ sym (splices texts ∙ ap (λ o. slots_with (state_of texts loaded) of (option_map with_change o)) (message_at_loaded texts loaded of ∙ ap (option_map (with_text texts)) at)));
          sound = λ limit sound. subst (IsSound limit) (sym there)
              (sound_with_head limit loaded (of - loaded.base) head message named.here (ap (λ (h : Head). h.attribute) (kept message.head)) sound);
        })
