-- What keeps each header of an area in its place, and its number.
use Rattle.std.proofs.Common.{◌≡◌, inl, inr, ℕ, suc, zero, ◌≤◌, List, [], ◌∷◌, ◌++◌, length, slice_get, slice_set, Some, None, refl, sym, ◌∙◌, subst, arith}
use Rattle.std.proofs.lemmas.Option.{slice_get_within}
use Rattle.jb_change.specs.Headers.{Updates, UpdatesBut}
use Rattle.jb_change.specs.Post.{HasNumber}
use Rattle.jb_change.specs.Put.{IsMoved}
use Rattle.jb_disk.specs.Files.{Files}
use Rattle.jb_disk.specs.RedoView.{RedoView}
use Rattle.jb_image.specs.Stands.{Loads}
use Rattle.jb_state.proofs.EditLaws.{get_set_same}
use Rattle.jb_state.specs.declared.change.Change.{Change}
use Rattle.jb_state.specs.declared.change.Change.TheVariants.{Nothing}
use Rattle.jb_state.specs.declared.loaded.Loaded.{Loaded}
use Rattle.jb_state.specs.declared.loaded.LoadedMessage.{LoadedMessage}
use Rattle.jb_state.specs.declared.loaded.LoadedSlot.{LoadedSlot}
use Rattle.jb_state.specs.declared.loaded.LoadedSlot.TheVariants.{Live}
use Rattle.jb_model.specs.declared.reply.Reply.{Reply}
use Rattle.jb_redo.specs.Changes.{changed}
use Rattle.jb_decide.specs.Headers.{KeepsHeaders, NamesWritten, StandsBehind}

-- the slot that is put behind the others is the one that is more
last_behind : (slots : List LoadedSlot) (p : ℕ) (slot other : LoadedSlot) → length slots ≤ p → slice_get (slots ++ slot ∷ []) p ≡ Some other → other ≡ slot
last_behind [] zero slot other past is = some_slot other slot (sym is)
  where
    some_slot : (a b : LoadedSlot) → Some a ≡ Some b → a ≡ b
    some_slot a b same = cc
last_behind [] (suc p) slot other past is = absurd (none_slot other is)
  where
    none_slot : (a : LoadedSlot) → None ≡ Some a → ⊥
    none_slot a same = cc
last_behind (first ∷ slots) zero slot other past is = absurd (omega (arith, past))
last_behind (first ∷ slots) (suc p) slot other past is = last_behind slots p slot other (omega (arith, past)) is

-- the message that is put behind the others is the one that is more
pub last_message : (slots : List LoadedSlot) (p : ℕ) (message other : LoadedMessage) → length slots ≤ p → slice_get (slots ++ Live message ∷ []) p ≡ Some (Live other) → other ≡ message
last_message slots p message other past is = live_same other message (last_behind slots p (Live message) (Live other) past is)
  where
    live_same : (a b : LoadedMessage) → Live a ≡ Live b → a ≡ b
    live_same a b same = cc

-- the message that is put in the place of another is the one that stands there then
pub message_set : (slots : List LoadedSlot) (place : ℕ) (message was other : LoadedMessage) → slice_get slots place ≡ Some (Live was)
    → slice_get (slice_set slots place (Live message)) place ≡ Some (Live other) → other ≡ message
message_set slots place message was other here is = live_same other message (sym is ∙ get_set_same slots place (Live message) (Live was) here)
  where
    live_same : (a b : LoadedMessage) → Some (Live a) ≡ Some (Live b) → a ≡ b
    live_same a b same = cc

-- what moves no header moves none but some
pub moves_none : (moved : ℕ → Type 0) (redo : RedoView) (from to : Loaded) (text : List ℕ) → Updates redo from to text → UpdatesBut moved redo from to text
moves_none moved redo from to text updates = record {
  makes = updates.makes;
  places = λ place at stays is. updates.places place at is;
  numbers = λ files loads place at stays is. updates.numbers files loads place at is;
}

-- a message at the ends of the files, whose number the reply names, stands behind the others
pub stands_behind : (reply : Reply) (from : Loaded) (message other : LoadedMessage) (number : ℕ) (redo : RedoView) (files : Files) → other ≡ message
    → message.header_at ≡ from.headers_len → message.text_at ≡ from.texts_len → HasNumber number redo from message → NamesWritten reply number → Loads from files
    → StandsBehind reply other files (changed redo files)
stands_behind reply from message other number redo files same header_at text_at numbered names loads =
    subst (λ (m : LoadedMessage). StandsBehind reply m files (changed redo files)) (sym same) (record {
      header_at = header_at ∙ loads.headers_len;
      text_at = text_at ∙ loads.texts_len;
      numbered = subst (NamesWritten reply) (sym (numbered files loads)) names;
    })

-- where no header is moved and there are no more slots than before, what updates the area keeps its headers
pub keeps_headers : (reply : Reply) (change : Change) (redo : RedoView) (from to : Loaded) (text : List ℕ) → UpdatesBut (IsMoved change) redo from to text
    → ((place : ℕ) → IsMoved change place → ⊥) → length to.slots ≡ length from.slots → (files : Files) → Loads from files
    → KeepsHeaders change reply from to files (changed redo files)
keeps_headers reply change redo from to text updates none as_many files loads = record {
  places = updates.places;
  numbers = updates.numbers files loads;
  behind = λ place message there here. elim there [
    | inl moved ↦ absurd (none place moved)
    | inr past ↦ (let within = slice_get_within to.slots place _ here in absurd (omega (arith, past, within, as_many)))
  ];
}

-- so does nothing
pub keeps_all : (reply : Reply) (from : Loaded) (files : Files) → KeepsHeaders Nothing reply from from files files
keeps_all reply from files = record {
  places = λ place at stays is. is;
  numbers = λ place at stays is. refl;
  behind = λ place message there here. elim there [
    | inl moved ↦ absurd moved
    | inr past ↦ (let within = slice_get_within from.slots place _ here in absurd (omega (arith, past, within)))
  ];
}
