-- What keeps each header of an area in its place, and its number.
use Rattle.std.proofs.Common.{◌≡◌, ◌≢◌, inl, inr, ℕ, zero, suc, ◌+◌, ◌*◌, ◌<◌, ◌≤◌, List, [], ◌∷◌, ◌++◌, length, drop, get_or, set, slice_get, None, Some, ap, sym, refl, ◌∙◌, subst, arith}
use Rattle.std.specs.Prelude.{AllPairs, option_and_then, slice_set}
use Rattle.std.proofs.lemmas.Bool.{cases_eq, cases_lt}
use Rattle.std.proofs.lemmas.List.{take-append-drop}
use Rattle.jb_change.proofs.ByteLemmas.{bytes_kept}
use Rattle.jb_change.proofs.EndLemmas.{below_end, same_length}
use Rattle.jb_change.specs.Behind.{AppendsOnly}
use Rattle.jb_change.specs.Changing.{ChangesArea, ChangesHead, ChangesHeader, ChangesMark, ChangesMessage, WritesOnly, head_with_links, head_with_reading, header_with_attribute, header_with_links, header_with_reading}
use Rattle.jb_change.specs.Makes.{Makes}
use Rattle.jb_redo.specs.Changes.{changed}
use Rattle.jb_disk.specs.RedoView.{RedoView}
use Rattle.jb_disk.specs.Files.{Files, file_number}
use Rattle.jb_disk.specs.Steps.{Torn}
use Rattle.jb_disk.specs.declared.file.FileId.{FileId}
use Rattle.jb_disk.specs.declared.file.FileId.TheVariants.{Jhr, Jlr}
use Rattle.jb_disk.specs.declared.piece.Length.{Length}
use Rattle.jb_disk.specs.declared.piece.Piece.{Piece}
use Rattle.jb_image.specs.Places.{bytes_at, entry_in, header_in}
use Rattle.jb_image.specs.Stands.{HasHeader, HasSlot, Loads}
use Rattle.jb_state.specs.Loaded.{IsMessageAt, with_counts, with_head_at, with_killed_at, with_marks, with_message_behind, with_slot_at}
use Rattle.jb_state.specs.Sound.{AreApart, Covers}
use Rattle.jb_state.specs.declared.loaded.Loaded.{Loaded}
use Rattle.jb_state.specs.declared.loaded.LoadedMessage.{LoadedMessage}
use Rattle.jb_state.specs.declared.loaded.LoadedSlot.{LoadedSlot}
use Rattle.jb_state.specs.declared.loaded.LoadedSlot.TheVariants.{Empty, Killed, Live}
use Rattle.jb_state.specs.declared.mark.Mark.{Mark}
use Rattle.jb_state.specs.declared.message.Head.{Head}
use Rattle.jb_record.specs.Message.{message_header_of}
use Rattle.jb_record.specs.declared.index.IndexRecord.{IndexRecord}
use Rattle.jb_record.specs.declared.message.MessageHeader.{MessageHeader}
use Rattle.jb_redo.specs.Replay.{applied}
use Rattle.jb_change.specs.Headers.{KeepsNumbers, Updates, UpdatesBut, header_place, header_place_at}
use Rattle.jb_change.specs.Ready.{IsCleared, IsEmptied, IsReadyFor}
use Rattle.jb_change.proofs.PieceLemmas.{only_wider}

-- no place is that of a header
no_place : (at : ℕ) → None ≡ Some at → ⊥
no_place at is = cc

-- one place
one_place : (one other : ℕ) → Some one ≡ Some other → one ≡ other
one_place one other is = cc

-- a slot put in the place of one whose header stands there too
places_set : (slots : List LoadedSlot) (place p : ℕ) (slot : LoadedSlot) → option_and_then header_place (slice_get slots place) ≡ header_place slot
    → option_and_then header_place (slice_get (set slots place slot) p) ≡ option_and_then header_place (slice_get slots p)
places_set [] place p slot same = refl
places_set (first ∷ slots) zero zero slot same = sym same
places_set (first ∷ slots) zero (suc p) slot same = refl
places_set (first ∷ slots) (suc place) zero slot same = refl
places_set (first ∷ slots) (suc place) (suc p) slot same = places_set slots place p slot same

-- a slot put behind the others
places_behind : (slots : List LoadedSlot) (p at : ℕ) (slot : LoadedSlot) → option_and_then header_place (slice_get slots p) ≡ Some at
    → option_and_then header_place (slice_get (slots ++ slot ∷ []) p) ≡ Some at
places_behind [] zero at slot is = absurd (no_place at is)
places_behind [] (suc p) at slot is = absurd (no_place at is)
places_behind (first ∷ slots) zero at slot is = is
places_behind (first ∷ slots) (suc p) at slot is = places_behind slots p at slot is

-- a slot with a header takes its bytes
slot_covers : (slot : LoadedSlot) (at i : ℕ) → header_place slot ≡ Some at → at ≤ i → i < at + 76 → Covers slot i
slot_covers Empty at i is low high = no_place at is
slot_covers (Killed header_at) at i is low high = let same = one_place header_at at is in (omega (arith, same, low), omega (arith, same, high))
slot_covers (Live message) at i is low high = let same = one_place message.header_at at is in (omega (arith, same, low), omega (arith, same, high))

-- so there is a slot
place_within : (slots : List LoadedSlot) (p at : ℕ) → option_and_then header_place (slice_get slots p) ≡ Some at → p < length slots
place_within [] zero at is = absurd (no_place at is)
place_within [] (suc p) at is = absurd (no_place at is)
place_within (first ∷ slots) zero at is = omega arith
place_within (first ∷ slots) (suc p) at is = let low = place_within slots p at is in omega (arith, low)

-- and this is its header
place_of : (slots : List LoadedSlot) (p at : ℕ) (d : LoadedSlot) → option_and_then header_place (slice_get slots p) ≡ Some at → header_place (get_or slots p d) ≡ Some at
place_of [] zero at d is = absurd (no_place at is)
place_of [] (suc p) at d is = absurd (no_place at is)
place_of (first ∷ slots) zero at d is = is
place_of (first ∷ slots) (suc p) at d is = place_of slots p at d is

-- a header that an index record names stands in the files
slot_header : (files : Files) (entry : IndexRecord) (slot : LoadedSlot) (at : ℕ) → header_place slot ≡ Some at → HasSlot files entry slot → HasHeader files at
slot_header files entry Empty at is has = absurd (no_place at is)
slot_header files entry (Killed header_at) at is has = subst (HasHeader files) (one_place header_at at is) has.1.header
slot_header files entry (Live message) at is has = subst (HasHeader files) (one_place message.header_at at is) has.2.header

-- each header of an area stands in its files
pub header_there : (files : Files) (loaded : Loaded) (place at : ℕ) → Loads loaded files → header_place_at loaded place ≡ Some at → HasHeader files at
header_there files loaded place at loads is =
    slot_header files (entry_in files place) (get_or loaded.slots place Empty) at (place_of loaded.slots place at Empty is)
    (loads.slots place Empty (place_within loaded.slots place at is))

-- the headers of two slots lie apart
places_apart : (slots : List LoadedSlot) (p q one other i : ℕ) → AllPairs AreApart slots → p ≢ q → option_and_then header_place (slice_get slots p) ≡ Some one
    → option_and_then header_place (slice_get slots q) ≡ Some other → one ≤ i → i < one + 76 → other ≤ i → i < other + 76 → ⊥
places_apart slots p q one other i apart different first second a b c d =
    let low = place_within slots p one first in
    let high = place_within slots q other second in
    let here = slot_covers (get_or slots p Empty) one i (place_of slots p one Empty first) a b in
    let there = slot_covers (get_or slots q Empty) other i (place_of slots q other Empty second) c d in
    elim (cases_lt p q) [
      | inl before ↦ apart p q Empty before high i here there
      | inr behind ↦ apart q p Empty (omega (arith, behind, different)) low i there here
    ]

-- the number of a header that has no place in the range of a write is as it was
number_kept : (at len from : ℕ) (old new : Files) → Torn at len (old Jhr) (new Jhr) → ((i : ℕ) → from ≤ i → i < from + 76 → at ≤ i → i < at + len → ⊥)
    → (header_in new from).number ≡ (header_in old from).number
number_kept at len from old new torn apart = ap (λ (b : List ℕ). (message_header_of b).number) (bytes_kept at len from 76 (old Jhr) (new Jhr) torn apart)

-- a change in the header of one message
module _ (old new : RedoView) (at : ℕ) (act : MessageHeader → MessageHeader) (same : (header : MessageHeader) → (act header).number ≡ header.number)
    (changes : ChangesHeader old new at act) (only : WritesOnly old new Jhr at 76) where
  -- keeps the numbers of the area that was made
  numbers_put : (files : Files) (to : Loaded) (place : ℕ) → Loads to (changed old files) → header_place_at to place ≡ Some at → KeepsNumbers to (changed old files) (changed new files)
  numbers_put files to place loads here p from is =
      let has = header_there (changed old files) to place at loads here in
      let room : at + 76 ≤ length (changed old files Jhr) = has.placed.inside in
      elim (cases_eq p place) [
        | inl one ↦
            let own : from ≡ at = one_place from at (sym is ∙ ap (header_place_at to) one ∙ here) in
            ap (λ (n : ℕ). (header_in (changed new files) n).number) own
            ∙ ap (λ (h : MessageHeader). h.number) (changes files room) ∙ same (header_in (changed old files) at)
            ∙ ap (λ (n : ℕ). (header_in (changed old files) n).number) (sym own)
        | inr other ↦ number_kept at 76 from (changed old files) (changed new files) (only files room).here
            (λ i a b c d. places_apart to.slots p place from at i loads.apart other is here a b c d)
      ]

  -- and updates the area, where its slot has the header in its place
  updates_slot : (from to : Loaded) (text : List ℕ) (place : ℕ) (message : LoadedMessage) (slot : LoadedSlot) → Updates old from to text → IsMessageAt to place message → message.header_at ≡ at
      → header_place slot ≡ Some at → Makes new from (with_slot_at place slot to) text → Updates new from (with_slot_at place slot to) text
  updates_slot from to text place message slot was there is stands makes =
      let here : header_place_at to place ≡ Some at = ap (option_and_then header_place) there ∙ ap (λ (n : ℕ). Some n) is in
      record {
        makes = makes;
        places = λ p other own. places_set to.slots place p slot (here ∙ sym stands) ∙ was.places p other own;
        numbers = λ files loads p other own.
            numbers_put files to place (was.makes.made files loads).loads here p other (was.places p other own) ∙ was.numbers files loads p other own;
      }

-- the counts keep the numbers
pub numbers_counted : (old new : RedoView) → WritesOnly old new Jhr 8 8 → (files : Files) (to : Loaded) → Loads to (changed old files) → KeepsNumbers to (changed old files) (changed new files)
numbers_counted old new only files to loads p at is =
    let has = header_there (changed old files) to p at loads is in
    let after = has.placed.after in
    let inside = has.placed.inside in
    number_kept 8 8 at (changed old files) (changed new files) (only files (omega (arith, after, inside))).here (λ i a b c d. omega (arith, after, a, d))

-- and update the area
pub updates_counted : (old new : RedoView) (counter active : ℕ) → ChangesArea old new (with_counts counter active) → WritesOnly old new Jhr 8 8
    → (from to : Loaded) (text : List ℕ) → Updates old from to text → Updates new from (with_counts counter active to) text
updates_counted old new counter active changes only from to text was = record {
  makes = changes from to text was.makes;
  places = was.places;
  numbers = λ files loads p at is. numbers_counted old new only files to (was.makes.made files loads).loads p at (was.places p at is) ∙ was.numbers files loads p at is;
}

-- what is only put behind files keeps the numbers
pub numbers_behind : (change : RedoView) (loaded : Loaded) → AppendsOnly change loaded → (files : Files) → Loads loaded files → KeepsNumbers loaded files (changed change files)
numbers_behind change loaded appends files loads p at is =
    let has = header_there files loaded p at loads is in
    let old : List ℕ = files Jhr in
    let new : List ℕ = changed change files Jhr in
    let whole : new ≡ old ++ drop (length old) new = sym (take-append-drop (length old) new) ∙ ap (λ (l : List ℕ). l ++ drop (length old) new) (appends files loads Jhr) in
    ap (λ (b : List ℕ). (message_header_of b).number) (below_end old new (drop (length old) new) at 76 whole has.placed.inside)

-- a write into another file keeps them
pub numbers_beside : (old new : RedoView) (at len : ℕ) → WritesOnly old new Jlr at len → (files : Files) → at + len ≤ length (changed old files Jlr) → (loaded : Loaded)
    → KeepsNumbers loaded (changed old files) (changed new files)
numbers_beside old new at len only files room loaded p from is =
    ap (λ (b : List ℕ). (message_header_of (bytes_at from 76 b)).number) ((only files room).others Jhr (λ same. let number = ap file_number same in omega (arith, number)))

-- a change of nothing leaves each file
pub file_left : (change : RedoView) (files : Files) (file : FileId) → change.lengths ≡ [] → change.pieces ≡ [] → changed change files file ≡ files file
file_left change files file no_lengths no_pieces =
    ap (λ (l : List Length). applied l change.pieces files file) no_lengths ∙ ap (λ (p : List Piece). applied [] p files file) no_pieces ∙ same_length (files file)

-- and updates each area to the same one
updates_nothing : (change : RedoView) (loaded : Loaded) → change.lengths ≡ [] → change.pieces ≡ [] → Makes change loaded loaded [] → Updates change loaded loaded []
updates_nothing change loaded no_lengths no_pieces makes = record {
  makes = makes;
  places = λ p at is. is;
  numbers = λ files loads p at is. ap (λ (b : List ℕ). (message_header_of (bytes_at at 76 b)).number) (file_left change files Jhr no_lengths no_pieces);
}

-- a message behind the others
pub updates_behind : (change : RedoView) (from : Loaded) (message : LoadedMessage) (text : List ℕ) → AppendsOnly change from → Makes change from (with_message_behind message from) text
    → Updates change from (with_message_behind message from) text
updates_behind change from message text appends makes = record {
  makes = makes;
  places = λ p at is. places_behind from.slots p at (Live message) is;
  numbers = numbers_behind change from appends;
}

-- so does one that is emptied
pub updates_emptied : (redo : RedoView) (loaded : Loaded) → IsEmptied redo → Updates redo loaded loaded []
updates_emptied redo loaded emptied = updates_nothing redo loaded emptied.no_lengths emptied.no_pieces (emptied.makes loaded)

-- so does one that is cleared
pub updates_cleared : (redo : RedoView) (loaded : Loaded) → IsCleared redo → Updates redo loaded loaded []
updates_cleared redo loaded cleared = updates_nothing redo loaded cleared.no_lengths cleared.no_pieces (cleared.makes loaded)

-- and one that is ready for links
pub updates_ready : (count : ℕ) (redo : RedoView) (loaded : Loaded) → IsReadyFor count redo → Updates redo loaded loaded []
updates_ready count redo loaded ready = updates_nothing redo loaded ready.no_lengths ready.no_pieces (ready.makes loaded)

-- other links in the header of a live message update the area
pub updates_links : (old new : RedoView) (at reply_to first next : ℕ) → ChangesHead old new at (head_with_links reply_to first next) → ChangesHeader old new at (header_with_links reply_to first next)
    → WritesOnly old new Jhr (at + 24) 12 → (from to : Loaded) (text : List ℕ) (place : ℕ) (message : LoadedMessage) → Updates old from to text → IsMessageAt to place message → message.header_at ≡ at
    → Updates new from (with_head_at place (head_with_links reply_to first next message.head) message to) text
updates_links old new at reply_to first next makes header only from to text place message was here is =
    updates_slot old new at (header_with_links reply_to first next) (λ h. refl) header (only_wider Jhr (at + 24) 12 at 76 old new (omega arith) (omega arith) only) from to text place message (Live (record message { head = head_with_links reply_to first next message.head })) was here is
    (ap (λ (n : ℕ). Some n) is) (makes from to text place message was.makes here is)

-- and they keep the numbers
pub numbers_linked : (old new : RedoView) (at reply_to first next : ℕ) → ChangesHeader old new at (header_with_links reply_to first next) → WritesOnly old new Jhr (at + 24) 12
    → (files : Files) (to : Loaded) (place : ℕ) → Loads to (changed old files) → header_place_at to place ≡ Some at → KeepsNumbers to (changed old files) (changed new files)
numbers_linked old new at reply_to first next header only = numbers_put old new at (header_with_links reply_to first next) (λ h. refl) header (only_wider Jhr (at + 24) 12 at 76 old new (omega arith) (omega arith) only)

-- so does a reading
pub updates_reading : (old new : RedoView) (at : ℕ) (reading : Head) → ChangesHead old new at (head_with_reading reading) → ChangesHeader old new at (header_with_reading reading)
    → WritesOnly old new Jhr (at + 12) 44 → (from to : Loaded) (text : List ℕ) (place : ℕ) (message : LoadedMessage) → Updates old from to text → IsMessageAt to place message → message.header_at ≡ at
    → Updates new from (with_head_at place (head_with_reading reading message.head) message to) text
updates_reading old new at reading makes header only from to text place message was here is =
    updates_slot old new at (header_with_reading reading) (λ h. refl) header (only_wider Jhr (at + 12) 44 at 76 old new (omega arith) (omega arith) only) from to text place message (Live (record message { head = head_with_reading reading message.head })) was here is
    (ap (λ (n : ℕ). Some n) is) (makes from to text place message was.makes here is)

-- so does a kill
pub updates_kill : (old new : RedoView) (at attribute : ℕ) → ChangesMessage old new at with_killed_at → ChangesHeader old new at (header_with_attribute attribute)
    → WritesOnly old new Jhr (at + 52) 4 → (from to : Loaded) (text : List ℕ) (place : ℕ) (message : LoadedMessage) → Updates old from to text → IsMessageAt to place message → message.header_at ≡ at
    → Updates new from (with_killed_at place message to) text
updates_kill old new at attribute makes header only from to text place message was here is =
    updates_slot old new at (header_with_attribute attribute) (λ h. refl) header (only_wider Jhr (at + 52) 4 at 76 old new (omega arith) (omega arith) only) from to text place message (Killed message.header_at) was here is
    (ap (λ (n : ℕ). Some n) is) (makes from to text place message was.makes here is)

-- so does a mark in the place of another
pub updates_mark : (old new : RedoView) (place : ℕ) (mark : Mark) → ChangesMark old new place mark → WritesOnly old new Jlr (16 * place) 16
    → (from to : Loaded) (text : List ℕ) → Updates old from to text → place < length to.marks → Updates new from (with_marks (slice_set to.marks place mark) to) text
updates_mark old new place mark makes only from to text was within = record {
  makes = makes from to text was.makes within;
  places = was.places;
  numbers = λ files loads p at is.
      let marks = (was.makes.made files loads).loads.lastread in
      numbers_beside old new (16 * place) 16 only files (omega (arith, marks, within)) to p at (was.places p at is) ∙ was.numbers files loads p at is;
}

-- and one behind the others
pub updates_new_mark : (change : RedoView) (from : Loaded) (marks : List Mark) → AppendsOnly change from → Makes change from (with_marks marks from) [] → Updates change from (with_marks marks from) []
updates_new_mark change from marks appends makes = record { makes = makes; places = λ p at is. is; numbers = numbers_behind change from appends }

-- what keeps each header keeps each but some
pub updates_but : (moved : ℕ → Type 0) (change : RedoView) (from to : Loaded) (text : List ℕ) → Updates change from to text → UpdatesBut moved change from to text
updates_but moved change from to text updates = record {
  makes = updates.makes;
  places = λ p at other is. updates.places p at is;
  numbers = λ files loads p at other is. updates.numbers files loads p at is;
}

-- the last slot's header
pub last_place : (slots : List LoadedSlot) (slot : LoadedSlot) → option_and_then header_place (slice_get (slots ++ slot ∷ []) (length slots)) ≡ header_place slot
last_place [] slot = refl
last_place (first ∷ slots) slot = last_place slots slot
