-- The slots of an area as they are put into the files, one after another.
use Rattle.std.proofs.Common.{◌≡◌, ℕ, cond, suc, ◌+◌, ◌-◌, ◌≤◌, ◌<◌, List, [], ◌∷◌, ◌++◌, length, drop, get_or, map, All, refl, sym, ◌∙◌, ap, subst, arith, append_assoc, length-append, length-drop}
use Rattle.std.specs.Prelude.{Bool, false}
use Rattle.std.proofs.lemmas.List.{append-nil, drop-drop, drop-map, get_or-drop, length-map}
use Rattle.std.proofs.Math.Seq.{drop-cons, drop-length}
use Rattle.std.proofs.lemmas.List.Sums.{sum_by-cons}
use Rattle.std.proofs.lemmas.List.Elements.{All-drop, All-head, All-tail}
use Rattle.jb_bytes.specs.Subfields.{subfield_bytes}
use Rattle.jb_limits.specs.declared.limits.TheConstants.{HEADERS_CEILING, MOST_SUBFIELD_BYTES, TEXTS_CEILING}
use Rattle.jb_redo.specs.Changes.{KeepsRoom}
use Rattle.jb_disk.specs.RedoView.{RedoView}
use Rattle.jb_disk.specs.declared.file.FileId.{FileId}
use Rattle.jb_disk.specs.declared.file.FileId.TheVariants.{Jhr}
use Rattle.jb_state.specs.Plan.{links_of, plan_of}
use Rattle.jb_state.specs.LiveSlots.{linkables_from, loaded_linkable}
use Rattle.jb_state.specs.Links.{Linkable, linkable}
use Rattle.jb_state.specs.Live.{live_from}
use Rattle.jb_state.specs.Loaded.{header_size}
use Rattle.jb_state.specs.Sound.{IsSlotWithin, IsSound}
use Rattle.jb_state.specs.State.{slot_state, state_of}
use Rattle.jb_state.specs.declared.links.Links.{Links}
use Rattle.jb_state.specs.declared.loaded.Loaded.{Loaded}
use Rattle.jb_state.specs.declared.loaded.LoadedMessage.{LoadedMessage}
use Rattle.jb_state.specs.declared.loaded.LoadedSlot.{LoadedSlot}
use Rattle.jb_state.specs.declared.loaded.LoadedSlot.TheVariants.{Empty, Killed, Live}
use Rattle.jb_state.proofs.PackLaws.{live_from-first, packed_base-within}
use Rattle.jb_record.specs.Index.{index_record_bytes}
use Rattle.jb_image.specs.Records.{IsEntryReadAgain, IsHeaderReadAgain, entry_for, message_bytes}
use Rattle.jb_pack.specs.Bytes.{AreEntriesReadAgain, AreHeadersReadAgain, headers_bytes, index_bytes, index_file}
use Rattle.jb_pack.specs.Laid.{Lays, laid}
use Rattle.jb_state.specs.Packed.{headers_size, is_live_slot, kept_slots, live_slots, moved, new_base, packed, packed_from, slot_header_size, slot_text_size, texts_size}
use Rattle.jb_pack.specs.Places.{IsBehind}
use Rattle.jb_pack.specs.declared.place.Place.{Place}
use Rattle.jb_pack.proofs.FitLemmas.{headers_fit_kept}
use Rattle.jb_image.proofs.RecordLemmas.{length-message}

-- nothing is laid
pub lays_none : (file : FileId) (change : RedoView) → Lays file 0 [] change change
lays_none file change = record {
  lengths = refl;
  here = sym (append-nil (laid change.pieces file));
  others = λ other apart. refl;
  kept = λ was. was;
  size = omega arith;
}

-- first some, and then others
pub lays_then : (file : FileId) (count more : ℕ) (bytes behind : List ℕ) (old mid new : RedoView) → Lays file count bytes old mid → Lays file more behind mid new
    → Lays file (count + more) (bytes ++ behind) old new
lays_then file count more bytes behind old mid new one two = record {
  lengths = two.lengths ∙ one.lengths;
  here = two.here ∙ ap (λ (l : List ℕ). l ++ behind) one.here ∙ append_assoc (laid old.pieces file) bytes behind;
  others = λ other apart. two.others other apart ∙ one.others other apart;
  kept = λ was. two.kept (one.kept was);
  size = omega (arith, one.size, two.size, length-append bytes behind);
}

-- pieces that are fewer than they may be
pub lays_fewer : (file : FileId) (count more : ℕ) (bytes : List ℕ) (old new : RedoView) → count ≤ more → Lays file count bytes old new → Lays file more bytes old new
lays_fewer file count more bytes old new fewer one = record {
  lengths = one.lengths;
  here = one.here;
  others = one.others;
  kept = one.kept;
  size = omega (arith, one.size);
}

-- room that is kept twice
pub keeps_then : (old mid new : RedoView) → KeepsRoom old mid → KeepsRoom mid new → KeepsRoom old new
keeps_then old mid new one two = record {
  for_lengths = omega (arith, one.for_lengths, two.for_lengths);
  for_pieces = omega (arith, one.for_pieces, two.for_pieces);
  for_bytes = omega (arith, one.for_bytes, two.for_bytes);
}

-- the live messages from the new base on are all of them
pub linkables_kept : (loaded : Loaded) → linkables_from (new_base loaded) (kept_slots loaded) ≡ linkables_from loaded.base loaded.slots
linkables_kept loaded =
    ap (λ (l : List _). map linkable (live_from (new_base loaded) l)) (sym (drop-map (slot_state []) (new_base loaded - loaded.base) loaded.slots))
    ∙ ap (map linkable) (live_from-first loaded.base (map (slot_state []) loaded.slots))

module _ (loaded : Loaded) (links : List Links) (start : RedoView) where
  -- what the links rest on
  abbrev live : List Linkable
  live = linkables_from loaded.base loaded.slots

  -- what is left, laid out from a place on
  abbrev left : Place → List LoadedSlot → List LoadedSlot
  left place rest = packed_from live place.number place.header_at place.text_at rest

  -- so many slots are put, and these are left
  pub record IsPut (redo : RedoView) (index : List ℕ) (place : Place) (count : ℕ) (rest : List LoadedSlot) : Type 0 where
    pub done : List ℕ
    pub lays : Lays Jhr place.live done start redo
    pub whole : done ++ headers_bytes place.number (left place rest) ≡ headers_bytes (new_base loaded) (packed loaded).slots
    pub indexed : index ++ index_bytes (left place rest) ≡ index_file (packed loaded)
    pub headers_back : AreHeadersReadAgain place.number (left place rest) → AreHeadersReadAgain (new_base loaded) (packed loaded).slots
    pub entries_back : AreEntriesReadAgain (left place rest) → AreEntriesReadAgain (packed loaded).slots
    pub linked : drop place.live links ≡ map (links_of live) (linkables_from place.number rest)
    pub number : place.number + length rest ≡ loaded.base + length loaded.slots
    pub few : place.live ≤ count
    pub live_are : place.live + live_slots rest ≡ live_slots (kept_slots loaded)
    pub at : place.header_at ≡ length (laid redo.pieces Jhr)
    pub headers : place.header_at + headers_size rest ≤ HEADERS_CEILING
    pub texts : place.text_at + texts_size rest ≤ TEXTS_CEILING
    pub within : All (IsSlotWithin loaded.headers_len loaded.texts_len) rest
    pub room : KeepsRoom start redo

  -- where the end is reached all is put
  pub all_put : (slots : List LoadedSlot) (redo : RedoView) (index : List ℕ) (place : Place) (count : ℕ) → length slots ≤ count → count ≤ length slots
      → IsPut redo index place count (drop count slots) → IsPut redo index place (length slots) []
  all_put slots redo index place count reached within put =
      let even : count ≡ length slots = omega (arith, reached, within) in
      subst (λ (n : ℕ). IsPut redo index place n []) even (subst (IsPut redo index place count) (ap (λ (n : ℕ). drop n slots) even ∙ drop-length slots) put)

  -- at first nothing is put
  pub put_none : (limit : ℕ) (index : List ℕ) → IsSound limit loaded → links ≡ plan_of live → texts_size (kept_slots loaded) ≤ TEXTS_CEILING
      → length (laid start.pieces Jhr) ≡ 1024 → index ≡ []
      → IsPut start index (record { number = new_base loaded; header_at = 1024; text_at = 0; live = 0 }) 0 (kept_slots loaded)
  put_none limit index sound links_are fits fixed none =
      let within = packed_base-within (state_of [] loaded) in
      let above = within.0 in
      let below = within.1 in
      record {
        done = [];
        lays = lays_none Jhr start;
        whole = refl;
        indexed = ap (λ (l : List ℕ). l ++ index_bytes (packed loaded).slots) none;
        headers_back = λ back. back;
        entries_back = λ back. back;
        linked = links_are ∙ ap (map (links_of live)) (sym (linkables_kept loaded));
        number = omega (arith, length-drop (new_base loaded - loaded.base) loaded.slots, length-map loaded.slots (slot_state []));
        few = omega arith;
        live_are = omega arith;
        at = sym fixed;
        headers = headers_fit_kept limit loaded sound;
        texts = omega (arith, fits);
        within = All-drop (IsSlotWithin loaded.headers_len loaded.texts_len) (new_base loaded - loaded.base) loaded.slots sound.within;
        room = record { for_lengths = omega arith; for_pieces = omega arith; for_bytes = omega arith };
      }

  -- an empty slot is put
  put_empty : (redo : RedoView) (index index' : List ℕ) (place : Place) (count : ℕ) (slot : LoadedSlot) (rest : List LoadedSlot)
      → left place (slot ∷ rest) ≡ Empty ∷ left (record place { number = place.number + 1 }) rest
      → linkables_from place.number (slot ∷ rest) ≡ linkables_from (place.number + 1) rest
      → slot_header_size slot ≡ 0 → slot_text_size slot ≡ 0 → is_live_slot slot ≡ false
      → index' ≡ index ++ index_record_bytes (entry_for Empty) → IsEntryReadAgain (entry_for Empty)
      → IsPut redo index place count (slot ∷ rest) → IsPut redo index' (record place { number = place.number + 1 }) (count + 1) rest
  put_empty redo index index' place count slot rest is same no_header no_text no_live index_is back put =
      let headers_is = sum_by-cons slot_header_size slot rest in
      let texts_is = sum_by-cons slot_text_size slot rest in
      let live_is = sum_by-cons (λ (s : LoadedSlot). cond (is_live_slot s) 1 0) slot rest in
      let none : cond {A = ℕ} (is_live_slot slot) 1 0 ≡ 0 = ap (λ (b : Bool). cond {A = ℕ} b 1 0) no_live in
      let next : List LoadedSlot = left (record place { number = place.number + 1 }) rest in
      record {
        done = put.done;
        lays = put.lays;
        whole = ap (λ (l : List LoadedSlot). put.done ++ headers_bytes place.number l) (sym is) ∙ put.whole;
        indexed =
            ap (λ (l : List ℕ). l ++ index_bytes next) index_is ∙ append_assoc index (index_record_bytes (entry_for Empty)) (index_bytes next)
            ∙ ap (λ (l : List LoadedSlot). index ++ index_bytes l) (sym is) ∙ put.indexed;
        headers_back = λ rest_back. put.headers_back (subst (AreHeadersReadAgain place.number) (sym is) rest_back);
        entries_back = λ rest_back. put.entries_back (subst AreEntriesReadAgain (sym is) (back, rest_back));
        linked = put.linked ∙ ap (map (links_of live)) same;
        number = omega (arith, put.number);
        few = omega (arith, put.few);
        live_are = omega (arith, put.live_are, none, live_is);
        at = put.at;
        headers = omega (arith, put.headers);
        texts = omega (arith, put.texts);
        within = All-tail (IsSlotWithin loaded.headers_len loaded.texts_len) slot rest put.within;
        room = put.room;
      }

  -- a slot without a live message is put
  pub put_no_message : (redo : RedoView) (index index' : List ℕ) (place : Place) (count : ℕ) (slot : LoadedSlot) (rest : List LoadedSlot)
      → ((message : LoadedMessage) → slot ≡ Live message → ⊥)
      → index' ≡ index ++ index_record_bytes (entry_for Empty) → IsEntryReadAgain (entry_for Empty)
      → IsPut redo index place count (slot ∷ rest) → IsPut redo index' (record place { number = place.number + 1 }) (count + 1) rest
  put_no_message redo index index' place count Empty rest other index_is back put =
      put_empty redo index index' place count Empty rest refl refl refl refl refl index_is back put
  put_no_message redo index index' place count (Killed killed_at) rest other index_is back put =
      put_empty redo index index' place count (Killed killed_at) rest refl refl refl refl refl index_is back put
  put_no_message redo index index' place count (Live message) rest other index_is back put = absurd (other message refl)

  -- there are links for a live message
  pub links_left : (redo : RedoView) (index : List ℕ) (place : Place) (count : ℕ) (message : LoadedMessage) (rest : List LoadedSlot)
      → IsPut redo index place count (Live message ∷ rest) → place.live < length links
  links_left redo index place count message rest put = omega (arith, ap length put.linked, length-drop place.live links)

  -- and they are its own
  pub links_are : (redo : RedoView) (index : List ℕ) (place : Place) (count : ℕ) (message : LoadedMessage) (rest : List LoadedSlot) (d : Links)
      → IsPut redo index place count (Live message ∷ rest) → get_or links place.live d ≡ links_of live (loaded_linkable place.number message)
  links_are redo index place count message rest d put =
      let same : place.live + 0 ≡ place.live = omega arith in
      ap (λ n. get_or links n d) (sym same) ∙ sym (get_or-drop place.live links 0 d) ∙ ap (λ (l : List Links). get_or l 0 d) put.linked

  -- what a live message asks for
  pub record HasPlace (place : Place) (message : LoadedMessage) : Type 0 where
    pub few : length (subfield_bytes message.subfields) ≤ MOST_SUBFIELD_BYTES
    pub headers : place.header_at + header_size message ≤ HEADERS_CEILING
    pub texts : place.text_at + message.text_len ≤ TEXTS_CEILING
    pub number : place.number < loaded.base + length loaded.slots

  -- there is a place for it
  pub has_place : (redo : RedoView) (index : List ℕ) (place : Place) (count : ℕ) (message : LoadedMessage) (rest : List LoadedSlot)
      → IsPut redo index place count (Live message ∷ rest) → HasPlace place message
  has_place redo index place count message rest put =
      let headers_is = sum_by-cons slot_header_size (Live message) rest in
      let texts_is = sum_by-cons slot_text_size (Live message) rest in
      let here = All-head (IsSlotWithin loaded.headers_len loaded.texts_len) (Live message) rest put.within in
      record {
        few = here.few_bytes;
        headers = omega (arith, put.headers);
        texts = omega (arith, put.texts);
        number = omega (arith, put.number);
      }

  -- the message that is put
  abbrev pub put_as : Place → LoadedMessage → LoadedMessage
  put_as place message = moved (links_of live (loaded_linkable place.number message)) place.header_at place.text_at message

  -- a live message is put
  pub put_live : (redo redo' : RedoView) (index index' : List ℕ) (place next : Place) (count : ℕ) (message : LoadedMessage) (rest : List LoadedSlot)
      → index' ≡ index ++ index_record_bytes (entry_for (Live (put_as place message))) → IsEntryReadAgain (entry_for (Live (put_as place message)))
      → Lays Jhr 1 (message_bytes place.number (put_as place message)) redo redo' → IsHeaderReadAgain place.number (put_as place message)
      → IsBehind message place next → KeepsRoom redo redo'
      → IsPut redo index place count (Live message ∷ rest) → IsPut redo' index' next (count + 1) rest
  put_live redo redo' index index' place next count message rest index_is entry_back more header_back behind keeps put =
      let there : LoadedMessage = put_as place message in
      let after : List LoadedSlot = packed_from live (place.number + 1) (place.header_at + header_size message) (place.text_at + message.text_len) rest in
      let same : left next rest ≡ after = λ i. packed_from live (behind.number i) (behind.header_at i) (behind.text_at i) rest in
      let headers_is = sum_by-cons slot_header_size (Live message) rest in
      let texts_is = sum_by-cons slot_text_size (Live message) rest in
      let live_is = sum_by-cons (λ (s : LoadedSlot). cond (is_live_slot s) 1 0) (Live message) rest in
      let bytes : List ℕ = message_bytes place.number there in
      record {
        done = put.done ++ bytes;
        lays = subst (λ (n : ℕ). Lays Jhr n (put.done ++ bytes) start redo') (sym behind.live) (lays_then Jhr place.live 1 put.done bytes start redo redo' put.lays more);
        whole =
            (λ i. (put.done ++ bytes) ++ headers_bytes (behind.number i) (same i))
            ∙ append_assoc put.done bytes (headers_bytes (place.number + 1) after) ∙ put.whole;
        indexed =
            (λ i. index_is i ++ index_bytes (same i)) ∙ append_assoc index (index_record_bytes (entry_for (Live there))) (index_bytes after) ∙ put.indexed;
        headers_back = λ rest_back. put.headers_back (header_back, subst (λ n. AreHeadersReadAgain n after) behind.number (subst (AreHeadersReadAgain next.number) same rest_back));
        entries_back = λ rest_back. put.entries_back (entry_back, subst AreEntriesReadAgain same rest_back);
        linked =
            ap (λ n. drop n links) (behind.live ∙ add_one)
            ∙ sym (drop-drop 1 place.live links ∙ ap (λ n. drop n links) one_more)
            ∙ ap (drop 1) put.linked ∙ ap (λ n. map (links_of live) (linkables_from n rest)) (sym behind.number);
        number = omega (arith, put.number, behind.number);
        few = omega (arith, put.few, behind.live);
        live_are = omega (arith, put.live_are, behind.live, live_is);
        at = omega (arith, put.at, behind.header_at, ap length more.here, length-append (laid redo.pieces Jhr) bytes, length-message place.number there);
        headers = omega (arith, put.headers, behind.header_at);
        texts = omega (arith, put.texts, behind.text_at);
        within = All-tail (IsSlotWithin loaded.headers_len loaded.texts_len) (Live message) rest put.within;
        room = keeps_then start redo redo' put.room keeps;
      }
    where
      add_one : place.live + 1 ≡ suc place.live
      add_one = omega arith

      one_more : place.live + 1 ≡ suc place.live
      one_more = omega arith

  -- all are put
  pub record IsAllPut (redo : RedoView) (index : List ℕ) : Type 0 where
    pub lays : Lays Jhr (live_slots (kept_slots loaded)) (headers_bytes (new_base loaded) (packed loaded).slots) start redo
    pub indexed : index ≡ index_file (packed loaded)
    pub headers_back : AreHeadersReadAgain (new_base loaded) (packed loaded).slots
    pub entries_back : AreEntriesReadAgain (packed loaded).slots

  -- where none is left, all are put
  pub put_all : (redo : RedoView) (index : List ℕ) (place : Place) (count : ℕ) → IsPut redo index place count [] → IsAllPut redo index
  put_all redo index place count put =
      let live_is : place.live ≡ live_slots (kept_slots loaded) = omega (arith, put.live_are) in
      record {
        lays = subst (λ (n : ℕ). Lays Jhr n (headers_bytes (new_base loaded) (packed loaded).slots) start redo) live_is
            (subst (λ (l : List ℕ). Lays Jhr place.live l start redo) (sym (append-nil put.done) ∙ put.whole) put.lays);
        indexed = sym (append-nil index) ∙ put.indexed;
        headers_back = put.headers_back tt;
        entries_back = put.entries_back tt;
      }

-- the slots from a place on: the one there, and those behind it
pub from_place : (slots : List LoadedSlot) (k : ℕ) (slot : LoadedSlot) → k < length slots → slot ≡ get_or slots k slot → drop k slots ≡ slot ∷ drop (k + 1) slots
from_place slots k slot within read =
    let next : suc k ≡ k + 1 = omega arith in
    drop-cons slots k slot within ∙ ap (λ (s : LoadedSlot). s ∷ drop (suc k) slots) (sym read) ∙ ap (λ j. slot ∷ drop j slots) next
