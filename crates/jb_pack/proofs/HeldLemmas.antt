-- Files with these bytes hold the area after a pack.
use Rattle.std.proofs.Common.{◌≡◌, inr, ℕ, zero, suc, ◌+◌, ◌-◌, ◌*◌, ◌≤◌, ◌<◌, List, [], ◌∷◌, ◌++◌, length, take, drop, All, refl, sym, ◌∙◌, ap, subst, arith, append_assoc, length-append, length-drop}
use Rattle.std.specs.Prelude.{AllPairs, bit_and, slice_index_or}
use Rattle.std.proofs.lemmas.List.{length-map}
use Rattle.std.proofs.lemmas.List.Sums.{sum_by-cons}
use Rattle.std.proofs.Math.Seq.{drop-append_seam, take-append_seam}
use Rattle.std.proofs.lemmas.List.Elements.{All-head, All-tail, All-drop, All-nil, All-cons}
use Rattle.std.proofs.lemmas.List.Kept.{AllPairs-cons}
use Rattle.jb_bytes.specs.Subfields.{IsSubfield, subfield_bytes}
use Rattle.jb_base.specs.declared.attribute.TheConstants.{DELETED}
use Rattle.jb_limits.specs.declared.limits.TheConstants.{HEADERS_CEILING, TEXTS_CEILING}
use Rattle.jb_image.proofs.RecordLemmas.{length-entry, length-header, length-message, shaped_header}
use Rattle.jb_image.specs.Records.{entry_for, message_bytes, numbered_header}
use Rattle.jb_disk.specs.Files.{Files}
use Rattle.jb_disk.specs.declared.file.FileId.TheVariants.{Jhr, Jdt, Jdx}
use Rattle.jb_image.specs.Places.{bytes_at, entry_in, header_in}
use Rattle.jb_image.specs.Stands.{HasSlot, IsLiveHeader, IsLiveIn, Loads, fixed_of, head_of}
use Rattle.jb_state.specs.Plan.{links_of}
use Rattle.jb_state.specs.LiveSlots.{linkables_from, loaded_linkable}
use Rattle.jb_state.specs.Links.{Linkable}
use Rattle.jb_state.specs.Loaded.{header_size}
use Rattle.jb_state.specs.Sound.{AreApart, Covers, IsSlotWithin, IsSound}
use Rattle.jb_state.specs.State.{slot_state, state_of}
use Rattle.jb_state.specs.declared.loaded.Loaded.{Loaded}
use Rattle.jb_state.specs.declared.loaded.LoadedMessage.{LoadedMessage}
use Rattle.jb_state.specs.declared.loaded.LoadedSlot.{LoadedSlot}
use Rattle.jb_state.specs.declared.loaded.LoadedSlot.TheVariants.{Empty, Killed, Live}
use Rattle.jb_state.proofs.PackLaws.{packed_base-within}
use Rattle.jb_record.specs.Fixed.{IsFixedHeader, fixed_header_bytes, fixed_header_of}
use Rattle.jb_record.specs.Index.{index_record_bytes, index_record_of}
use Rattle.jb_record.specs.Lastread.{lastread_record_of}
use Rattle.jb_record.specs.Message.{IsMessageHeader, message_header_bytes, message_header_of}
use Rattle.jb_record.specs.Fields.{signature}
use Rattle.jb_record.specs.declared.fixed.FixedHeader.{FixedHeader}
use Rattle.jb_record.specs.declared.index.IndexRecord.{IndexRecord}
use Rattle.jb_record.specs.declared.message.MessageHeader.{MessageHeader}
use Rattle.jb_pack.specs.Bytes.{AreEntriesReadAgain, AreHeadersReadAgain, IsReadAgain, headers_bytes, index_bytes}
use Rattle.jb_pack.specs.Laws.{ArePacked, HoldsPacked}
use Rattle.jb_pack.proofs.FitLemmas.{headers_fit_kept}
use Rattle.jb_state.specs.Packed.{headers_size, kept_slots, moved, new_base, packed, packed_from, slot_header_size, slot_text_size, texts_size}

-- the first part of bytes behind others
pub first_behind : (front first rest all : List ℕ) (at len : ℕ) → all ≡ front ++ (first ++ rest) → at ≡ length front → len ≡ length first → bytes_at at len all ≡ first
first_behind front first rest all at len is at_is len_is =
    ap (bytes_at at len) is ∙ ap (λ n. take len (drop n (front ++ (first ++ rest)))) at_is ∙ ap (take len) (drop-append_seam front (first ++ rest))
    ∙ ap (λ n. take n (first ++ rest)) len_is ∙ take-append_seam first rest

-- a pack keeps as many slots
pub length-packed : (live : List Linkable) (number header_at text_at : ℕ) (slots : List LoadedSlot) → length (packed_from live number header_at text_at slots) ≡ length slots
length-packed live number header_at text_at [] = refl
length-packed live number header_at text_at (Empty ∷ slots) = ap suc (length-packed live (number + 1) header_at text_at slots)
length-packed live number header_at text_at (Killed at ∷ slots) = ap suc (length-packed live (number + 1) header_at text_at slots)
length-packed live number header_at text_at (Live message ∷ slots) =
    ap suc (length-packed live (number + 1) (header_at + header_size message) (text_at + message.text_len) slots)

-- how long the headers are together
pub length-headers : (live : List Linkable) (number header_at text_at : ℕ) (slots : List LoadedSlot)
    → length (headers_bytes number (packed_from live number header_at text_at slots)) ≡ headers_size slots
length-headers live number header_at text_at [] = refl
length-headers live number header_at text_at (Empty ∷ slots) =
    let rest = length-headers live (number + 1) header_at text_at slots in omega (arith, sum_by-cons slot_header_size Empty slots)
length-headers live number header_at text_at (Killed at ∷ slots) =
    let rest = length-headers live (number + 1) header_at text_at slots in omega (arith, sum_by-cons slot_header_size (Killed at) slots)
length-headers live number header_at text_at (Live message ∷ slots) =
    let rest = length-headers live (number + 1) (header_at + header_size message) (text_at + message.text_len) slots in
    let there : LoadedMessage = moved (links_of live (loaded_linkable number message)) header_at text_at message in
    omega (
      arith,
      sum_by-cons slot_header_size (Live message) slots,
      length-message number there,
      length-append (message_bytes number there) (headers_bytes (number + 1) (packed_from live (number + 1) (header_at + header_size message) (text_at + message.text_len) slots)),
    )

-- how long the index is
pub length-index : (slots : List LoadedSlot) → length (index_bytes slots) ≡ 8 * length slots
length-index [] = refl
length-index (slot ∷ slots) =
    omega (arith, length-append (index_record_bytes (entry_for slot)) (index_bytes slots), length-entry (entry_for slot), length-index slots)

-- the slots take no byte below the place from which they are laid out
above : (low : ℕ) (live : List Linkable) (number header_at text_at : ℕ) (slots : List LoadedSlot) → low ≤ header_at
    → All (λ slot. (i : ℕ) → Covers slot i → low ≤ i) (packed_from live number header_at text_at slots)
above low live number header_at text_at [] from = All-nil (λ slot. (i : ℕ) → Covers slot i → low ≤ i)
above low live number header_at text_at (Empty ∷ slots) from =
    All-cons (λ slot. (i : ℕ) → Covers slot i → low ≤ i) Empty _ (λ i none. absurd none) (above low live (number + 1) header_at text_at slots from)
above low live number header_at text_at (Killed at ∷ slots) from =
    All-cons (λ slot. (i : ℕ) → Covers slot i → low ≤ i) Empty _ (λ i none. absurd none) (above low live (number + 1) header_at text_at slots from)
above low live number header_at text_at (Live message ∷ slots) from =
    All-cons (λ slot. (i : ℕ) → Covers slot i → low ≤ i) (Live (moved (links_of live (loaded_linkable number message)) header_at text_at message)) _
    (λ i some. omega (arith, some.0))
    (above low live (number + 1) (header_at + header_size message) (text_at + message.text_len) slots (omega arith))

-- no two of them share a byte
pub apart_packed : (live : List Linkable) (number header_at text_at : ℕ) (slots : List LoadedSlot) → AllPairs AreApart (packed_from live number header_at text_at slots)
apart_packed live number header_at text_at [] = λ i j d order low. absurd (omega (arith, low))
apart_packed live number header_at text_at (Empty ∷ slots) =
    AllPairs-cons AreApart Empty _ (λ k d low i none other. none) (apart_packed live (number + 1) header_at text_at slots)
apart_packed live number header_at text_at (Killed at ∷ slots) =
    AllPairs-cons AreApart Empty _ (λ k d low i none other. none) (apart_packed live (number + 1) header_at text_at slots)
apart_packed live number header_at text_at (Live message ∷ slots) =
    AllPairs-cons AreApart (Live (moved (links_of live (loaded_linkable number message)) header_at text_at message)) _
    (λ k d low i one other.
    let higher : header_at + header_size message ≤ i =
    above (header_at + header_size message) live (number + 1) (header_at + header_size message) (text_at + message.text_len) slots (omega arith) k d low i other in
    omega (arith, one.1))
    (apart_packed live (number + 1) (header_at + header_size message) (text_at + message.text_len) slots)

-- the subfields of a slot's live message fit the widths that they have on disk
abbrev pub HasFields : LoadedSlot → Type 0
HasFields Empty = Unit {0}
HasFields (Killed at) = Unit {0}
HasFields (Live message) = All IsSubfield message.subfields

module _ (after : Files) where
  -- a live message stands at the end of what is laid out, with its header, its subfields and its text
  message_there : (headers_len texts_len number : ℕ) (message : LoadedMessage) (front rest : List ℕ)
      → after Jhr ≡ front ++ (message_bytes number message ++ rest) → message.header_at ≡ length front → 1024 ≤ message.header_at
      → message.header_at + header_size message ≤ HEADERS_CEILING
      → message.text_at + message.text_len ≤ length (after Jdt) → message.text_at + message.text_len ≤ TEXTS_CEILING
      → (before : LoadedMessage) → message.head.attribute ≡ before.head.attribute → message.subfields ≡ before.subfields → message.text_len ≡ before.text_len
      → IsSlotWithin headers_len texts_len (Live before) → All IsSubfield message.subfields
      → message_header_of (message_header_bytes (numbered_header number message)) ≡ numbered_header number message
      → IsLiveIn after message
  message_there headers_len texts_len number message front rest jhr at_is low below inside inside' before attribute fields size within each back =
      let bytes : List ℕ = message_header_bytes (numbered_header number message) in
      let behind : List ℕ = subfield_bytes message.subfields in
      let header_size_is : length bytes ≡ 76 = length-header (numbered_header number message) in
      let whole : after Jhr ≡ front ++ (bytes ++ (behind ++ rest)) = jhr ∙ ap (λ (l : List ℕ). front ++ l) (append_assoc bytes behind rest) in
      let whole' : after Jhr ≡ (front ++ bytes) ++ (behind ++ rest) = whole ∙ sym (append_assoc front bytes (behind ++ rest)) in
      let bytes_there : bytes_at message.header_at 76 (after Jhr) ≡ bytes = first_behind front bytes (behind ++ rest) (after Jhr) message.header_at 76 whole at_is (sym header_size_is) in
      let header_there : header_in after message.header_at ≡ numbered_header number message = ap message_header_of bytes_there ∙ back in
      let fields_there : bytes_at (message.header_at + 76) (length behind) (after Jhr) ≡ behind =
      first_behind (front ++ bytes) behind rest (after Jhr) (message.header_at + 76) (length behind) whole' (omega (arith, length-append front bytes)) refl in
      let long : length (after Jhr) ≡ length front + (76 + length behind + length rest) =
      omega (arith, ap length whole, length-append front (bytes ++ (behind ++ rest)), length-append bytes (behind ++ rest), length-append behind rest) in
      let same_fields : length behind ≡ length (subfield_bytes before.subfields) = ap (λ (l : List _). length (subfield_bytes l)) fields in
      let few = within.few_bytes in
      let short = within.text.short in
      record {
        header = record {
          placed = record { after = omega arith; inside = omega arith; below = omega arith };
          shaped = subst IsMessageHeader (sym bytes_there) (shaped_header (numbered_header number message));
        };
        live = subst (IsLiveHeader (length (after Jhr)) (length (after Jdt)) message.header_at) (sym header_there) (record {
          live = subst (λ n. bit_and n DELETED ≡ 0) (sym attribute) within.live;
          few_bytes = omega arith;
          placed = record { after = omega arith; inside = omega arith; below = omega arith };
          text = record { short = omega arith; placed = inr (omega arith, omega arith) };
        });
        subfields = record { each = each; spelled = sym (ap (λ (h : MessageHeader). bytes_at (message.header_at + 76) h.subfields (after Jhr)) header_there ∙ fields_there) };
        head = sym (ap head_of header_there);
        text_at = sym (ap (λ (h : MessageHeader). h.offset) header_there);
        text_len = sym (ap (λ (h : MessageHeader). h.text_len) header_there);
      }

  -- an index record stands behind those before it
  entry_there : (place : ℕ) (front rest : List ℕ) (slot : LoadedSlot) → after Jdx ≡ front ++ (index_record_bytes (entry_for slot) ++ rest) → length front ≡ 8 * place
      → index_record_of (index_record_bytes (entry_for slot)) ≡ entry_for slot → entry_in after place ≡ entry_for slot
  entry_there place front rest slot jdx size back =
      ap index_record_of (first_behind front (index_record_bytes (entry_for slot)) rest (after Jdx) (8 * place) 8 jdx (sym size) (sym (length-entry (entry_for slot)))) ∙ back

  module _ (live : List Linkable) (headers_len texts_len : ℕ) where
    -- the places, the limits and the bytes from which slots are laid out
    pub record IsLaid (number header_at text_at place : ℕ) (front index : List ℕ) (slots : List LoadedSlot) : Type 0 where
      pub jhr : after Jhr ≡ front ++ headers_bytes number (packed_from live number header_at text_at slots)
      pub jdx : after Jdx ≡ index ++ index_bytes (packed_from live number header_at text_at slots)
      pub header_at_is : header_at ≡ length front
      pub behind : 1024 ≤ header_at
      pub place_is : length index ≡ 8 * place
      pub headers : header_at + headers_size slots ≤ HEADERS_CEILING
      pub texts : text_at + texts_size slots ≤ length (after Jdt)
      pub few_texts : text_at + texts_size slots ≤ TEXTS_CEILING
      pub within : All (IsSlotWithin headers_len texts_len) slots
      pub fields : All HasFields slots
      pub headers_back : AreHeadersReadAgain number (packed_from live number header_at text_at slots)
      pub entries_back : AreEntriesReadAgain (packed_from live number header_at text_at slots)

    -- behind an empty slot
    pub next_empty : (number header_at text_at place : ℕ) (front index : List ℕ) (slot : LoadedSlot) (slots : List LoadedSlot)
        → slot_header_size slot ≡ 0 → slot_text_size slot ≡ 0
        → packed_from live number header_at text_at (slot ∷ slots) ≡ Empty ∷ packed_from live (number + 1) header_at text_at slots
        → IsLaid number header_at text_at place front index (slot ∷ slots)
        → IsLaid (number + 1) header_at text_at (place + 1) front (index ++ index_record_bytes (entry_for Empty)) slots
    next_empty number header_at text_at place front index slot slots no_header no_text is laid =
        let headers_is = sum_by-cons slot_header_size slot slots in
        let texts_is = sum_by-cons slot_text_size slot slots in
        let size = laid.place_is in
        let texts = laid.texts in
        record {
          jhr = laid.jhr ∙ ap (λ (l : List LoadedSlot). front ++ headers_bytes number l) is;
          jdx = laid.jdx ∙ ap (λ (l : List LoadedSlot). index ++ index_bytes l) is ∙ sym (append_assoc index (index_record_bytes (entry_for Empty)) (index_bytes (packed_from live (number + 1) header_at text_at slots)));
          header_at_is = laid.header_at_is;
          behind = laid.behind;
          place_is = omega (arith, length-append index (index_record_bytes (entry_for Empty)), length-entry (entry_for Empty));
          headers = omega (arith, laid.headers);
          texts = omega arith;
          few_texts = omega (arith, laid.few_texts);
          within = All-tail (IsSlotWithin headers_len texts_len) slot slots laid.within;
          fields = All-tail HasFields slot slots laid.fields;
          headers_back = subst (AreHeadersReadAgain number) is laid.headers_back;
          entries_back = (subst AreEntriesReadAgain is laid.entries_back).1;
        }

    -- the message that is laid out here
    abbrev pub laid_message : ℕ → ℕ → ℕ → LoadedMessage → LoadedMessage
    laid_message number header_at text_at message = moved (links_of live (loaded_linkable number message)) header_at text_at message

    -- behind a live one
    pub next_live : (number header_at text_at place : ℕ) (front index : List ℕ) (message : LoadedMessage) (slots : List LoadedSlot)
        → IsLaid number header_at text_at place front index (Live message ∷ slots)
        → IsLaid (number + 1) (header_at + header_size message) (text_at + message.text_len) (place + 1)
        (front ++ message_bytes number (laid_message number header_at text_at message))
        (index ++ index_record_bytes (entry_for (Live (laid_message number header_at text_at message)))) slots
    next_live number header_at text_at place front index message slots laid =
        let there : LoadedMessage = laid_message number header_at text_at message in
        let rest : List LoadedSlot = packed_from live (number + 1) (header_at + header_size message) (text_at + message.text_len) slots in
        let headers_is = sum_by-cons slot_header_size (Live message) slots in
        let texts_is = sum_by-cons slot_text_size (Live message) slots in
        let size = laid.place_is in
        let texts = laid.texts in
        record {
          jhr = laid.jhr ∙ sym (append_assoc front (message_bytes number there) (headers_bytes (number + 1) rest));
          jdx = laid.jdx ∙ sym (append_assoc index (index_record_bytes (entry_for (Live there))) (index_bytes rest));
          header_at_is = omega (arith, laid.header_at_is, length-append front (message_bytes number there), length-message number there);
          behind = omega (arith, laid.behind);
          place_is = omega (arith, length-append index (index_record_bytes (entry_for (Live there))), length-entry (entry_for (Live there)));
          headers = omega (arith, laid.headers);
          texts = omega arith;
          few_texts = omega (arith, laid.few_texts);
          within = All-tail (IsSlotWithin headers_len texts_len) (Live message) slots laid.within;
          fields = All-tail HasFields (Live message) slots laid.fields;
          headers_back = laid.headers_back.1;
          entries_back = laid.entries_back.1;
        }

    -- the live message is there, and its index record names it
    here_live : (number header_at text_at place : ℕ) (front index : List ℕ) (message : LoadedMessage) (slots : List LoadedSlot)
        → IsLaid number header_at text_at place front index (Live message ∷ slots)
        → HasSlot after (entry_in after place) (Live (laid_message number header_at text_at message))
    here_live number header_at text_at place front index message slots laid =
        let there : LoadedMessage = laid_message number header_at text_at message in
        let rest : List LoadedSlot = packed_from live (number + 1) (header_at + header_size message) (text_at + message.text_len) slots in
        let headers_is = sum_by-cons slot_header_size (Live message) slots in
        let texts_is = sum_by-cons slot_text_size (Live message) slots in
        let headers = laid.headers in
        let texts = laid.texts in
        let few_texts = laid.few_texts in
        let entry = entry_there place index (index_bytes rest) (Live there) laid.jdx laid.place_is laid.entries_back.0 in
        subst (λ (e : IndexRecord). HasSlot after e (Live there)) (sym entry) (
          refl,
          refl,
          message_there headers_len texts_len number there front (headers_bytes (number + 1) rest) laid.jhr laid.header_at_is laid.behind (omega arith) (omega arith) (omega arith)
              message refl refl refl (All-head (IsSlotWithin headers_len texts_len) (Live message) slots laid.within) (All-head HasFields (Live message) slots laid.fields) laid.headers_back.0,
        )

    -- an empty slot's index record names none
    here_empty : (place : ℕ) (index rest : List ℕ) → after Jdx ≡ index ++ (index_record_bytes (entry_for Empty) ++ rest) → length index ≡ 8 * place
        → index_record_of (index_record_bytes (entry_for Empty)) ≡ entry_for Empty → HasSlot after (entry_in after place) Empty
    here_empty place index rest jdx size back = ap (λ (e : IndexRecord). e.offset) (entry_there place index rest Empty jdx size back)

    -- the place of a slot, counted from the next one
    one_further : (place k : ℕ) (slot : LoadedSlot) → HasSlot after (entry_in after (place + 1 + k)) slot → HasSlot after (entry_in after (place + suc k)) slot
    one_further place k slot has =
        let same : place + 1 + k ≡ place + suc k = omega arith in
        subst (λ n. HasSlot after (entry_in after n) slot) same has

    -- the first place
    at_first : (place : ℕ) (slot : LoadedSlot) → HasSlot after (entry_in after place) slot → HasSlot after (entry_in after (place + 0)) slot
    at_first place slot has =
        let same : place ≡ place + 0 = omega arith in
        subst (λ n. HasSlot after (entry_in after n) slot) same has

    -- each slot is there
    pub slots_there : (number header_at text_at place : ℕ) (front index : List ℕ) (slots : List LoadedSlot) → IsLaid number header_at text_at place front index slots
        → (k : ℕ) (d : LoadedSlot) → k < length (packed_from live number header_at text_at slots)
        → HasSlot after (entry_in after (place + k)) (slice_index_or (packed_from live number header_at text_at slots) k d)
    slots_there number header_at text_at place front index [] laid k d low = absurd (omega (arith, low))
    slots_there number header_at text_at place front index (Empty ∷ slots) laid zero d low =
        at_first place Empty (here_empty place index (index_bytes (packed_from live (number + 1) header_at text_at slots)) laid.jdx laid.place_is laid.entries_back.0)
    slots_there number header_at text_at place front index (Empty ∷ slots) laid (suc k) d low =
        one_further place k _ (slots_there (number + 1) header_at text_at (place + 1) front (index ++ index_record_bytes (entry_for Empty)) slots
        (next_empty number header_at text_at place front index Empty slots refl refl refl laid) k d (omega (arith, low)))
    slots_there number header_at text_at place front index (Killed at ∷ slots) laid zero d low =
        at_first place Empty (here_empty place index (index_bytes (packed_from live (number + 1) header_at text_at slots)) laid.jdx laid.place_is laid.entries_back.0)
    slots_there number header_at text_at place front index (Killed at ∷ slots) laid (suc k) d low =
        one_further place k _ (slots_there (number + 1) header_at text_at (place + 1) front (index ++ index_record_bytes (entry_for Empty)) slots
        (next_empty number header_at text_at place front index (Killed at) slots refl refl refl laid) k d (omega (arith, low)))
    slots_there number header_at text_at place front index (Live message ∷ slots) laid zero d low =
        at_first place (Live (laid_message number header_at text_at message)) (here_live number header_at text_at place front index message slots laid)
    slots_there number header_at text_at place front index (Live message ∷ slots) laid (suc k) d low =
        one_further place k _ (slots_there (number + 1) (header_at + header_size message) (text_at + message.text_len) (place + 1)
        (front ++ message_bytes number (laid_message number header_at text_at message))
        (index ++ index_record_bytes (entry_for (Live (laid_message number header_at text_at message)))) slots
        (next_live number header_at text_at place front index message slots laid) k d (omega (arith, low)))

-- files that hold an area have whole subfields
pub fields_held : (files : Files) (loaded : Loaded) → Loads loaded files → All HasFields loaded.slots
fields_held files loaded loads k d low = of_slot (slice_index_or loaded.slots k d) (loads.slots k d low)
  where
    of_slot : (slot : LoadedSlot) → HasSlot files (entry_in files k) slot → HasFields slot
    of_slot Empty has = tt
    of_slot (Killed at) has = tt
    of_slot (Live message) has = has.2.subfields.each

-- the signature of a fixed header's bytes
signed_fixed : (loaded : Loaded) → take 4 (fixed_header_bytes (fixed_of loaded)) ≡ signature
unfolding fixed_header_bytes
signed_fixed loaded = refl

-- and their length
length-fixed : (loaded : Loaded) → length (fixed_header_bytes (fixed_of loaded)) ≡ 24 + length loaded.reserved
unfolding fixed_header_bytes
length-fixed loaded = omega arith

-- files that hold an area have a thousand reserved bytes
reserved_held : (files : Files) (loaded : Loaded) → Loads loaded files → length loaded.reserved ≡ 1000
unfolding fixed_header_of
reserved_held files loaded loads =
    let size = loads.header.size in
    let same : loaded.reserved ≡ drop 24 (bytes_at 0 1024 (files Jhr)) = ap (λ (h : FixedHeader). h.reserved) loads.fixed in
    omega (arith, ap length same, length-drop 24 (bytes_at 0 1024 (files Jhr)))

-- the fixed header after a pack has its 1,024 bytes
fixed_size_is : (loaded : Loaded) (before : Files) → Loads loaded before → length (fixed_header_bytes (fixed_of (packed loaded))) ≡ 1024
fixed_size_is loaded before loads = omega (arith, length-fixed (packed loaded), reserved_held before loaded loads)

-- all kept slots are laid out from the fixed header on
pub laid_packed : (limit : ℕ) (loaded : Loaded) (before after : Files) → IsSound limit loaded → (packed loaded).texts_len ≤ TEXTS_CEILING
    → IsReadAgain (packed loaded) → Loads loaded before → ArePacked loaded before after
    → IsLaid after (linkables_from loaded.base loaded.slots) loaded.headers_len loaded.texts_len (new_base loaded) 1024 0 0 (fixed_header_bytes (fixed_of (packed loaded))) []
    (kept_slots loaded)
laid_packed limit loaded before after sound fits back loads are =
    let texts_size_is = are.texts in
    record {
      jhr = are.headers;
      jdx = are.index;
      header_at_is = sym (fixed_size_is loaded before loads);
      behind = omega arith;
      place_is = refl;
      headers = headers_fit_kept limit loaded sound;
      texts = omega arith;
      few_texts = omega (arith, fits);
      within = All-drop (IsSlotWithin loaded.headers_len loaded.texts_len) (new_base loaded - loaded.base) loaded.slots sound.within;
      fields = All-drop HasFields (new_base loaded - loaded.base) loaded.slots (fields_held before loaded loads);
      headers_back = back.headers;
      entries_back = back.entries;
    }

-- files with the bytes of the area after a pack hold it
pub loads_packed : HoldsPacked
loads_packed limit loaded before after sound fits back loads are =
    let live : List Linkable = linkables_from loaded.base loaded.slots in
    let slots : List LoadedSlot = kept_slots loaded in
    let fixed : List ℕ = fixed_header_bytes (fixed_of (packed loaded)) in
    let fixed_size : length fixed ≡ 1024 = fixed_size_is loaded before loads in
    let fixed_there : bytes_at 0 1024 (after Jhr) ≡ fixed =
    first_behind [] fixed (headers_bytes (packed loaded).base (packed loaded).slots) (after Jhr) 0 1024 are.headers refl (sym fixed_size) in
    let within = packed_base-within (state_of [] loaded) in
    let above = within.0 in
    let below = within.1 in
    let kept_len : length (packed loaded).slots ≡ length loaded.slots - (new_base loaded - loaded.base) =
    length-packed live (new_base loaded) 1024 0 slots ∙ length-drop (new_base loaded - loaded.base) loaded.slots in
    let laid = laid_packed limit loaded before after sound fits back loads are in
    record {
      header = subst IsFixedHeader (sym fixed_there) (record { size = fixed_size; signed = signed_fixed (packed loaded) });
      fixed = sym (ap fixed_header_of fixed_there ∙ back.fixed);
      base = omega (arith, loads.base);
      numbers = omega (arith, loads.numbers, length-map loaded.slots (slot_state []));
      index = ap length are.index ∙ length-index (packed loaded).slots;
      slots = λ k d low.
          let same : 0 + k ≡ k = omega arith in
          subst (λ n. HasSlot after (entry_in after n) (slice_index_or (packed loaded).slots k d)) same
          (slots_there after live loaded.headers_len loaded.texts_len (new_base loaded) 1024 0 0 fixed [] slots laid k d low);
      apart = apart_packed live (new_base loaded) 1024 0 slots;
      lastread = ap length are.lastread ∙ loads.lastread;
      marks = λ k d low. loads.marks k d low ∙ sym (ap (λ (l : List ℕ). lastread_record_of (bytes_at (16 * k) 16 l)) are.lastread);
      few_marks = loads.few_marks;
      headers_len =
          sym (omega (
            arith,
            ap length are.headers,
            length-append fixed (headers_bytes (new_base loaded) (packed loaded).slots),
            length-headers live (new_base loaded) 1024 0 slots,
          ));
      texts_len = sym are.texts;
    }
