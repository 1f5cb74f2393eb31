-- What files hold once a part of them is written over.
use Rattle.std.proofs.Common.{◌≡◌, ◌≢◌, inl, inr, ℕ, ◌+◌, ◌*◌, ◌<◌, ◌≤◌, List, length, ap, ◌∙◌, sym, refl, subst, arith, length-set}
use Rattle.std.specs.Prelude.{Some, ◌%◌, bit_and, slice_get, slice_index_or, slice_set, AllPairs}
use Rattle.std.proofs.lemmas.Bool.{cases_eq, cases_lt}
use Rattle.std.proofs.lemmas.List.{get_or-set_same, get_or-set_other}
use Rattle.std.proofs.lemmas.Option.{slice_get_within, get_or_from_slice_get}
use Rattle.jb_base.specs.declared.attribute.TheConstants.{DELETED}
use Rattle.jb_limits.specs.declared.limits.TheConstants.{MOST_SUBFIELD_BYTES}
use Rattle.jb_bytes.specs.Subfields.{subfield_bytes, IsSubfieldList}
use Rattle.jb_disk.specs.declared.file.FileId.TheVariants.{Jhr, Jdt, Jdx, Jlr}
use Rattle.jb_disk.specs.Files.{Files, file_number, overwritten, written}
use Rattle.jb_disk.specs.FileLaws.{with_file-here, with_file-other}
use Rattle.jb_disk.specs.Steps.{Torn}
use Rattle.jb_state.specs.Loaded.{IsMessageAt, with_slot_at, with_head_at, with_killed_at}
use Rattle.jb_state.specs.Sound.{Covers, AreApart, IsWithin, IsTextWithin}
use Rattle.jb_state.specs.declared.loaded.Loaded.{Loaded}
use Rattle.jb_state.specs.declared.loaded.LoadedMessage.{LoadedMessage}
use Rattle.jb_state.specs.declared.loaded.LoadedSlot.{LoadedSlot}
use Rattle.jb_state.specs.declared.loaded.LoadedSlot.TheVariants.{Empty, Killed, Live}
use Rattle.jb_state.specs.declared.message.Head.{Head}
use Rattle.jb_record.specs.declared.index.IndexRecord.{IndexRecord}
use Rattle.jb_record.specs.declared.message.MessageHeader.{MessageHeader}
use Rattle.jb_record.specs.Fixed.{IsFixedHeader, fixed_header_of}
use Rattle.jb_record.specs.Index.{index_record_of}
use Rattle.jb_record.specs.Lastread.{lastread_record_of}
use Rattle.jb_record.specs.Message.{IsMessageHeader, message_header_of}
use Rattle.jb_image.specs.Places.{bytes_at, entry_in, header_in}
use Rattle.jb_image.specs.Stands.{Loads, HasSlot, HasHeader, IsDeleted, IsLiveIn, IsLiveHeader, head_of}
use Rattle.jb_image.proofs.FileBytes.{length-bytes_at}
use Rattle.jb_change.proofs.ByteLemmas.{bytes_kept, torn-overwritten, torn-wider}
use Rattle.jb_change.proofs.HeaderLemmas.{with_bytes, number_over_past, still_header, header_put}

-- bytes of .JHR in this range are open; what else the slots are loaded from is as it was
pub record IsTornAt (at len : ℕ) (old new : Files) : Type 0 where
  pub headers : Torn at len (old Jhr) (new Jhr)
  pub index : new Jdx ≡ old Jdx
  pub texts : new Jdt ≡ old Jdt

-- a write into .JHR
pub torn-written : (at : ℕ) (bytes : List ℕ) (files : Files) → at + length bytes ≤ length (files Jhr) → IsTornAt at (length bytes) files (written Jhr at bytes files)
torn-written at bytes files within = record {
  headers = subst (Torn at (length bytes) (files Jhr)) (sym (with_file-here Jhr (overwritten at bytes (files Jhr)) files)) (torn-overwritten at bytes (files Jhr) within);
  index = with_file-other Jhr Jdx (overwritten at bytes (files Jhr)) files (λ is. absurd (omega (arith, ap file_number is)));
  texts = with_file-other Jhr Jdt (overwritten at bytes (files Jhr)) files (λ is. absurd (omega (arith, ap file_number is)));
}

module _ (at len : ℕ) (old new : Files) (torn : IsTornAt at len old new) where
  -- the index records are as they were
  pub entry_same : (k : ℕ) → entry_in new k ≡ entry_in old k
  entry_same k = ap (λ (l : List ℕ). index_record_of (bytes_at (8 * k) 8 l)) torn.index

  -- a header that lies apart is as it was
  module _ (header_at : ℕ) (apart : (i : ℕ) → header_at ≤ i → i < header_at + 76 → at ≤ i → i < at + len → ⊥) where
    -- its bytes
    header_bytes_same : bytes_at header_at 76 (new Jhr) ≡ bytes_at header_at 76 (old Jhr)
    header_bytes_same = bytes_kept at len header_at 76 (old Jhr) (new Jhr) torn.headers apart

    -- its numbers
    pub header_same : header_in new header_at ≡ header_in old header_at
    header_same = ap message_header_of header_bytes_same

    -- it is one
    pub has_header_same : HasHeader old header_at → HasHeader new header_at
    has_header_same has = record {
      placed = subst (λ (n : ℕ). IsWithin n header_at 76) (sym torn.headers.size) has.placed;
      shaped = subst IsMessageHeader (sym header_bytes_same) has.shaped;
    }

  -- a live message whose bytes lie apart stands as it did
  pub live_same : (message : LoadedMessage) → ((i : ℕ) → Covers (Live message) i → at ≤ i → i < at + len → ⊥) → IsLiveIn old message → IsLiveIn new message
  live_same message apart live =
      let inside = live.live.placed.inside in
      let subfields_size : length (subfield_bytes message.subfields) ≡ (header_in old message.header_at).subfields =
      ap length live.subfields.spelled ∙ length-bytes_at (message.header_at + 76) (header_in old message.header_at).subfields (old Jhr) (omega arith) in
      let is = header_same message.header_at (λ i a b c d. apart i (a, omega (arith, b)) c d) in
      let subfields_same : bytes_at (message.header_at + 76) (header_in old message.header_at).subfields (new Jhr) ≡ bytes_at (message.header_at + 76) (header_in old message.header_at).subfields (old Jhr) =
      bytes_kept at len (message.header_at + 76) (header_in old message.header_at).subfields (old Jhr) (new Jhr) torn.headers (λ i a b c d. apart i (omega (arith, a), omega (arith, b, subfields_size)) c d) in
      record {
        header = has_header_same message.header_at (λ i a b c d. apart i (a, omega (arith, b)) c d) live.header;
        live = subst (λ (h : MessageHeader). IsLiveHeader (length (new Jhr)) (length (new Jdt)) message.header_at h) (sym is)
            (subst (λ (n : ℕ). IsLiveHeader n (length (new Jdt)) message.header_at (header_in old message.header_at)) (sym torn.headers.size)
            (subst (λ (l : List ℕ). IsLiveHeader (length (old Jhr)) (length l) message.header_at (header_in old message.header_at)) (sym torn.texts) live.live));
        subfields = subst (λ (h : MessageHeader). IsSubfieldList message.subfields (bytes_at (message.header_at + 76) h.subfields (new Jhr))) (sym is)
            (subst (IsSubfieldList message.subfields) (sym subfields_same) live.subfields);
        head = live.head ∙ ap head_of (sym is);
        text_at = live.text_at ∙ ap (λ (h : MessageHeader). h.offset) (sym is);
        text_len = live.text_len ∙ ap (λ (h : MessageHeader). h.text_len) (sym is);
      }

  -- a slot whose bytes lie apart is named as it was
  pub slot_same : (k : ℕ) (slot : LoadedSlot) → ((i : ℕ) → Covers slot i → at ≤ i → i < at + len → ⊥) → HasSlot old (entry_in old k) slot → HasSlot new (entry_in new k) slot
  slot_same k Empty apart has = ap (λ (e : IndexRecord). e.offset) (entry_same k) ∙ has
  slot_same k (Killed header_at) apart has =
      let near = λ (i : ℕ) (a : header_at ≤ i) (b : i < header_at + 76) (c : at ≤ i) (d : i < at + len). apart i (a, b) c d in (
        ap (λ (e : IndexRecord). e.offset) (entry_same k) ∙ has.0,
        record { header = has_header_same header_at near has.1.header; deleted = subst IsDeleted (sym (header_same header_at near)) has.1.deleted },
      )
  slot_same k (Live message) apart has = (
    ap (λ (e : IndexRecord). e.user_crc) (entry_same k) ∙ has.0,
    ap (λ (e : IndexRecord). e.offset) (entry_same k) ∙ has.1,
    live_same message apart has.2,
  )

-- one item in the place of another, which stands apart from all that the other does
pub pairs_set : {X : Type 0} (R : X → X → Type 0) (xs : List X) (place : ℕ) (one other : X) → slice_get xs place ≡ Some one
    → ((x : X) → R one x → R other x) → ((x : X) → R x one → R x other) → AllPairs R xs → AllPairs R (slice_set xs place other)
pairs_set {X} R xs place one other there first second pairs i j d low high =
    let inside = slice_get_within xs place one there in
    let within : j < length xs = omega (arith, length-set xs place other) in
    let was = pairs i j d low within in
    let was_one = λ (k : ℕ) (is : k ≡ place). ap (λ (n : ℕ). slice_index_or xs n d) is ∙ get_or_from_slice_get xs place one d there in
    let is_other = λ (k : ℕ) (is : k ≡ place). ap (λ (n : ℕ). slice_index_or (slice_set xs place other) n d) is ∙ get_or-set_same xs place other d inside in
    let kept = λ (k : ℕ) (apart : k ≢ place). get_or-set_other xs place k other d apart in
    elim (cases_eq i place) [
      | inl i_is ↦
          let j_apart : j ≢ place = λ is. omega (arith, is, i_is, low) in
          subst (λ (x : X). R x (slice_index_or (slice_set xs place other) j d)) (sym (is_other i i_is))
          (subst (R other) (sym (kept j j_apart)) (first (slice_index_or xs j d) (subst (λ (x : X). R x (slice_index_or xs j d)) (was_one i i_is) was)))
      | inr i_apart ↦ subst (λ (x : X). R x (slice_index_or (slice_set xs place other) j d)) (sym (kept i i_apart)) (elim (cases_eq j place) [
        | inl j_is ↦ subst (R (slice_index_or xs i d)) (sym (is_other j j_is)) (second (slice_index_or xs i d) (subst (R (slice_index_or xs i d)) (was_one j j_is) was))
        | inr j_apart ↦ subst (R (slice_index_or xs i d)) (sym (kept j j_apart)) was
      ])
    ]

-- the slot that stands at a place
pub slot_there : (files : Files) (loaded : Loaded) (place : ℕ) (slot : LoadedSlot) → Loads loaded files → slice_get loaded.slots place ≡ Some slot → HasSlot files (entry_in files place) slot
slot_there files loaded place slot loads there =
    subst (HasSlot files (entry_in files place)) (get_or_from_slice_get loaded.slots place slot Empty there) (loads.slots place Empty (slice_get_within loaded.slots place slot there))

-- a write inside the header of a live message: what the files hold then, where this slot stands at its place
module _ (old new : Files) (loaded : Loaded) (place : ℕ) (message : LoadedMessage) (slot : LoadedSlot)
    (torn : IsTornAt message.header_at 76 old new) (marks_are : new Jlr ≡ old Jlr) (loads : Loads loaded old) (there : IsMessageAt loaded place message) where
  -- another slot lies apart from it
  others_apart : (k : ℕ) (d : LoadedSlot) → k < length loaded.slots → k ≢ place
      → (i : ℕ) → Covers (slice_index_or loaded.slots k d) i → message.header_at ≤ i → i < message.header_at + 76 → ⊥
  others_apart k d low apart i covers over under =
      let is = get_or_from_slice_get loaded.slots place (Live message) d there in
      let here : Covers (Live message) i = (over, omega (arith, under)) in
      let here_too : Covers (slice_index_or loaded.slots place d) i = subst (λ (s : LoadedSlot). Covers s i) (sym is) here in
      elim (cases_lt k place) [
        | inl before ↦ loads.apart k place d before (slice_get_within loaded.slots place (Live message) there) i covers here_too
        | inr behind ↦ loads.apart place k d (omega (arith, behind, apart)) low i here_too covers
      ]

  -- each slot is named
  slots_then : HasSlot new (entry_in new place) slot → (k : ℕ) (d : LoadedSlot) → k < length (slice_set loaded.slots place slot)
      → HasSlot new (entry_in new k) (slice_index_or (slice_set loaded.slots place slot) k d)
  slots_then has k d low =
      let within : k < length loaded.slots = omega (arith, length-set loaded.slots place slot) in
      elim (cases_eq k place) [
        | inl is ↦ subst (λ (n : ℕ). HasSlot new (entry_in new n) (slice_index_or (slice_set loaded.slots place slot) n d)) (sym is)
            (subst (HasSlot new (entry_in new place)) (sym (get_or-set_same loaded.slots place slot d (slice_get_within loaded.slots place (Live message) there))) has)
        | inr apart ↦ subst (HasSlot new (entry_in new k)) (sym (get_or-set_other loaded.slots place k slot d apart))
            (slot_same message.header_at 76 old new torn k (slice_index_or loaded.slots k d) (others_apart k d within apart) (loads.slots k d within))
      ]

  -- the fixed header is as it was
  fixed_bytes_same : bytes_at 0 1024 (new Jhr) ≡ bytes_at 0 1024 (old Jhr)
  fixed_bytes_same =
      let live = (slot_there old loaded place (Live message) loads there).2 in
      let behind = live.header.placed.after in
      bytes_kept message.header_at 76 0 1024 (old Jhr) (new Jhr) torn.headers (λ i a b c d. omega (arith, b, c))

  -- the files hold the area with that slot
  pub loads_slot : ((i : ℕ) → Covers slot i → Covers (Live message) i) → HasSlot new (entry_in new place) slot → Loads (with_slot_at place slot loaded) new
  loads_slot covers has =
      let count = length-set loaded.slots place slot in
      record {
        header = subst IsFixedHeader (sym fixed_bytes_same) loads.header;
        fixed = loads.fixed ∙ ap fixed_header_of (sym fixed_bytes_same);
        base = loads.base;
        numbers = let most = loads.numbers in omega (arith, count);
        index = ap length torn.index ∙ loads.index ∙ ap (λ (n : ℕ). 8 * n) (sym count);
        slots = slots_then has;
        apart = pairs_set AreApart loaded.slots place (Live message) slot there
            (λ x apart i one other. apart i (covers i one) other) (λ x apart i one other. apart i one (covers i other)) loads.apart;
        lastread = ap length marks_are ∙ loads.lastread;
        marks = λ k d low. loads.marks k d low ∙ ap (λ (l : List ℕ). lastread_record_of (bytes_at (16 * k) 16 l)) (sym marks_are);
        few_marks = loads.few_marks;
        headers_len = loads.headers_len ∙ sym torn.headers.size;
        texts_len = loads.texts_len ∙ ap length (sym torn.texts);
      }

-- the numbers of a header that say which bytes belong to its message
pub record KeepsPlaces (old new : MessageHeader) : Type 0 where
  pub subfields : new.subfields ≡ old.subfields
  pub offset : new.offset ≡ old.offset
  pub text_len : new.text_len ≡ old.text_len

-- a live message whose header was written over, and which keeps its places and its life, stands with what the header is now
pub live_then : (old new : Files) (message : LoadedMessage) (head : Head) → IsTornAt message.header_at 76 old new → IsLiveIn old message
    → IsMessageHeader (bytes_at message.header_at 76 (new Jhr)) → KeepsPlaces (header_in old message.header_at) (header_in new message.header_at)
    → head ≡ head_of (header_in new message.header_at) → bit_and head.attribute DELETED ≡ 0 → IsLiveIn new (record message { head = head })
live_then old new message head torn live shaped places head_is undeleted =
    let size = torn.headers.size in
    let texts_size = ap length torn.texts in
    let was = live.live in
    let subfields_same : bytes_at (message.header_at + 76) (header_in new message.header_at).subfields (new Jhr)
    ≡ bytes_at (message.header_at + 76) (header_in old message.header_at).subfields (old Jhr) =
    ap (λ (n : ℕ). bytes_at (message.header_at + 76) n (new Jhr)) places.subfields
    ∙ bytes_kept message.header_at 76 (message.header_at + 76) (header_in old message.header_at).subfields (old Jhr) (new Jhr) torn.headers (λ i a b c d. omega (arith, a, d)) in
    record {
      header = record { placed = subst (λ (n : ℕ). IsWithin n message.header_at 76) (sym size) live.header.placed; shaped = shaped };
      live = record {
        live = subst (λ (h : Head). bit_and h.attribute DELETED ≡ 0) head_is undeleted;
        few_bytes = subst (λ (n : ℕ). n ≤ MOST_SUBFIELD_BYTES) (sym places.subfields) was.few_bytes;
        placed = subst (λ (n : ℕ). IsWithin (length (new Jhr)) message.header_at (76 + n)) (sym places.subfields)
            (subst (λ (n : ℕ). IsWithin n message.header_at (76 + (header_in old message.header_at).subfields)) (sym size) was.placed);
        text = subst (λ (n : ℕ). IsTextWithin (length (new Jdt)) n (header_in new message.header_at).text_len) (sym places.offset)
            (subst (λ (n : ℕ). IsTextWithin (length (new Jdt)) (header_in old message.header_at).offset n) (sym places.text_len)
            (subst (λ (n : ℕ). IsTextWithin n (header_in old message.header_at).offset (header_in old message.header_at).text_len) (sym texts_size) was.text));
      };
      subfields = subst (IsSubfieldList message.subfields) (sym subfields_same) live.subfields;
      head = head_is;
      text_at = live.text_at ∙ sym places.offset;
      text_len = live.text_len ∙ sym places.text_len;
    }

-- a write into a live message's header, behind its first twelve bytes and before the places of its text
module _ (files : Files) (loaded : Loaded) (place : ℕ) (message : LoadedMessage) (loads : Loads loaded files) (there : IsMessageAt loaded place message)
    (o : ℕ) (bytes : List ℕ) (low : 12 ≤ o) (high : o + length bytes ≤ 60) (o_whole : o % 4 ≡ 0) (whole : length bytes % 4 ≡ 0) where
  -- the files then
  abbrev after : Files
  after = written Jhr (message.header_at + o) bytes files

  -- the message as it stood
  stood : IsLiveIn files message
  stood = (slot_there files loaded place (Live message) loads there).2

  -- its header ends within the file
  pub header_room : message.header_at + 76 ≤ length (files Jhr)
  header_room = stood.header.placed.inside

  -- .JHR then
  headers_then : after Jhr ≡ overwritten (message.header_at + o) bytes (files Jhr)
  headers_then = with_file-here Jhr (overwritten (message.header_at + o) bytes (files Jhr)) files

  -- the header's numbers then
  pub header_then : header_in after message.header_at ≡ with_bytes o bytes (header_in files message.header_at)
  header_then = ap (λ (l : List ℕ). message_header_of (bytes_at message.header_at 76 l)) headers_then
      ∙ header_put message.header_at o bytes (files Jhr) header_room low (omega arith) o_whole whole

  -- it is still a header
  shaped_then : IsMessageHeader (bytes_at message.header_at 76 (after Jhr))
  shaped_then = subst (λ (l : List ℕ). IsMessageHeader (bytes_at message.header_at 76 l)) (sym headers_then)
      (still_header message.header_at o bytes (files Jhr) header_room low (omega arith) o_whole whole stood.header.shaped)

  -- only bytes of it are open
  torn_then : IsTornAt message.header_at 76 files after
  torn_then =
      let room = header_room in
      let written_there = torn-written (message.header_at + o) bytes files (omega arith) in
      record {
        headers = torn-wider (message.header_at + o) (length bytes) message.header_at 76 (files Jhr) (after Jhr) (omega arith) (omega arith) written_there.headers;
        index = written_there.index;
        texts = written_there.texts;
      }

  -- no mark is another
  marks_then : after Jlr ≡ files Jlr
  marks_then = with_file-other Jhr Jlr (overwritten (message.header_at + o) bytes (files Jhr)) files (λ is. absurd (omega (arith, ap file_number is)))

  -- the files hold the area with the fields that the header has then
  pub loads_head : (head : Head) → head ≡ head_of (with_bytes o bytes (header_in files message.header_at)) → bit_and head.attribute DELETED ≡ 0
      → Loads (with_head_at place head message loaded) after
  loads_head head is undeleted =
      let was = slot_there files loaded place (Live message) loads there in
      let places : KeepsPlaces (header_in files message.header_at) (with_bytes o bytes (header_in files message.header_at)) = record {
        subfields = refl;
        offset = number_over_past o bytes 60 (header_in files message.header_at).offset high;
        text_len = number_over_past o bytes 64 (header_in files message.header_at).text_len (omega arith);
      } in
      loads_slot files after loaded place message (Live (record message { head = head })) torn_then marks_then loads there (λ i covers. covers) (
        ap (λ (e : IndexRecord). e.user_crc) (entry_same message.header_at 76 files after torn_then place) ∙ was.0,
        ap (λ (e : IndexRecord). e.offset) (entry_same message.header_at 76 files after torn_then place) ∙ was.1,
        live_then files after message head torn_then was.2 shaped_then (subst (KeepsPlaces (header_in files message.header_at)) (sym header_then) places) (is ∙ ap head_of (sym header_then)) undeleted,
      )

  -- the files hold the area with the message killed, where its header says so then
  pub loads_killed : IsDeleted (with_bytes o bytes (header_in files message.header_at)) → Loads (with_killed_at place message loaded) after
  loads_killed deleted =
      let was = slot_there files loaded place (Live message) loads there in
      loads_slot files after loaded place message (Killed message.header_at) torn_then marks_then loads there (λ i covers. (covers.0, omega (arith, covers.1))) (
        ap (λ (e : IndexRecord). e.offset) (entry_same message.header_at 76 files after torn_then place) ∙ was.1,
        record {
          header = record { placed = subst (λ (n : ℕ). IsWithin n message.header_at 76) (sym torn_then.headers.size) stood.header.placed; shaped = shaped_then };
          deleted = subst IsDeleted (sym header_then) deleted;
        },
      )
