-- The area that longer files hold: one message more, or one mark more.
use Rattle.std.proofs.Common.{◌≡◌, inl, inr, ℕ, ◌+◌, ◌*◌, ◌<◌, ◌≤◌, List, [], ◌∷◌, ◌++◌, All, length, refl, ap, sym, ◌∙◌, subst, arith, length-append, length-take}
use Rattle.std.specs.Prelude.{slice_index_or}
use Rattle.std.proofs.lemmas.Bool.{cases_lt}
use Rattle.std.proofs.lemmas.List.{append-nil, get_or_append_left, get_or_push, length_push}
use Rattle.std.proofs.lemmas.List.Quantifiers.{all_pairs_push}
use Rattle.jb_limits.specs.declared.limits.TheConstants.{MOST_MARKS}
use Rattle.jb_bytes.specs.Subfields.{IsSubfield, subfield_bytes}
use Rattle.jb_disk.specs.Files.{Files}
use Rattle.jb_disk.specs.declared.file.FileId.TheVariants.{Jhr, Jdt, Jdx, Jlr}
use Rattle.jb_state.specs.Loaded.{header_size, with_marks, with_message_behind}
use Rattle.jb_state.specs.Sound.{AreApart, Covers}
use Rattle.jb_state.specs.declared.loaded.Loaded.{Loaded}
use Rattle.jb_state.specs.declared.loaded.LoadedMessage.{LoadedMessage}
use Rattle.jb_state.specs.declared.loaded.LoadedSlot.{LoadedSlot}
use Rattle.jb_state.specs.declared.loaded.LoadedSlot.TheVariants.{Empty, Killed, Live}
use Rattle.jb_state.specs.declared.mark.Mark.{Mark}
use Rattle.jb_record.specs.Fixed.{IsFixedHeader, fixed_header_of}
use Rattle.jb_record.specs.Index.{index_record_bytes, index_record_of}
use Rattle.jb_record.specs.Lastread.{lastread_record_bytes, lastread_record_of}
use Rattle.jb_record.specs.Message.{IsMessageHeader, message_header_bytes, message_header_of}
use Rattle.jb_record.specs.declared.index.IndexRecord.{IndexRecord}
use Rattle.jb_record.specs.declared.message.MessageHeader.{MessageHeader}
use Rattle.jb_image.specs.Places.{bytes_at, entry_in, header_in, mark_record_at}
use Rattle.jb_image.specs.Stands.{HasSlot, IsLiveHeader, IsLiveIn, Loads, head_of, mark_record}
use Rattle.jb_change.specs.Post.{IsAtEnds, IsNext, number_behind}
use Rattle.jb_image.specs.Records.{IsEntryReadAgain, IsHeaderReadAgain, IsMarkReadAgain, entry_for, message_bytes, numbered_header}
use Rattle.jb_change.proofs.EndLemmas.{at_end, below_end, past_end}
use Rattle.jb_change.proofs.KeptLemmas.{entry_kept, mark_kept, slot_kept}
use Rattle.jb_image.proofs.RecordLemmas.{length-entry, length-mark, length-message, shaped_header}
use Rattle.jb_image.proofs.FileBytes.{length-bytes_at}

-- .JHR is no shorter than the fixed header
pub fixed_whole : (files : Files) (loaded : Loaded) → Loads loaded files → 1024 ≤ length (files Jhr)
fixed_whole files loaded loads =
    let size = loads.header.size in
    omega (arith, length-take 1024 (files Jhr))

-- a slot of the files takes no byte past their end
covers_below : (files : Files) (entry : IndexRecord) (slot : LoadedSlot) (i : ℕ) → HasSlot files entry slot → Covers slot i → i < length (files Jhr)
covers_below files entry Empty i is covered = absurd covered
covers_below files entry (Killed header_at) i is covered = omega (arith, covered.1, is.1.header.placed.inside)
covers_below files entry (Live message) i is covered =
    let inside = is.2.live.placed.inside in
    let spelled = ap length is.2.subfields.spelled in
    let size = length-bytes_at (message.header_at + 76) (header_in files message.header_at).subfields (files Jhr) (omega arith) in
    omega (arith, covered.1)

-- the bytes of its header and of its index record, read again, give both
pub record AreReadAgain (loaded : Loaded) (message : LoadedMessage) : Type 0 where
  pub header : IsHeaderReadAgain (number_behind loaded) message
  pub entry : IsEntryReadAgain (entry_for (Live message))

-- as the records of a message behind these slots are
pub read_again : (loaded : Loaded) (message : LoadedMessage) (slots : List LoadedSlot) → slots ≡ loaded.slots
    → IsHeaderReadAgain (loaded.base + length slots) message → IsEntryReadAgain (entry_for (Live message)) → AreReadAgain loaded message
read_again loaded message slots same header entry = record {
  header = subst (λ (l : List LoadedSlot). IsHeaderReadAgain (loaded.base + length l) message) same header;
  entry = entry;
}

-- a message at the ends of longer files
module _ (files after : Files) (loaded : Loaded) (message : LoadedMessage) (text : List ℕ) (number : ℕ)
    (loads : Loads loaded files) (ends : IsAtEnds loaded message text) (back : IsHeaderReadAgain number message) (each : All IsSubfield message.subfields)
    (jhr : after Jhr ≡ files Jhr ++ message_bytes number message) (jdt : after Jdt ≡ files Jdt ++ text) where
  -- the message stands where .JHR ended
  stands_at_end : message.header_at ≡ length (files Jhr)
  stands_at_end = ends.header_at ∙ loads.headers_len

  -- how long .JHR is now
  pub length-headers : length (after Jhr) ≡ length (files Jhr) + header_size message
  length-headers = omega (arith, ap length jhr, length-append (files Jhr) (message_bytes number message), length-message number message)

  -- the bytes of its header
  header_bytes_there : bytes_at message.header_at 76 (after Jhr) ≡ message_header_bytes (numbered_header number message)
  header_bytes_there =
      let shaped = shaped_header (numbered_header number message) in
      at_end (files Jhr) (after Jhr) (message_header_bytes (numbered_header number message)) (subfield_bytes message.subfields) message.header_at 76 jhr stands_at_end (sym shaped.size)

  -- its header
  pub header_there : header_in after message.header_at ≡ numbered_header number message
  header_there = ap message_header_of header_bytes_there ∙ back

  -- the bytes of its subfields
  subfields_there : bytes_at (message.header_at + 76) (length (subfield_bytes message.subfields)) (after Jhr) ≡ subfield_bytes message.subfields
  subfields_there =
      let shaped = shaped_header (numbered_header number message) in
      let size = shaped.size in
      past_end (files Jhr) (after Jhr) (message_header_bytes (numbered_header number message)) (subfield_bytes message.subfields) (message.header_at + 76) _ jhr
      (omega (arith, stands_at_end)) refl

  -- the message is there
  pub message_there : IsLiveIn after message
  message_there =
      let whole = fixed_whole files loaded loads in
      let fits = ends.headers_fit in
      let long = length-headers in
      let at_is = stands_at_end in
      let texts_long : length (after Jdt) ≡ length (files Jdt) + length text = ap length jdt ∙ length-append (files Jdt) text in
      let bytes : bytes_at (message.header_at + 76) (header_in after message.header_at).subfields (after Jhr) ≡ subfield_bytes message.subfields =
      ap (λ (h : MessageHeader). bytes_at (message.header_at + 76) h.subfields (after Jhr)) header_there ∙ subfields_there in
      record {
        header = record {
          placed = record { after = omega arith; inside = omega arith; below = omega (arith, ends.header_at) };
          shaped = subst IsMessageHeader (sym header_bytes_there) (shaped_header (numbered_header number message));
        };
        live = subst (IsLiveHeader (length (after Jhr)) (length (after Jdt)) message.header_at) (sym header_there) (record {
          live = ends.live;
          few_bytes = ends.few_bytes;
          placed = record { after = omega arith; inside = omega arith; below = omega (arith, ends.header_at) };
          text = record {
            short = omega (arith, ends.text_len, ends.short_text);
            placed = inr (omega (arith, ends.text_at, ends.text_len, loads.texts_len), omega (arith, ends.text_at, ends.texts_fit));
          };
        });
        subfields = record { each = each; spelled = sym bytes };
        head = sym (ap head_of header_there);
        text_at = sym (ap (λ (h : MessageHeader). h.offset) header_there);
        text_len = sym (ap (λ (h : MessageHeader). h.text_len) header_there);
      }

  -- it lies apart from each slot
  pub apart_there : (k : ℕ) (d : LoadedSlot) → k < length loaded.slots → AreApart (slice_index_or loaded.slots k d) (Live message)
  apart_there k d low i one other =
      let below : i < length (files Jhr) = covers_below files (entry_in files k) (slice_index_or loaded.slots k d) i (loads.slots k d low) one in
      let at_is = stands_at_end in
      omega (arith, other.0)

  -- the fixed header is as it was
  pub fixed_there : bytes_at 0 1024 (after Jhr) ≡ bytes_at 0 1024 (files Jhr)
  fixed_there =
      let whole = fixed_whole files loaded loads in
      below_end (files Jhr) (after Jhr) _ 0 1024 jhr (omega arith)

  -- how long the files are now
  pub headers_len_there : loaded.headers_len + header_size message ≡ length (after Jhr)
  headers_len_there = ap (λ (n : ℕ). n + header_size message) loads.headers_len ∙ sym length-headers

  pub texts_len_there : loaded.texts_len + message.text_len ≡ length (after Jdt)
  texts_len_there = omega (arith, loads.texts_len, ends.text_len, ap length jdt, length-append (files Jdt) text)

module _ (files after : Files) (loaded : Loaded) (message : LoadedMessage) (text : List ℕ)
    (loads : Loads loaded files) (next : IsNext loaded message text) (back : AreReadAgain loaded message) (each : All IsSubfield message.subfields)
    (jhr : after Jhr ≡ files Jhr ++ message_bytes (number_behind loaded) message)
    (jdt : after Jdt ≡ files Jdt ++ text) (jdx : after Jdx ≡ files Jdx ++ index_record_bytes (entry_for (Live message))) (jlr : after Jlr ≡ files Jlr) where
  -- its index record
  entry_there : entry_in after (length loaded.slots) ≡ entry_for (Live message)
  entry_there =
      ap index_record_of (at_end (files Jdx) (after Jdx) (index_record_bytes (entry_for (Live message))) [] (8 * length loaded.slots) 8
      (jdx ∙ ap (λ (l : List ℕ). files Jdx ++ l) (sym (append-nil (index_record_bytes (entry_for (Live message)))))) (sym loads.index) (sym (length-entry (entry_for (Live message)))))
      ∙ back.entry

  -- each slot is there
  slots_there : (k : ℕ) (d : LoadedSlot) → k < length (loaded.slots ++ Live message ∷ []) → HasSlot after (entry_in after k) (slice_index_or (loaded.slots ++ Live message ∷ []) k d)
  slots_there k d low = elim (cases_lt k (length loaded.slots)) [
    | inl old ↦
        let same : entry_in after k ≡ entry_in files k = entry_kept files after _ k jdx (omega (arith, loads.index)) in
        let slot : slice_index_or (loaded.slots ++ Live message ∷ []) k d ≡ slice_index_or loaded.slots k d = get_or_append_left loaded.slots (Live message ∷ []) d k old in
        subst (HasSlot after (entry_in after k)) (sym slot)
        (subst (λ (e : IndexRecord). HasSlot after e (slice_index_or loaded.slots k d)) (sym same) (slot_kept files after _ _ jhr jdt (entry_in files k) _ (loads.slots k d old)))
    | inr new ↦
        let last : length loaded.slots ≡ k = omega (arith, length_push loaded.slots (Live message)) in
        let slot : slice_index_or (loaded.slots ++ Live message ∷ []) k d ≡ Live message = get_or_push loaded.slots (Live message) d k last in
        let entry : entry_in after k ≡ entry_for (Live message) = ap (entry_in after) (sym last) ∙ entry_there in
        let there : IsLiveIn after message = message_there files after loaded message text (number_behind loaded) loads next.ends back.header each jhr jdt in
        subst (HasSlot after (entry_in after k)) (sym slot) (subst (λ (e : IndexRecord). HasSlot after e (Live message)) (sym entry) (refl, refl, there))
  ]

  -- the files hold the area with the message
  pub posted : Loads (with_message_behind message loaded) after
  posted =
      let first : bytes_at 0 1024 (after Jhr) ≡ bytes_at 0 1024 (files Jhr) = fixed_there files after loaded message text (number_behind loaded) loads next.ends back.header each jhr jdt in
      record {
        header = subst IsFixedHeader (sym first) loads.header;
        fixed = loads.fixed ∙ sym (ap fixed_header_of first);
        base = loads.base;
        numbers = omega (arith, next.numbers, length_push loaded.slots (Live message));
        index = omega (arith, ap length jdx, length-append (files Jdx) (index_record_bytes (entry_for (Live message))), length-entry (entry_for (Live message)), loads.index, length_push loaded.slots (Live message));
        slots = slots_there;
        apart = all_pairs_push AreApart loaded.slots (Live message) loads.apart (apart_there files after loaded message text (number_behind loaded) loads next.ends back.header each jhr jdt);
        lastread = ap length jlr ∙ loads.lastread;
        marks = λ k d low. loads.marks k d low ∙ sym (ap (λ (l : List ℕ). lastread_record_of (bytes_at (16 * k) 16 l)) jlr);
        few_marks = loads.few_marks;
        headers_len = headers_len_there files after loaded message text (number_behind loaded) loads next.ends back.header each jhr jdt;
        texts_len = texts_len_there files after loaded message text (number_behind loaded) loads next.ends back.header each jhr jdt;
      }

module _ (files after : Files) (loaded : Loaded) (mark : Mark) (loads : Loads loaded files) (back : IsMarkReadAgain mark) (few : length loaded.marks < MOST_MARKS)
    (jhr : after Jhr ≡ files Jhr) (jdt : after Jdt ≡ files Jdt) (jdx : after Jdx ≡ files Jdx)
    (jlr : after Jlr ≡ files Jlr ++ lastread_record_bytes (mark_record mark)) where
  -- each mark is there
  marks_there : (k : ℕ) (d : Mark) → k < length (loaded.marks ++ mark ∷ []) → mark_record (slice_index_or (loaded.marks ++ mark ∷ []) k d) ≡ mark_record_at after k
  marks_there k d low = elim (cases_lt k (length loaded.marks)) [
    | inl old ↦
        ap mark_record (get_or_append_left loaded.marks (mark ∷ []) d k old) ∙ loads.marks k d old
        ∙ sym (mark_kept files after _ k jlr (omega (arith, loads.lastread)))
    | inr new ↦
        let last : length loaded.marks ≡ k = omega (arith, length_push loaded.marks mark) in
        let bytes : bytes_at (16 * k) 16 (after Jlr) ≡ lastread_record_bytes (mark_record mark) =
        at_end (files Jlr) (after Jlr) (lastread_record_bytes (mark_record mark)) [] (16 * k) 16
        (jlr ∙ ap (λ (l : List ℕ). files Jlr ++ l) (sym (append-nil (lastread_record_bytes (mark_record mark))))) (omega (arith, loads.lastread)) (sym (length-mark (mark_record mark))) in
        ap mark_record (get_or_push loaded.marks mark d k last) ∙ sym back ∙ sym (ap lastread_record_of bytes)
  ]

  -- the files hold the area with the mark
  pub marked : Loads (with_marks (loaded.marks ++ mark ∷ []) loaded) after
  marked =
      let same_headers : after Jhr ≡ files Jhr ++ [] = jhr ∙ sym (append-nil (files Jhr)) in
      let same_texts : after Jdt ≡ files Jdt ++ [] = jdt ∙ sym (append-nil (files Jdt)) in
      record {
        header = subst (λ (l : List ℕ). IsFixedHeader (bytes_at 0 1024 l)) (sym jhr) loads.header;
        fixed = loads.fixed ∙ sym (ap (λ (l : List ℕ). fixed_header_of (bytes_at 0 1024 l)) jhr);
        base = loads.base;
        numbers = loads.numbers;
        index = ap length jdx ∙ loads.index;
        slots = λ k d low.
            subst (λ (e : IndexRecord). HasSlot after e (slice_index_or loaded.slots k d)) (sym (ap (λ (l : List ℕ). index_record_of (bytes_at (8 * k) 8 l)) jdx))
            (slot_kept files after [] [] same_headers same_texts (entry_in files k) _ (loads.slots k d low));
        apart = loads.apart;
        lastread = omega (arith, ap length jlr, length-append (files Jlr) (lastread_record_bytes (mark_record mark)), length-mark (mark_record mark), loads.lastread, length_push loaded.marks mark);
        marks = marks_there;
        few_marks = omega (arith, length_push loaded.marks mark);
        headers_len = loads.headers_len ∙ sym (ap length jhr);
        texts_len = loads.texts_len ∙ sym (ap length jdt);
      }
