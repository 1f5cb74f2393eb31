-- A message in the place of another, behind all others, as a change of the files.
use Rattle.std.proofs.Common.{◌≡◌, ◌≢◌, ◌⊎◌, inl, inr, ℕ, ◌+◌, ◌*◌, ◌<◌, ◌≤◌, List, [], ◌∷◌, ◌++◌, All, length, Some, ap, sym, refl, ◌∙◌, subst, arith, length-set}
use Rattle.jb_disk.specs.declared.version.Version.TheVariants.{Two}
use Rattle.std.specs.List.{flat_map}
use Rattle.std.specs.Prelude.{◌^◌, AllPairs, option_and_then, slice_index_or, slice_set}
use Rattle.std.proofs.lemmas.Bool.{cases_eq, cases_lt}
use Rattle.std.proofs.lemmas.List.{get_or-set_same, get_or-set_other, take_all}
use Rattle.std.proofs.lemmas.List.Elements.{All-nil, All-cons}
use Rattle.std.proofs.lemmas.List.Kept.{AllPairs-cons}
use Rattle.std.proofs.lemmas.Option.{slice_get_within}
use Rattle.jb_bytes.specs.Subfields.{IsSubfield}
use Rattle.jb_disk.specs.FileLaws.{length-overwritten, with_file-here}
use Rattle.jb_disk.specs.Files.{Files, file_number, overwritten}
use Rattle.jb_disk.specs.RedoView.{RedoView}
use Rattle.jb_disk.specs.declared.file.FileId.{FileId}
use Rattle.jb_disk.specs.declared.file.FileId.TheVariants.{Jhr, Jdt, Jdx, Jlr, Jnl, Ndt}
use Rattle.jb_disk.specs.declared.piece.Length.{Length}
use Rattle.jb_disk.specs.declared.piece.Piece.{Piece}
use Rattle.jb_disk.specs.declared.piece.Piece.TheVariants.{Bytes}
use Rattle.jb_image.proofs.RecordLemmas.{length-entry, length-message}
use Rattle.jb_image.specs.Places.{bytes_at, entry_in, header_in}
use Rattle.jb_image.specs.Records.{IsEntryReadAgain, IsHeaderReadAgain, entry_for, message_bytes}
use Rattle.jb_image.specs.Stands.{HasSlot, IsLiveIn, Loads}
use Rattle.jb_record.specs.Fixed.{IsFixedHeader, fixed_header_of}
use Rattle.jb_record.specs.Index.{index_record_bytes, index_record_of}
use Rattle.jb_record.specs.Lastread.{lastread_record_of}
use Rattle.jb_record.specs.Message.{message_header_of}
use Rattle.jb_record.specs.declared.index.IndexRecord.{IndexRecord}
use Rattle.jb_record.specs.declared.message.MessageHeader.{MessageHeader}
use Rattle.jb_redo.proofs.LengthLemmas.{length-pieces, length-record}
use Rattle.jb_redo.specs.Changes.{changed, record_size}
use Rattle.jb_redo.specs.Record.{piece_bytes}
use Rattle.jb_redo.specs.Replay.{IsGrowthCovered, applied}
use Rattle.jb_redo.specs.Rules.{AreLegalLengths, IsBefore, IsLegalLength, IsLegalPiece, IsLegalRecord, new_sizes, sizes_of}
use Rattle.jb_state.proofs.EditLaws.{get_set_other, get_set_same}
use Rattle.jb_state.specs.Loaded.{IsMessageAt, header_size, with_counts, with_message_anew}
use Rattle.jb_state.specs.Sound.{AreApart}
use Rattle.jb_state.specs.declared.change.Change.TheVariants.{Edited}
use Rattle.jb_state.specs.declared.loaded.Loaded.{Loaded}
use Rattle.jb_state.specs.declared.loaded.LoadedMessage.{LoadedMessage}
use Rattle.jb_state.specs.declared.loaded.LoadedSlot.{LoadedSlot}
use Rattle.jb_state.specs.declared.loaded.LoadedSlot.TheVariants.{Live}
use Rattle.jb_change.specs.Behind.{AppendsOnly}
use Rattle.jb_change.specs.Changing.{ChangesArea, Puts, WritesOnly}
use Rattle.jb_change.specs.Headers.{KeepsNumbersBut, KeepsPlacesBut, UpdatesBut, header_place, header_place_at}
use Rattle.jb_change.specs.Makes.{Makes}
use Rattle.jb_change.specs.Post.{HasNumber, IsAtEnds, message_lengths, message_pieces}
use Rattle.jb_change.specs.Put.{IsMoved, LeavesBut, MayWrite}
use Rattle.jb_change.proofs.ByteLemmas.{bytes_beside, bytes_inside, torn-overwritten}
use Rattle.jb_change.proofs.EndLemmas.{kept_behind, kept_same, one_behind, same_length}
use Rattle.jb_change.proofs.KeptLemmas.{slot_kept}
use Rattle.jb_change.proofs.LeavesLemmas.{leaves_behind, leaves_then}
use Rattle.jb_change.proofs.LongerLemmas.{apart_there, fixed_there, fixed_whole, header_there, headers_len_there, message_there, texts_len_there}
use Rattle.jb_change.proofs.PieceLemmas.{grown_then, legal_then, put_done, put_only}
use Rattle.jb_change.proofs.PostLemmas.{no_pairs}
use Rattle.jb_change.proofs.UpdateLemmas.{numbers_behind, numbers_counted}

-- one item in the place of another, which stands apart from all that were there
pairs_anew : {X : Type 0} (R : X → X → Type 0) (xs : List X) (place : ℕ) (one : X) → place < length xs
    → ((k : ℕ) (d : X) → k < length xs → R one (slice_index_or xs k d)) → ((k : ℕ) (d : X) → k < length xs → R (slice_index_or xs k d) one)
    → AllPairs R xs → AllPairs R (slice_set xs place one)
pairs_anew {X} R xs place one inside first second pairs i j d low high =
    let within : j < length xs = omega (arith, high, length-set xs place one) in
    let now = λ (k : ℕ) (is : k ≡ place). ap (λ (n : ℕ). slice_index_or (slice_set xs place one) n d) is ∙ get_or-set_same xs place one d inside in
    let kept = λ (k : ℕ) (apart : k ≢ place). get_or-set_other xs place k one d apart in
    elim (cases_eq i place) [
      | inl i_is ↦
          let j_apart : j ≢ place = λ is. omega (arith, is, i_is, low) in
          subst (λ (x : X). R x (slice_index_or (slice_set xs place one) j d)) (sym (now i i_is)) (subst (R one) (sym (kept j j_apart)) (first j d within))
      | inr i_apart ↦ subst (λ (x : X). R x (slice_index_or (slice_set xs place one) j d)) (sym (kept i i_apart)) (elim (cases_eq j place) [
        | inl j_is ↦ subst (R (slice_index_or xs i d)) (sym (now j j_is)) (second i d (omega (arith, low, within)))
        | inr j_apart ↦ subst (R (slice_index_or xs i d)) (sym (kept j j_apart)) (pairs i j d low within)
      ])
    ]

-- files whose headers and texts have a message behind, and whose index names it in the place of another
module _ (files now : Files) (loaded : Loaded) (message : LoadedMessage) (text : List ℕ) (number place : ℕ)
    (loads : Loads loaded files) (ends : IsAtEnds loaded message text) (back : IsHeaderReadAgain number message) (each : All IsSubfield message.subfields)
    (entry : IsEntryReadAgain (entry_for (Live message))) (within : place < length loaded.slots)
    (jhr : now Jhr ≡ files Jhr ++ message_bytes number message) (jdt : now Jdt ≡ files Jdt ++ text)
    (jdx : now Jdx ≡ overwritten (8 * place) (index_record_bytes (entry_for (Live message))) (files Jdx)) (jlr : now Jlr ≡ files Jlr) where
  -- its index record
  abbrev record_bytes : List ℕ
  record_bytes = index_record_bytes (entry_for (Live message))

  -- which lies within the index
  record_inside : 8 * place + length record_bytes ≤ length (files Jdx)
  record_inside = omega (arith, length-entry (entry_for (Live message)), loads.index, within)

  -- is there
  entry_anew : entry_in now place ≡ entry_for (Live message)
  entry_anew =
      let size = length-entry (entry_for (Live message)) in
      ap (λ (l : List ℕ). index_record_of (bytes_at (8 * place) 8 l)) jdx
      ∙ ap index_record_of (bytes_inside (8 * place) record_bytes (files Jdx) (8 * place) 0 8 record_inside (omega arith) (omega (arith, size)) ∙ take_all 8 record_bytes (omega (arith, size)))
      ∙ entry

  -- and every other is as it was
  entry_beside : (k : ℕ) → k ≢ place → entry_in now k ≡ entry_in files k
  entry_beside k apart =
      let size = length-entry (entry_for (Live message)) in
      let beside : (8 * k + 8 ≤ 8 * place) ⊎ (8 * place + length record_bytes ≤ 8 * k) = elim (cases_lt k place) [
        | inl before ↦ inl (omega (arith, before))
        | inr behind ↦ inr (omega (arith, behind, apart, size))
      ] in
      ap (λ (l : List ℕ). index_record_of (bytes_at (8 * k) 8 l)) jdx
      ∙ ap index_record_of (bytes_beside (8 * place) (length record_bytes) (8 * k) 8 (files Jdx) _ (torn-overwritten (8 * place) record_bytes (files Jdx) record_inside) beside)

  -- each slot is there
  slots_anew : (k : ℕ) (d : LoadedSlot) → k < length (slice_set loaded.slots place (Live message)) → HasSlot now (entry_in now k) (slice_index_or (slice_set loaded.slots place (Live message)) k d)
  slots_anew k d low = elim (cases_eq k place) [
    | inl is ↦
        let there : IsLiveIn now message = message_there files now loaded message text number loads ends back each jhr jdt in
        let named : HasSlot now (entry_in now place) (Live message) = subst (λ (e : IndexRecord). HasSlot now e (Live message)) (sym entry_anew) (refl, refl, there) in
        subst (λ (n : ℕ). HasSlot now (entry_in now n) (slice_index_or (slice_set loaded.slots place (Live message)) n d)) (sym is)
        (subst (HasSlot now (entry_in now place)) (sym (get_or-set_same loaded.slots place (Live message) d within)) named)
    | inr apart ↦
        let old : k < length loaded.slots = omega (arith, low, length-set loaded.slots place (Live message)) in
        subst (HasSlot now (entry_in now k)) (sym (get_or-set_other loaded.slots place k (Live message) d apart))
        (subst (λ (e : IndexRecord). HasSlot now e (slice_index_or loaded.slots k d)) (sym (entry_beside k apart)) (slot_kept files now _ _ jhr jdt (entry_in files k) _ (loads.slots k d old)))
  ]

  -- the files hold the area with the message in that place
  pub loads_anew : Loads (with_message_anew place message loaded) now
  loads_anew =
      let count = length-set loaded.slots place (Live message) in
      let size = ap length jdx ∙ length-overwritten (8 * place) record_bytes (files Jdx) record_inside in
      let first : bytes_at 0 1024 (now Jhr) ≡ bytes_at 0 1024 (files Jhr) = fixed_there files now loaded message text number loads ends back each jhr jdt in
      let apart = apart_there files now loaded message text number loads ends back each jhr jdt in
      record {
        header = subst IsFixedHeader (sym first) loads.header;
        fixed = loads.fixed ∙ sym (ap fixed_header_of first);
        base = loads.base;
        numbers = omega (arith, loads.numbers, count);
        index = size ∙ loads.index ∙ ap (λ (n : ℕ). 8 * n) (sym count);
        slots = slots_anew;
        apart = pairs_anew AreApart loaded.slots place (Live message) within (λ k d low i one other. apart k d low i other one) apart loads.apart;
        lastread = ap length jlr ∙ loads.lastread;
        marks = λ k d low. loads.marks k d low ∙ sym (ap (λ (l : List ℕ). lastread_record_of (bytes_at (16 * k) 16 l)) jlr);
        few_marks = loads.few_marks;
        headers_len = headers_len_there files now loaded message text number loads ends back each jhr jdt;
        texts_len = texts_len_there files now loaded message text number loads ends back each jhr jdt;
      }

-- its lengths are legal
pub legal_message_lengths : (loaded : Loaded) (message : LoadedMessage) (text : List ℕ) → IsAtEnds loaded message text → AreLegalLengths Two (message_lengths message)
legal_message_lengths loaded message text ends =
    let headers : Length = record { file = Jhr; len = message.header_at + header_size message } in
    let texts : Length = record { file = Jdt; len = message.text_at + message.text_len } in
    let none : List Length = [] in
    record {
      few = omega arith;
      each =
          All-cons (IsLegalLength Two) headers (texts ∷ []) (record { of_base = omega arith; ceiling = omega (arith, ends.header_at, ends.headers_fit) })
          (All-cons (IsLegalLength Two) texts none (record { of_base = omega arith; ceiling = omega (arith, ends.text_at, ends.texts_fit) }) (All-nil (IsLegalLength Two)));
      rising =
          AllPairs-cons IsBefore headers (texts ∷ []) (All-cons (IsBefore headers) texts none (omega arith) (All-nil (IsBefore headers)))
          (AllPairs-cons IsBefore texts none (All-nil (IsBefore texts)) no_pairs);
    }

-- the header and the text behind the others
module _ (loaded : Loaded) (message : LoadedMessage) (text : List ℕ) (number : ℕ) (ends : IsAtEnds loaded message text) (change : RedoView)
    (lengths_are : change.lengths ≡ message_lengths message) (pieces_are : change.pieces ≡ message_pieces number message text) where
  -- how long the record is
  pub size_of_message : record_size change ≡ 88 + header_size message + length text
  size_of_message =
      let header : Piece = Bytes Jhr message.header_at (message_bytes number message) in
      let words : Piece = Bytes Jdt message.text_at text in
      let lengths_size : length change.lengths ≡ 2 = ap length lengths_are in
      let pieces_size : length (flat_map (piece_bytes Two) change.pieces) ≡ length (flat_map (piece_bytes Two) (header ∷ words ∷ [])) =
      ap (λ (pieces : List Piece). length (flat_map (piece_bytes Two) pieces)) pieces_are in
      let first = length-pieces Jhr message.header_at (message_bytes number message) (words ∷ []) in
      let second = length-pieces Jdt message.text_at text [] in
      omega (arith, length-record 0 change.lengths change.pieces, length-message number message)

  module _ (files : Files) (loads : Loads loaded files) where
    -- where .JHR ended
    headers_end : message.header_at ≡ length (files Jhr)
    headers_end = ends.header_at ∙ loads.headers_len

    -- where .JDT ended
    texts_end : message.text_at ≡ length (files Jdt)
    texts_end = ends.text_at ∙ loads.texts_len

    -- its pieces are legal
    legal_pieces : IsLegalRecord Two (sizes_of files) (message_lengths message) (message_pieces number message text)
    legal_pieces =
        let Legal : Piece → Type 0 = IsLegalPiece Two (sizes_of files) (new_sizes (message_lengths message) (sizes_of files)) in
        let header : Piece = Bytes Jhr message.header_at (message_bytes number message) in
        let words : Piece = Bytes Jdt message.text_at text in
        let none : List Piece = [] in
        let fit = ends.headers_fit in
        let at = ends.header_at in
        let size = length-message number message in
        let texts_fit = ends.texts_fit in
        let text_at = ends.text_at in
        let text_len = ends.text_len in
        record {
          lengths_are = legal_message_lengths loaded message text ends;
          pieces_are = record {
            many = omega arith;
            each =
                All-cons Legal header (words ∷ []) (record { of_base = omega arith; place = omega arith; size = omega arith; within = omega arith })
                (All-cons Legal words none (record { of_base = omega arith; place = omega arith; size = omega arith; within = omega arith }) (All-nil Legal));
          };
        }

    -- and so it is
    legal_message : IsLegalRecord Two (sizes_of files) change.lengths change.pieces
    legal_message =
        subst (λ (lengths : List Length). IsLegalRecord Two (sizes_of files) lengths change.pieces) (sym lengths_are)
        (subst (λ (pieces : List Piece). IsLegalRecord Two (sizes_of files) (message_lengths message) pieces) (sym pieces_are) legal_pieces)

    -- each byte past an old end is written
    covers_message : IsGrowthCovered (message_lengths message) (message_pieces number message text) files
    covers_message Jhr i past low = inl (omega (arith, headers_end), omega (arith, length-message number message))
    covers_message Jdt i past low = inl (omega (arith, texts_end), omega (arith, ends.text_len))
    covers_message Jdx i past low = absurd (omega arith)
    covers_message Jlr i past low = absurd (omega arith)
    covers_message Jnl i past low = absurd (omega arith)
    covers_message Ndt i past low = absurd (omega arith)

    -- and so it is
    grown_message : IsGrowthCovered change.lengths change.pieces files
    grown_message =
        subst (λ (lengths : List Length). IsGrowthCovered lengths change.pieces files) (sym lengths_are)
        (subst (λ (pieces : List Piece). IsGrowthCovered (message_lengths message) pieces files) (sym pieces_are) covers_message)

    -- what it makes of the files
    made_message : changed change files ≡ applied (message_lengths message) (message_pieces number message text) files
    made_message = λ i. applied (lengths_are i) (pieces_are i) files

    -- .JHR has the header and its subfields behind
    headers_then : changed change files Jhr ≡ files Jhr ++ message_bytes number message
    headers_then =
        ap (λ (f : Files). f Jhr) made_message
        ∙ one_behind (files Jhr) (message_bytes number message) message.header_at (message.header_at + header_size message) headers_end (omega (arith, headers_end, length-message number message))

    -- .JDT has the text behind
    texts_then : changed change files Jdt ≡ files Jdt ++ text
    texts_then =
        ap (λ (f : Files). f Jdt) made_message ∙ one_behind (files Jdt) text message.text_at (message.text_at + message.text_len) texts_end (omega (arith, texts_end, ends.text_len))

    -- .JDX is as it was
    index_then : changed change files Jdx ≡ files Jdx
    index_then = ap (λ (f : Files). f Jdx) made_message ∙ same_length (files Jdx)

    -- and .JLR
    marks_then : changed change files Jlr ≡ files Jlr
    marks_then = ap (λ (f : Files). f Jlr) made_message ∙ same_length (files Jlr)

  -- it writes behind the files alone
  appends_message : AppendsOnly change loaded
  appends_message files loads Jhr = kept_behind (files Jhr) (changed change files Jhr) (message_bytes number message) (headers_then files loads)
  appends_message files loads Jdt = kept_behind (files Jdt) (changed change files Jdt) text (texts_then files loads)
  appends_message files loads Jdx = kept_same (files Jdx) (changed change files Jdx) (index_then files loads)
  appends_message files loads Jlr = kept_same (files Jlr) (changed change files Jlr) (marks_then files loads)
  appends_message files loads Jnl = kept_same (files Jnl) (changed change files Jnl) (ap (λ (f : Files). f Jnl) (made_message files loads) ∙ same_length (files Jnl))
  appends_message files loads Ndt = kept_same (files Ndt) (changed change files Ndt) (ap (λ (f : Files). f Ndt) (made_message files loads) ∙ same_length (files Ndt))

  -- and its index record in the place of another
  module _ (new : RedoView) (place : ℕ) (was : LoadedMessage) (puts : Puts Jdx (8 * place) (index_record_bytes (entry_for (Live message))) change new)
      (here : IsMessageAt loaded place was) (few : 8 * place < 2 ^ 32)
      (back : IsHeaderReadAgain number message) (each : All IsSubfield message.subfields) (entry : IsEntryReadAgain (entry_for (Live message))) where
    -- its index record
    abbrev bytes : List ℕ
    bytes = index_record_bytes (entry_for (Live message))

    -- the place is one of the index
    place_inside : place < length loaded.slots
    place_inside = slice_get_within loaded.slots place (Live was) here

    -- only its record is written over
    only_entry : WritesOnly change new Jdx (8 * place) 8
    only_entry = put_only Jdx (8 * place) bytes change new puts (8 * place) 8 (omega arith) (omega (arith, length-entry (entry_for (Live message))))

    module _ (files : Files) (loads : Loads loaded files) where
      -- the record lies within the index
      entry_room : 8 * place + 8 ≤ length (changed change files Jdx)
      entry_room = omega (arith, ap length (index_then files loads), loads.index, place_inside)

      -- another file is as it was
      beside_index : (file : FileId) → file ≢ Jdx → changed new files file ≡ changed change files file
      beside_index file apart = (only_entry files entry_room).others file apart

      -- .JHR then
      headers_now : changed new files Jhr ≡ files Jhr ++ message_bytes number message
      headers_now = beside_index Jhr (λ is. absurd (omega (arith, ap file_number is))) ∙ headers_then files loads

      -- .JDT then
      texts_now : changed new files Jdt ≡ files Jdt ++ text
      texts_now = beside_index Jdt (λ is. absurd (omega (arith, ap file_number is))) ∙ texts_then files loads

      -- .JLR then
      marks_now : changed new files Jlr ≡ files Jlr
      marks_now = beside_index Jlr (λ is. absurd (omega (arith, ap file_number is))) ∙ marks_then files loads

      -- .JDX then
      index_now : changed new files Jdx ≡ overwritten (8 * place) bytes (files Jdx)
      index_now =
          ap (λ (f : Files). f Jdx) (put_done Jdx (8 * place) bytes change new puts files)
          ∙ with_file-here Jdx (overwritten (8 * place) bytes (changed change files Jdx)) (changed change files) ∙ ap (overwritten (8 * place) bytes) (index_then files loads)

      -- the number in its header
      number_now : (header_in (changed new files) message.header_at).number ≡ number
      number_now = ap (λ (h : MessageHeader). h.number) (header_there files (changed new files) loaded message text number loads ends back each headers_now texts_now)

    -- it makes the area with the message in that place
    makes_anew : Makes new loaded (with_message_anew place message loaded) text
    makes_anew = record {
      legal = λ files loads.
          let room = entry_room files loads in
          let size = length-entry (entry_for (Live message)) in
          legal_then Jdx (8 * place) bytes change new puts files (omega arith) few (omega (arith, size)) (omega (arith, size, room)) (legal_message files loads);
      grown = λ files loads. grown_then Jdx (8 * place) bytes change new puts files (grown_message files loads);
      made = λ files loads. record {
        loads = loads_anew files (changed new files) loaded message text number place loads ends back each entry place_inside
            (headers_now files loads) (texts_now files loads) (index_now files loads) (marks_now files loads);
        texts = texts_now files loads;
      };
    }

    -- every other header stays in its place
    places_anew : KeepsPlacesBut (IsMoved (Edited place message)) loaded (with_message_anew place message loaded)
    places_anew p at other is = ap (option_and_then header_place) (get_set_other loaded.slots place p (Live message) (λ same. other (sym same))) ∙ is

    -- and keeps its number
    numbers_anew : (files : Files) → Loads loaded files → KeepsNumbersBut (IsMoved (Edited place message)) loaded files (changed new files)
    numbers_anew files loads p at other is =
        ap (λ (l : List ℕ). (message_header_of (bytes_at at 76 l)).number) (beside_index files loads Jhr (λ same. absurd (omega (arith, ap file_number same))))
        ∙ numbers_behind change loaded appends_message files loads p at is

    -- the header of the message is the one of the slot in that place
    header_anew : header_place_at (with_message_anew place message loaded) place ≡ Some message.header_at
    header_anew = ap (option_and_then header_place) (get_set_same loaded.slots place (Live message) (Live was) here)

    -- no other byte is written over
    leaves_anew : LeavesBut new loaded (MayWrite loaded (Edited place message))
    leaves_anew =
        leaves_then change new Jdx (8 * place) 8 only_entry loaded (MayWrite loaded (Edited place message)) entry_room (λ i low high. inr (refl, low, high))
        (leaves_behind change loaded (MayWrite loaded (Edited place message)) appends_message)

    -- and the counts
    module _ (last : RedoView) (counter active : ℕ) (changes : ChangesArea new last (with_counts counter active)) (only : WritesOnly new last Jhr 8 8) where
      -- the numbers stay
      numbers_last : (files : Files) → Loads loaded files → (p at : ℕ) → header_place_at (with_message_anew place message loaded) p ≡ Some at
          → (header_in (changed last files) at).number ≡ (header_in (changed new files) at).number
      numbers_last files loads = numbers_counted new last only files (with_message_anew place message loaded) (makes_anew.made files loads).loads

      -- so it updates the area
      pub updates_anew : UpdatesBut (IsMoved (Edited place message)) last loaded (with_counts counter active (with_message_anew place message loaded)) text
      updates_anew = record {
        makes = changes loaded (with_message_anew place message loaded) text makes_anew;
        places = places_anew;
        numbers = λ files loads p at other is. numbers_last files loads p at (places_anew p at other is) ∙ numbers_anew files loads p at other is;
      }

      -- and the message has its number
      pub numbered_anew : HasNumber number last loaded message
      numbered_anew files loads = numbers_last files loads place message.header_at header_anew ∙ number_now files loads

      -- no byte is written over but those
      pub left_anew : LeavesBut last loaded (MayWrite loaded (Edited place message))
      left_anew =
          leaves_then new last Jhr 8 8 only loaded (MayWrite loaded (Edited place message)) (λ files loads.
          let long = fixed_whole (changed new files) (with_message_anew place message loaded) (makes_anew.made files loads).loads in
          omega (arith, long)) (λ i low high. inl (refl, low, omega (arith, high))) leaves_anew
