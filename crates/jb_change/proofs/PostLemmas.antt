-- A message behind the others, as a change of the files.
use Rattle.std.proofs.Common.{◌≡◌, inl, ℕ, ◌+◌, ◌*◌, List, [], ◌∷◌, ◌++◌, All, length, take, ap, sym, ◌∙◌, subst, arith}
use Rattle.jb_disk.specs.declared.version.Version.TheVariants.{Two}
use Rattle.std.specs.List.{flat_map}
use Rattle.std.specs.Prelude.{AllPairs}
use Rattle.std.proofs.lemmas.List.Elements.{All-nil, All-cons}
use Rattle.std.proofs.lemmas.List.Kept.{AllPairs-cons}
use Rattle.jb_bytes.specs.Subfields.{IsSubfield}
use Rattle.jb_change.specs.Makes.{Makes}
use Rattle.jb_redo.specs.Changes.{changed, record_size}
use Rattle.jb_disk.specs.RedoView.{RedoView}
use Rattle.jb_disk.specs.Files.{Files}
use Rattle.jb_disk.specs.declared.file.FileId.{FileId}
use Rattle.jb_disk.specs.declared.file.FileId.TheVariants.{Jhr, Jdt, Jdx, Jlr, Jnl, Ndt}
use Rattle.jb_disk.specs.declared.piece.Length.{Length}
use Rattle.jb_disk.specs.declared.piece.Piece.{Piece}
use Rattle.jb_disk.specs.declared.piece.Piece.TheVariants.{Bytes}
use Rattle.jb_image.specs.Places.{header_in}
use Rattle.jb_image.specs.Stands.{Loads}
use Rattle.jb_state.specs.Loaded.{header_size, with_message_behind}
use Rattle.jb_state.specs.declared.loaded.Loaded.{Loaded}
use Rattle.jb_state.specs.declared.loaded.LoadedMessage.{LoadedMessage}
use Rattle.jb_state.specs.declared.loaded.LoadedSlot.TheVariants.{Live}
use Rattle.jb_record.specs.Index.{index_record_bytes}
use Rattle.jb_record.specs.declared.message.MessageHeader.{MessageHeader}
use Rattle.jb_redo.specs.Replay.{IsGrowthCovered, applied}
use Rattle.jb_redo.specs.Record.{piece_bytes}
use Rattle.jb_redo.specs.Rules.{AreLegalLengths, IsBefore, IsLegalRecord, IsLegalLength, IsLegalPiece, new_sizes, sizes_of}
use Rattle.jb_change.specs.Behind.{AppendsOnly}
use Rattle.jb_change.specs.Post.{HasNextNumber, IsNext, number_behind, post_lengths, post_pieces}
use Rattle.jb_image.specs.Records.{entry_for, message_bytes}
use Rattle.jb_change.proofs.LongerLemmas.{AreReadAgain, header_there, posted}
use Rattle.jb_change.proofs.EndLemmas.{kept_behind, kept_same, one_behind, same_length}
use Rattle.jb_image.proofs.RecordLemmas.{length-entry, length-message}
use Rattle.jb_redo.proofs.LengthLemmas.{length-pieces, length-record}

-- no two of none
pub no_pairs : AllPairs IsBefore []
no_pairs i j d order low = absurd (omega (arith, low))

-- its lengths are legal
pub legal_post_lengths : (loaded : Loaded) (message : LoadedMessage) (text : List ℕ) → IsNext loaded message text → AreLegalLengths Two (post_lengths loaded message)
legal_post_lengths loaded message text next =
    let headers : Length = record { file = Jhr; len = message.header_at + header_size message } in
    let texts : Length = record { file = Jdt; len = message.text_at + message.text_len } in
    let index : Length = record { file = Jdx; len = 8 * length loaded.slots + 8 } in
    let none : List Length = [] in
    record {
      few = omega arith;
      each =
          All-cons (IsLegalLength Two) headers (texts ∷ index ∷ []) (record { of_base = omega arith; ceiling = omega (arith, next.ends.header_at, next.ends.headers_fit) })
          (All-cons (IsLegalLength Two) texts (index ∷ []) (record { of_base = omega arith; ceiling = omega (arith, next.ends.text_at, next.ends.texts_fit) })
          (All-cons (IsLegalLength Two) index none (record { of_base = omega arith; ceiling = omega (arith, next.few_slots) }) (All-nil (IsLegalLength Two))));
      rising =
          AllPairs-cons IsBefore headers (texts ∷ index ∷ [])
          (All-cons (IsBefore headers) texts (index ∷ []) (omega arith) (All-cons (IsBefore headers) index none (omega arith) (All-nil (IsBefore headers))))
          (AllPairs-cons IsBefore texts (index ∷ []) (All-cons (IsBefore texts) index none (omega arith) (All-nil (IsBefore texts)))
          (AllPairs-cons IsBefore index none (All-nil (IsBefore index)) no_pairs));
    }

module _ (loaded : Loaded) (message : LoadedMessage) (text : List ℕ) (next : IsNext loaded message text) where
  -- how long its record is
  pub size_of_post : (change : RedoView) → change.lengths ≡ post_lengths loaded message → change.pieces ≡ post_pieces loaded message text
      → record_size change ≡ 128 + header_size message + length text
  size_of_post change lengths_are pieces_are =
      let header : Piece = Bytes Jhr message.header_at (message_bytes (number_behind loaded) message) in
      let words : Piece = Bytes Jdt message.text_at text in
      let entry : Piece = Bytes Jdx (8 * length loaded.slots) (index_record_bytes (entry_for (Live message))) in
      let lengths_size : length change.lengths ≡ 3 = ap length lengths_are in
      let pieces_size : length (flat_map (piece_bytes Two) change.pieces) ≡ length (flat_map (piece_bytes Two) (header ∷ words ∷ entry ∷ [])) =
      ap (λ (pieces : List Piece). length (flat_map (piece_bytes Two) pieces)) pieces_are in
      let first = length-pieces Jhr message.header_at (message_bytes (number_behind loaded) message) (words ∷ entry ∷ []) in
      let second = length-pieces Jdt message.text_at text (entry ∷ []) in
      let third = length-pieces Jdx (8 * length loaded.slots) (index_record_bytes (entry_for (Live message))) [] in
      omega (arith, length-record 0 change.lengths change.pieces, length-message (number_behind loaded) message, length-entry (entry_for (Live message)))

  module _ (files : Files) (loads : Loads loaded files) where
    -- where .JHR ended
    headers_end : message.header_at ≡ length (files Jhr)
    headers_end = next.ends.header_at ∙ loads.headers_len

    -- where .JDT ended
    texts_end : message.text_at ≡ length (files Jdt)
    texts_end = next.ends.text_at ∙ loads.texts_len

    -- its pieces are legal
    legal_post : IsLegalRecord Two (sizes_of files) (post_lengths loaded message) (post_pieces loaded message text)
    legal_post =
        let Legal : Piece → Type 0 = IsLegalPiece Two (sizes_of files) (new_sizes (post_lengths loaded message) (sizes_of files)) in
        let header : Piece = Bytes Jhr message.header_at (message_bytes (number_behind loaded) message) in
        let words : Piece = Bytes Jdt message.text_at text in
        let entry : Piece = Bytes Jdx (8 * length loaded.slots) (index_record_bytes (entry_for (Live message))) in
        let none : List Piece = [] in
        let fit = next.ends.headers_fit in
        let at = next.ends.header_at in
        let size = length-message (number_behind loaded) message in
        let entry_size = length-entry (entry_for (Live message)) in
        let texts_fit = next.ends.texts_fit in
        let text_at = next.ends.text_at in
        let text_len = next.ends.text_len in
        let few = next.few_slots in
        record {
          lengths_are = legal_post_lengths loaded message text next;
          pieces_are = record {
            many = omega arith;
            each =
                All-cons Legal header (words ∷ entry ∷ []) (record { of_base = omega arith; place = omega arith; size = omega arith; within = omega arith })
                (All-cons Legal words (entry ∷ []) (record { of_base = omega arith; place = omega arith; size = omega arith; within = omega arith })
                (All-cons Legal entry none (record { of_base = omega arith; place = omega arith; size = omega arith; within = omega arith }) (All-nil Legal)));
          };
        }

    -- each byte past an old end is written
    covers_post : IsGrowthCovered (post_lengths loaded message) (post_pieces loaded message text) files
    covers_post Jhr i past low = inl (omega (arith, headers_end), omega (arith, length-message (number_behind loaded) message))
    covers_post Jdt i past low = inl (omega (arith, texts_end), omega (arith, next.ends.text_len))
    covers_post Jdx i past low = inl (omega (arith, loads.index), omega (arith, length-entry (entry_for (Live message))))
    covers_post Jlr i past low = absurd (omega arith)
    covers_post Jnl i past low = absurd (omega arith)
    covers_post Ndt i past low = absurd (omega arith)

    -- the files after it
    abbrev after : Files
    after = applied (post_lengths loaded message) (post_pieces loaded message text) files

    -- .JHR has the header and its subfields behind
    headers_behind : after Jhr ≡ files Jhr ++ message_bytes (number_behind loaded) message
    headers_behind =
        one_behind (files Jhr) (message_bytes (number_behind loaded) message) message.header_at (message.header_at + header_size message) headers_end
        (omega (arith, headers_end, length-message (number_behind loaded) message))

    -- .JDT has the text behind
    texts_behind : after Jdt ≡ files Jdt ++ text
    texts_behind = one_behind (files Jdt) text message.text_at (message.text_at + message.text_len) texts_end (omega (arith, texts_end, next.ends.text_len))

    -- .JDX has the index record behind
    index_behind : after Jdx ≡ files Jdx ++ index_record_bytes (entry_for (Live message))
    index_behind =
        one_behind (files Jdx) (index_record_bytes (entry_for (Live message))) (8 * length loaded.slots) (8 * length loaded.slots + 8) (sym loads.index)
        (omega (arith, loads.index, length-entry (entry_for (Live message))))

    -- .JLR is as it was
    marks_same : after Jlr ≡ files Jlr
    marks_same = same_length (files Jlr)

    -- no byte that was there is another now
    post_behind : (file : FileId) → take (length (files file)) (after file) ≡ files file
    post_behind Jhr = kept_behind (files Jhr) (after Jhr) (message_bytes (number_behind loaded) message) headers_behind
    post_behind Jdt = kept_behind (files Jdt) (after Jdt) text texts_behind
    post_behind Jdx = kept_behind (files Jdx) (after Jdx) (index_record_bytes (entry_for (Live message))) index_behind
    post_behind Jlr = kept_same (files Jlr) (after Jlr) marks_same
    post_behind Jnl = kept_same (files Jnl) (after Jnl) (same_length (files Jnl))
    post_behind Ndt = kept_same (files Ndt) (after Ndt) (same_length (files Ndt))

  module _ (back : AreReadAgain loaded message) (each : All IsSubfield message.subfields) (change : RedoView)
      (lengths_are : change.lengths ≡ post_lengths loaded message) (pieces_are : change.pieces ≡ post_pieces loaded message text) where
    -- what it makes of the files
    pub made : (files : Files) → changed change files ≡ applied (post_lengths loaded message) (post_pieces loaded message text) files
    made files = λ i. applied (lengths_are i) (pieces_are i) files

    -- it writes behind the files alone
    pub appends_post : AppendsOnly change loaded
    appends_post files loads file = ap (λ (now : Files). take (length (files file)) (now file)) (made files) ∙ post_behind files loads file

    -- it makes the area with the message behind
    pub makes_post : Makes change loaded (with_message_behind message loaded) text
    makes_post = record {
      legal = λ files loads.
          subst (λ (lengths : List Length). IsLegalRecord Two (sizes_of files) lengths change.pieces) (sym lengths_are)
          (subst (λ (pieces : List Piece). IsLegalRecord Two (sizes_of files) (post_lengths loaded message) pieces) (sym pieces_are) (legal_post files loads));
      grown = λ files loads.
          subst (λ (lengths : List Length). IsGrowthCovered lengths change.pieces files) (sym lengths_are)
          (subst (λ (pieces : List Piece). IsGrowthCovered (post_lengths loaded message) pieces files) (sym pieces_are) (covers_post files loads));
      made = λ files loads. record {
        loads =
            subst (λ (now : Files). Loads (with_message_behind message loaded) now) (sym (made files))
            (posted files (after files loads) loaded message text loads next back each
            (headers_behind files loads) (texts_behind files loads) (index_behind files loads) (marks_same files loads));
        texts = ap (λ (now : Files). now Jdt) (made files) ∙ texts_behind files loads;
      };
    }

    -- under the next number
    pub numbers_post : HasNextNumber change loaded message
    numbers_post files loads =
        ap (λ (now : Files). (header_in now message.header_at).number) (made files)
        ∙ ap (λ (header : MessageHeader). header.number)
        (header_there files (after files loads) loaded message text (number_behind loaded) loads next.ends back.header each (headers_behind files loads) (texts_behind files loads))
