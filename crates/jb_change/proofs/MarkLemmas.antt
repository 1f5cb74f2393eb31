-- A mark behind the others, as a change of the files.
use Rattle.std.proofs.Common.{◌≡◌, inl, ℕ, ◌+◌, ◌*◌, ◌<◌, List, [], ◌∷◌, ◌++◌, length, take, ap, sym, ◌∙◌, subst, arith}
use Rattle.jb_disk.specs.declared.version.Version.TheVariants.{Two}
use Rattle.std.specs.List.{flat_map}
use Rattle.std.proofs.lemmas.List.{append-nil}
use Rattle.std.proofs.lemmas.List.Elements.{All-nil, All-cons}
use Rattle.std.proofs.lemmas.List.Kept.{AllPairs-cons}
use Rattle.jb_limits.specs.declared.limits.TheConstants.{MOST_MARKS}
use Rattle.jb_redo.specs.Changes.{changed, record_size}
use Rattle.jb_disk.specs.RedoView.{RedoView}
use Rattle.jb_disk.specs.Files.{Files}
use Rattle.jb_disk.specs.declared.file.FileId.{FileId}
use Rattle.jb_disk.specs.declared.file.FileId.TheVariants.{Jhr, Jdt, Jdx, Jlr, Jnl, Ndt}
use Rattle.jb_disk.specs.declared.piece.Length.{Length}
use Rattle.jb_disk.specs.declared.piece.Piece.{Piece}
use Rattle.jb_disk.specs.declared.piece.Piece.TheVariants.{Bytes}
use Rattle.jb_image.specs.Stands.{Loads, mark_record}
use Rattle.jb_state.specs.Loaded.{with_marks}
use Rattle.jb_state.specs.declared.loaded.Loaded.{Loaded}
use Rattle.jb_state.specs.declared.mark.Mark.{Mark}
use Rattle.jb_record.specs.Lastread.{lastread_record_bytes}
use Rattle.jb_redo.specs.Record.{piece_bytes}
use Rattle.jb_redo.specs.Replay.{IsGrowthCovered, applied}
use Rattle.jb_redo.specs.Rules.{AreLegalLengths, IsBefore, IsLegalRecord, IsLegalLength, IsLegalPiece, new_sizes, sizes_of}
use Rattle.jb_change.specs.Behind.{AppendsOnly}
use Rattle.jb_change.specs.NewMark.{MakesMark, mark_lengths, mark_pieces}
use Rattle.jb_image.specs.Records.{IsMarkReadAgain}
use Rattle.jb_change.proofs.LongerLemmas.{marked}
use Rattle.jb_change.proofs.EndLemmas.{kept_behind, kept_same, one_behind, same_length}
use Rattle.jb_change.proofs.PostLemmas.{no_pairs}
use Rattle.jb_image.proofs.RecordLemmas.{length-mark}
use Rattle.jb_redo.proofs.LengthLemmas.{length-pieces, length-record}

-- its length is legal
pub legal_mark_lengths : (count : ℕ) → count < MOST_MARKS → AreLegalLengths Two (mark_lengths count)
legal_mark_lengths count few =
    let marks : Length = record { file = Jlr; len = 16 * count + 16 } in
    record {
      few = omega arith;
      each = All-cons (IsLegalLength Two) marks [] (record { of_base = omega arith; ceiling = omega arith }) (All-nil (IsLegalLength Two));
      rising = AllPairs-cons IsBefore marks [] (All-nil (IsBefore marks)) no_pairs;
    }

module _ (count : ℕ) (mark : Mark) (few : count < MOST_MARKS) where
  -- how long its record is
  pub size_of_mark : (change : RedoView) → change.lengths ≡ mark_lengths count → change.pieces ≡ mark_pieces count mark → record_size change ≡ 72
  size_of_mark change lengths_are pieces_are =
      let lengths_size : length change.lengths ≡ 1 = ap length lengths_are in
      let pieces_size : length (flat_map (piece_bytes Two) change.pieces) ≡ length (flat_map (piece_bytes Two) (mark_pieces count mark)) =
      ap (λ (pieces : List Piece). length (flat_map (piece_bytes Two) pieces)) pieces_are in
      let piece = length-pieces Jlr (16 * count) (lastread_record_bytes (mark_record mark)) [] in
      omega (arith, length-record 0 change.lengths change.pieces, length-mark (mark_record mark))

  module _ (loaded : Loaded) (counted : length loaded.marks ≡ count) (files : Files) (loads : Loads loaded files) where
    -- where .JLR ended
    marks_end : 16 * count ≡ length (files Jlr)
    marks_end = omega (arith, loads.lastread)

    -- its piece is legal
    legal_mark : IsLegalRecord Two (sizes_of files) (mark_lengths count) (mark_pieces count mark)
    legal_mark =
        let Legal : Piece → Type 0 = IsLegalPiece Two (sizes_of files) (new_sizes (mark_lengths count) (sizes_of files)) in
        let piece : Piece = Bytes Jlr (16 * count) (lastread_record_bytes (mark_record mark)) in
        let size = length-mark (mark_record mark) in
        record {
          lengths_are = legal_mark_lengths count few;
          pieces_are = record {
            many = omega arith;
            each = All-cons Legal piece [] (record { of_base = omega arith; place = omega arith; size = omega arith; within = omega arith }) (All-nil Legal);
          };
        }

    -- each byte past an old end is written
    covers_mark : IsGrowthCovered (mark_lengths count) (mark_pieces count mark) files
    covers_mark Jlr i past low = inl (omega (arith, marks_end), omega (arith, length-mark (mark_record mark)))
    covers_mark Jhr i past low = absurd (omega arith)
    covers_mark Jdt i past low = absurd (omega arith)
    covers_mark Jdx i past low = absurd (omega arith)
    covers_mark Jnl i past low = absurd (omega arith)
    covers_mark Ndt i past low = absurd (omega arith)

    -- the files after it
    abbrev after : Files
    after = applied (mark_lengths count) (mark_pieces count mark) files

    -- .JDT is as it was
    texts_same : after Jdt ≡ files Jdt
    texts_same = same_length (files Jdt)

    -- .JLR has the record behind
    marks_behind : after Jlr ≡ files Jlr ++ lastread_record_bytes (mark_record mark)
    marks_behind =
        one_behind (files Jlr) (lastread_record_bytes (mark_record mark)) (16 * count) (16 * count + 16) marks_end (omega (arith, marks_end, length-mark (mark_record mark)))

    -- the files hold the area with the mark behind
    mark_there : IsMarkReadAgain mark → Loads (with_marks (loaded.marks ++ mark ∷ []) loaded) after
    mark_there back =
        marked files after loaded mark loads back (omega arith) (same_length (files Jhr)) texts_same (same_length (files Jdx)) marks_behind

    -- no byte that was there is another now
    mark_behind : (file : FileId) → take (length (files file)) (after file) ≡ files file
    mark_behind Jlr = kept_behind (files Jlr) (after Jlr) (lastread_record_bytes (mark_record mark)) marks_behind
    mark_behind Jhr = kept_same (files Jhr) (after Jhr) (same_length (files Jhr))
    mark_behind Jdt = kept_same (files Jdt) (after Jdt) texts_same
    mark_behind Jdx = kept_same (files Jdx) (after Jdx) (same_length (files Jdx))
    mark_behind Jnl = kept_same (files Jnl) (after Jnl) (same_length (files Jnl))
    mark_behind Ndt = kept_same (files Ndt) (after Ndt) (same_length (files Ndt))

  -- it makes the area with the mark behind
  pub makes_mark : IsMarkReadAgain mark → (change : RedoView) → change.lengths ≡ mark_lengths count → change.pieces ≡ mark_pieces count mark → MakesMark change count mark
  makes_mark back change lengths_are pieces_are loaded counted =
      let made : (files : Files) → changed change files ≡ applied (mark_lengths count) (mark_pieces count mark) files = λ files i. applied (lengths_are i) (pieces_are i) files in
      record {
        legal = λ files loads.
            subst (λ (lengths : List Length). IsLegalRecord Two (sizes_of files) lengths change.pieces) (sym lengths_are)
            (subst (λ (pieces : List Piece). IsLegalRecord Two (sizes_of files) (mark_lengths count) pieces) (sym pieces_are) (legal_mark loaded counted files loads));
        grown = λ files loads.
            subst (λ (lengths : List Length). IsGrowthCovered lengths change.pieces files) (sym lengths_are)
            (subst (λ (pieces : List Piece). IsGrowthCovered (mark_lengths count) pieces files) (sym pieces_are) (covers_mark loaded counted files loads));
        made = λ files loads. record {
          loads =
              subst (λ (now : Files). Loads (with_marks (loaded.marks ++ mark ∷ []) loaded) now) (sym (made files)) (mark_there loaded counted files loads back);
          texts = ap (λ (now : Files). now Jdt) (made files) ∙ texts_same loaded counted files loads ∙ sym (append-nil (files Jdt));
        };
      }

  -- it writes behind the files alone
  pub appends_mark : (change : RedoView) → change.lengths ≡ mark_lengths count → change.pieces ≡ mark_pieces count mark → (loaded : Loaded) → length loaded.marks ≡ count → AppendsOnly change loaded
  appends_mark change lengths_are pieces_are loaded counted files loads file =
      let made : changed change files ≡ applied (mark_lengths count) (mark_pieces count mark) files = λ i. applied (lengths_are i) (pieces_are i) files in
      ap (λ (now : Files). take (length (files file)) (now file)) made ∙ mark_behind loaded counted files loads file
