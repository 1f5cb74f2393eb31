-- The change that makes a base, and the files with it.
use Rattle.std.proofs.Common.{◌≡◌, ◌≢◌, inl, ℕ, ◌<◌, List, [], ◌∷◌, length, take, refl, ap, sym, ◌∙◌, subst, arith}
use Rattle.jb_disk.specs.declared.version.Version.TheVariants.{Two}
use Rattle.std.proofs.lemmas.List.{take_all}
use Rattle.std.proofs.lemmas.List.Elements.{All-nil, All-cons}
use Rattle.std.proofs.lemmas.List.Kept.{AllPairs-cons}
use Rattle.jb_disk.specs.RedoView.{RedoView}
use Rattle.jb_disk.specs.Files.{Files, file_number}
use Rattle.jb_disk.specs.Memory.{of_length}
use Rattle.jb_disk.specs.Steps.{patched}
use Rattle.jb_disk.specs.declared.file.FileId.{FileId}
use Rattle.jb_disk.specs.declared.file.FileId.TheVariants.{Jhr, Jdt, Jdx, Jlr, Jnl, Ndt}
use Rattle.jb_disk.specs.declared.piece.Length.{Length}
use Rattle.jb_disk.specs.declared.piece.Piece.{Piece}
use Rattle.jb_disk.specs.declared.piece.Piece.TheVariants.{Bytes}
use Rattle.jb_image.specs.Places.{bytes_at}
use Rattle.jb_image.specs.Stands.{fixed_of}
use Rattle.jb_record.specs.Fields.{signature}
use Rattle.jb_record.specs.Fixed.{IsFixedHeader, fixed_header_bytes, fixed_header_of}
use Rattle.jb_redo.specs.Record.{record_bytes}
use Rattle.jb_redo.specs.Replay.{IsGrowthCovered, applied}
use Rattle.jb_redo.specs.Rules.{AreLegalLengths, IsBefore, IsLegalRecord, IsLegalLength, IsLegalPiece, new_sizes, sizes_of}
use Rattle.jb_change.proofs.EndLemmas.{one_behind}
use Rattle.jb_change.proofs.PostLemmas.{no_pairs}
use Rattle.jb_redo.proofs.LengthLemmas.{length-pieces, length-record}
use Rattle.jb_redo.specs.Changes.{changed, record_size}
use Rattle.jb_change.specs.NewBase.{AreEmpty, AreNew, MakesBase, base_lengths, base_pieces, new_loaded}
use Rattle.jb_image.specs.Records.{IsFixedReadAgain}

-- the header's bytes
abbrev header : ℕ → List ℕ
header moment = fixed_header_bytes (fixed_of (new_loaded moment))

-- the header has its bytes
length-header : (moment : ℕ) → length (header moment) ≡ 1024
unfolding fixed_header_bytes
length-header moment = refl

-- and its signature
signed_header : (moment : ℕ) → take 4 (header moment) ≡ signature
unfolding fixed_header_bytes
signed_header moment = refl

-- the lengths are legal
legal_lengths : AreLegalLengths Two base_lengths
legal_lengths =
    let headers : Length = record { file = Jhr; len = 1024 } in
    let texts : Length = record { file = Jdt; len = 0 } in
    let index : Length = record { file = Jdx; len = 0 } in
    let marks : Length = record { file = Jlr; len = 0 } in
    record {
      few = omega arith;
      each = All-cons (IsLegalLength Two) headers (texts ∷ index ∷ marks ∷ []) (record { of_base = omega arith; ceiling = omega arith })
          (All-cons (IsLegalLength Two) texts (index ∷ marks ∷ []) (record { of_base = omega arith; ceiling = omega arith })
          (All-cons (IsLegalLength Two) index (marks ∷ []) (record { of_base = omega arith; ceiling = omega arith })
          (All-cons (IsLegalLength Two) marks [] (record { of_base = omega arith; ceiling = omega arith }) (All-nil (IsLegalLength Two)))));
      rising = AllPairs-cons IsBefore headers (texts ∷ index ∷ marks ∷ [])
          (All-cons (IsBefore headers) texts (index ∷ marks ∷ []) (omega arith)
          (All-cons (IsBefore headers) index (marks ∷ []) (omega arith) (All-cons (IsBefore headers) marks [] (omega arith) (All-nil (IsBefore headers)))))
          (AllPairs-cons IsBefore texts (index ∷ marks ∷ [])
          (All-cons (IsBefore texts) index (marks ∷ []) (omega arith) (All-cons (IsBefore texts) marks [] (omega arith) (All-nil (IsBefore texts))))
          (AllPairs-cons IsBefore index (marks ∷ []) (All-cons (IsBefore index) marks [] (omega arith) (All-nil (IsBefore index)))
          (AllPairs-cons IsBefore marks [] (All-nil (IsBefore marks)) no_pairs)));
    }

-- a file of no length
no_bytes : of_length 0 [] ≡ []
unfolding of_length
no_bytes = refl

-- files with the header alone hold the empty area
new_holds : (moment : ℕ) (files : Files) → IsFixedReadAgain (new_loaded moment) → files Jhr ≡ header moment
    → ((file : FileId) → file_number file < 4 → file ≢ Jhr → files file ≡ []) → AreNew moment files
new_holds moment files back headers others =
    let there : bytes_at 0 1024 (files Jhr) ≡ header moment =
    ap (bytes_at 0 1024) headers ∙ take_all 1024 (header moment) (omega (arith, length-header moment)) in
    record {
      headers = headers;
      others = others;
      loads = record {
        header = subst IsFixedHeader (sym there) (record { size = length-header moment; signed = signed_header moment });
        fixed = sym (ap fixed_header_of there ∙ back);
        base = omega arith;
        numbers = omega arith;
        index = ap length (others Jdx (omega arith) (λ is. cc));
        slots = λ k d low. absurd (omega (arith, low));
        apart = λ i j d order low. absurd (omega (arith, low));
        lastread = ap length (others Jlr (omega arith) (λ is. cc));
        marks = λ k d low. absurd (omega (arith, low));
        few_marks = omega arith;
        headers_len = sym (ap length headers ∙ length-header moment);
        texts_len = sym (ap length (others Jdt (omega arith) (λ is. cc)));
      };
    }

module _ (moment : ℕ) (change : RedoView) (lengths_are : change.lengths ≡ base_lengths) (pieces_are : change.pieces ≡ base_pieces moment) where
  module _ (files : Files) (empty : AreEmpty files) where
    -- .JHR is empty
    no_headers : files Jhr ≡ []
    no_headers = empty Jhr (omega arith)

    -- its piece is legal
    legal_base : IsLegalRecord Two (sizes_of files) base_lengths (base_pieces moment)
    legal_base =
        let Legal : Piece → Type 0 = IsLegalPiece Two (sizes_of files) (new_sizes base_lengths (sizes_of files)) in
        record {
          lengths_are = legal_lengths;
          pieces_are = record {
            many = omega arith;
            each = All-cons Legal (Bytes Jhr 0 (header moment)) []
                (record { of_base = omega arith; place = omega arith; size = omega (arith, length-header moment); within = omega (arith, length-header moment) }) (All-nil Legal);
          };
        }

    -- each byte past an old end is written
    covers_base : IsGrowthCovered base_lengths (base_pieces moment) files
    covers_base Jhr i past low = inl (omega arith, omega (arith, low, length-header moment))
    covers_base Jdt i past low = absurd (omega (arith, past, low))
    covers_base Jdx i past low = absurd (omega (arith, past, low))
    covers_base Jlr i past low = absurd (omega (arith, past, low))
    covers_base Jnl i past low = absurd (omega (arith, past, low))
    covers_base Ndt i past low = absurd (omega (arith, past, low))

    -- the files with it
    abbrev after : Files
    after = applied base_lengths (base_pieces moment) files

    -- .JHR is the header
    headers_after : after Jhr ≡ header moment
    headers_after =
        ap (λ (l : List ℕ). patched (record { at = 0; bytes = header moment } ∷ []) (of_length 1024 l)) no_headers
        ∙ one_behind [] (header moment) 0 1024 refl (omega (arith, length-header moment))

    -- the others are empty still
    others_after : (file : FileId) → file_number file < 4 → file ≢ Jhr → after file ≡ []
    others_after Jhr low ne = absurd (ne refl)
    others_after Jdt low ne = ap (of_length 0) (empty Jdt low) ∙ no_bytes
    others_after Jdx low ne = ap (of_length 0) (empty Jdx low) ∙ no_bytes
    others_after Jlr low ne = ap (of_length 0) (empty Jlr low) ∙ no_bytes
    others_after Jnl low ne = absurd (omega (arith, low))
    others_after Ndt low ne = absurd (omega (arith, low))

  -- of empty files it makes those of the base
  pub makes_base : IsFixedReadAgain (new_loaded moment) → MakesBase moment change
  makes_base back =
      let size : record_size change ≡ length (record_bytes Two 0 base_lengths (base_pieces moment)) = λ i. length (record_bytes Two 0 (lengths_are i) (pieces_are i)) in
      record {
        brings = record {
          legal = λ files empty.
              subst (λ (l : List Length). IsLegalRecord Two (sizes_of files) l change.pieces) (sym lengths_are)
              (subst (λ (p : List Piece). IsLegalRecord Two (sizes_of files) base_lengths p) (sym pieces_are) (legal_base files empty));
          grown = λ files empty.
              subst (λ (l : List Length). IsGrowthCovered l change.pieces files) (sym lengths_are)
              (subst (λ (p : List Piece). IsGrowthCovered base_lengths p files) (sym pieces_are) (covers_base files empty));
          made = λ files empty.
              let made : changed change files ≡ after files empty = λ i. applied (lengths_are i) (pieces_are i) files in
              subst (AreNew moment) (sym made) (new_holds moment (after files empty) back (headers_after files empty) (others_after files empty));
        };
        lengths = subst (AreLegalLengths Two) (sym lengths_are) legal_lengths;
        size = omega (arith, size, length-record 0 base_lengths (base_pieces moment), length-pieces Jhr 0 (header moment) [], length-header moment);
      }
