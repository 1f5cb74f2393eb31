-- A piece of bytes more in a change.
use Rattle.std.proofs.Common.{◌≡◌, ◌≢◌, inl, inr, ℕ, ◌+◌, ◌<◌, ◌≤◌, List, [], ◌∷◌, ◌++◌, length, ap, ◌∙◌, sym, refl, subst, arith, length-append, append-nil}
use Rattle.jb_disk.specs.declared.version.Version.TheVariants.{Two}
use Rattle.std.specs.Prelude.{◌^◌}
use Rattle.std.specs.List.{flat_map}
use Rattle.std.proofs.lemmas.Grind.{flat_map-append}
use Rattle.std.proofs.lemmas.List.Elements.{All-push}
use Rattle.jb_disk.specs.RedoView.{RedoView}
use Rattle.jb_disk.specs.declared.file.FileId.{FileId}
use Rattle.jb_disk.specs.declared.file.FileId.TheVariants.{Jdt}
use Rattle.jb_disk.specs.declared.piece.Length.{Length}
use Rattle.jb_disk.specs.declared.piece.Piece.{Piece}
use Rattle.jb_disk.specs.declared.piece.Piece.TheVariants.{Bytes}
use Rattle.jb_disk.specs.Files.{Files, InFile, file_number, overwritten, written}
use Rattle.jb_disk.specs.FileLaws.{same_file, same_files, InFile-with, with_file-here, with_file-other, number-injective, length-of_length}
use Rattle.jb_disk.specs.Memory.{of_length}
use Rattle.jb_disk.specs.Steps.{Span, Torn, IsCovered, AreWithin, patched}
use Rattle.jb_image.specs.Stands.{Loads}
use Rattle.jb_state.specs.declared.loaded.Loaded.{Loaded}
use Rattle.jb_redo.specs.Record.{record_bytes, piece_bytes}
use Rattle.jb_redo.specs.Replay.{applied, span_of, spans_in, IsGrowthCovered}
use Rattle.jb_redo.specs.Rules.{sizes_of, new_sizes, IsLegalRecord, IsLegalPiece}
use Rattle.jb_redo.proofs.SpanLemmas.{spans_in-here, spans_in-other, spans_within, covered-first, spans-append}
use Rattle.jb_change.specs.Makes.{Makes}
use Rattle.jb_redo.specs.Changes.{changed, record_size}
use Rattle.jb_change.specs.Changing.{Puts, WritesOnly}
use Rattle.jb_change.proofs.ByteLemmas.{torn-overwritten, torn-then, torn-wider}
use Rattle.jb_redo.proofs.ApplyLemmas.{length-patched, patched-push}
use Rattle.jb_redo.proofs.LengthLemmas.{length-record}

-- the length of the files that a record makes
length-applied : (files : Files) (lengths : List Length) (pieces : List Piece) (file : FileId) → IsLegalRecord Two (sizes_of files) lengths pieces
    → length (applied lengths pieces files file) ≡ new_sizes lengths (sizes_of files) file
length-applied files lengths pieces file legal =
    let ends = new_sizes lengths (sizes_of files) in
    let size = length-of_length (ends file) (files file) in
    length-patched (spans_in files pieces file) (of_length (ends file) (files file))
    (subst (AreWithin (spans_in files pieces file)) (sym size) (spans_within Two files ends pieces file legal.pieces_are.each))
    ∙ size

module _ (file : FileId) (at : ℕ) (bytes : List ℕ) where
  -- the piece
  abbrev piece : Piece
  piece = Bytes file at bytes

  -- what it makes of the file that it is written into
  applied_here : (lengths : List Length) (pieces : List Piece) (files : Files)
      → applied lengths (pieces ++ piece ∷ []) files file ≡ written file at bytes (applied lengths pieces files) file
  applied_here lengths pieces files =
      let start = of_length (new_sizes lengths (sizes_of files) file) (files file) in
      ap (λ (spans : List Span). patched spans start) (spans-append files pieces (piece ∷ []) file ∙ ap (λ (spans : List Span). spans_in files pieces file ++ spans) (spans_in-here files piece [] file refl))
      ∙ patched-push (spans_in files pieces file) (span_of files piece) start
      ∙ sym (with_file-here file (overwritten at bytes (applied lengths pieces files file)) (applied lengths pieces files))

  -- and of another
  applied_other : (lengths : List Length) (pieces : List Piece) (files : Files) (other : FileId) → other ≢ file
      → applied lengths (pieces ++ piece ∷ []) files other ≡ written file at bytes (applied lengths pieces files) other
  applied_other lengths pieces files other apart =
      let start = of_length (new_sizes lengths (sizes_of files) other) (files other) in
      let numbers : file_number file ≢ file_number other = λ is. apart (number-injective other file (sym is)) in
      ap (λ (spans : List Span). patched spans start) (spans-append files pieces (piece ∷ []) other
      ∙ ap (λ (spans : List Span). spans_in files pieces other ++ spans) (spans_in-other files piece [] other numbers) ∙ append-nil (spans_in files pieces other))
      ∙ sym (with_file-other file other (overwritten at bytes (applied lengths pieces files file)) (applied lengths pieces files) apart)

  -- so its bytes are written over what the others make
  applied_more : (lengths : List Length) (pieces : List Piece) (files : Files) → applied lengths (pieces ++ piece ∷ []) files ≡ written file at bytes (applied lengths pieces files)
  applied_more lengths pieces files = same_files (applied lengths (pieces ++ piece ∷ []) files) (written file at bytes (applied lengths pieces files)) (λ other. elim (same_file other file) [
    | inl same ↦ subst (λ (f : FileId). applied lengths (pieces ++ piece ∷ []) files f ≡ written file at bytes (applied lengths pieces files) f) (sym same) (applied_here lengths pieces files)
    | inr apart ↦ applied_other lengths pieces files other apart
  ])

  -- it may stand behind the others, where it lies within what they make
  legal_more : (lengths : List Length) (pieces : List Piece) (files : Files) → file_number file < 4 → at < 2 ^ 32 → length bytes < 2 ^ 32
      → at + length bytes ≤ length (applied lengths pieces files file) → length (pieces ++ piece ∷ []) < 2 ^ 32
      → IsLegalRecord Two (sizes_of files) lengths pieces → IsLegalRecord Two (sizes_of files) lengths (pieces ++ piece ∷ [])
  legal_more lengths pieces files of_base place short within few legal = record {
    lengths_are = legal.lengths_are;
    pieces_are = record {
      many = few;
      each = All-push (IsLegalPiece Two (sizes_of files) (new_sizes lengths (sizes_of files))) pieces piece legal.pieces_are.each
          (record { of_base = of_base; place = omega (arith, place); size = omega (arith, short); within = subst (λ (n : ℕ). at + length bytes ≤ n) (length-applied files lengths pieces file legal) within });
    };
  }

  module _ (old new : RedoView) (puts : Puts file at bytes old new) where
    -- the files after the change
    pub put_done : (files : Files) → changed new files ≡ written file at bytes (changed old files)
    put_done files = (λ i. applied (puts.lengths i) (puts.pieces i) files) ∙ applied_more old.lengths old.pieces files

    -- no byte outside a range in which it lies is another
    pub put_only : (from len : ℕ) → from ≤ at → at + length bytes ≤ from + len → WritesOnly old new file from len
    put_only from len low high files room =
        let now = overwritten at bytes (changed old files file) in
        subst (InFile file (Torn from len) (changed old files)) (sym (put_done files)) (InFile-with file now (changed old files) (Torn from len)
        (torn-wider at (length bytes) from len (changed old files file) now low high (torn-overwritten at bytes (changed old files file) (omega arith))))

    -- the journal's record of it
    pub put_size : record_size new ≡ record_size old + 20 + length bytes
    put_size =
        let one : length (flat_map (piece_bytes Two) (piece ∷ [])) ≡ 20 + length bytes = omega (arith, ap length (append-nil bytes)) in
        let more : length (flat_map (piece_bytes Two) (old.pieces ++ piece ∷ [])) ≡ length (flat_map (piece_bytes Two) old.pieces) + (20 + length bytes) =
        ap length (flat_map-append (piece_bytes Two) old.pieces (piece ∷ [])) ∙ length-append (flat_map (piece_bytes Two) old.pieces) (flat_map (piece_bytes Two) (piece ∷ [])) ∙ ap (λ (n : ℕ). length (flat_map (piece_bytes Two) old.pieces) + n) one in
        let before = length-record 0 old.lengths old.pieces in
        let after = length-record 0 old.lengths (old.pieces ++ piece ∷ []) in
        (λ i. length (record_bytes Two 0 (puts.lengths i) (puts.pieces i))) ∙ omega (arith, more, before, after)

    -- it keeps the rules
    pub legal_then : (files : Files) → file_number file < 4 → at < 2 ^ 32 → length bytes < 2 ^ 32 → at + length bytes ≤ length (changed old files file)
        → IsLegalRecord Two (sizes_of files) old.lengths old.pieces → IsLegalRecord Two (sizes_of files) new.lengths new.pieces
    legal_then files of_base place short within legal =
        let few : length (old.pieces ++ piece ∷ []) < 2 ^ 32 = subst (λ (l : List Piece). length l < 2 ^ 32) puts.pieces puts.few in
        subst (λ (l : List Length). IsLegalRecord Two (sizes_of files) l new.pieces) (sym puts.lengths)
        (subst (IsLegalRecord Two (sizes_of files) old.lengths) (sym puts.pieces) (legal_more old.lengths old.pieces files of_base place short within few legal))

    -- what is covered stays so
    pub grown_then : (files : Files) → IsGrowthCovered old.lengths old.pieces files → IsGrowthCovered new.lengths new.pieces files
    grown_then files grown other i past low =
        let low_too = subst (λ (l : List Length). i < new_sizes l (sizes_of files) other) puts.lengths low in
        subst (λ (l : List Piece). IsCovered (spans_in files l other) i) (sym puts.pieces)
        (subst (λ (l : List Span). IsCovered l i) (sym (spans-append files old.pieces (piece ∷ []) other))
        (covered-first (spans_in files old.pieces other) (spans_in files (piece ∷ []) other) i (grown other i past low_too)))

    -- what it makes of an area
    pub put_makes : (from to then : Loaded) (text : List ℕ) → Makes old from to text → file_number file < 4 → file ≢ Jdt → at < 2 ^ 32 → length bytes < 2 ^ 32
        → ((files : Files) → Loads to files → at + length bytes ≤ length (files file)) → ((files : Files) → Loads to files → Loads then (written file at bytes files))
        → Makes new from then text
    put_makes from to then text makes of_base no_text place short within loads = record {
      legal = λ files held. legal_then files of_base place short (within (changed old files) (makes.made files held).loads) (makes.legal files held);
      grown = λ files held. grown_then files (makes.grown files held);
      made = λ files held. record {
        loads = subst (λ (f : Files). Loads then f) (sym (put_done files)) (loads (changed old files) (makes.made files held).loads);
        texts = ap (λ (f : Files). f Jdt) (put_done files)
            ∙ with_file-other file Jdt (overwritten at bytes (changed old files file)) (changed old files) (λ is. no_text (sym is)) ∙ (makes.made files held).texts;
      };
    }

-- one small change after another, both within one range
pub only_then : (file : FileId) (at len : ℕ) (old now new : RedoView) → WritesOnly old now file at len → WritesOnly now new file at len → WritesOnly old new file at len
only_then file at len old now new first second files room =
    let one = first files room in
    let two = second files (subst (λ (n : ℕ). at + len ≤ n) (sym one.here.size) room) in
    record {
      here = torn-then at len (changed old files file) (changed now files file) (changed new files file) one.here two.here;
      others = λ other apart. two.others other apart ∙ one.others other apart;
    }

-- one within a part of a range is one within the range
pub only_wider : (file : FileId) (at len from n : ℕ) (old new : RedoView) → from ≤ at → at + len ≤ from + n → WritesOnly old new file at len → WritesOnly old new file from n
only_wider file at len from n old new low high only files room =
    let one = only files (omega (arith, room, high)) in
    record { here = torn-wider at len from n (changed old files file) (changed new files file) low high one.here; others = one.others }
