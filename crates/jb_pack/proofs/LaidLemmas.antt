-- One piece more behind those of its file.
use Rattle.std.proofs.Common.{◌≡◌, ◌≢◌, inl, inr, ℕ, ◌+◌, ◌≤◌, ◌<◌, List, [], ◌∷◌, ◌++◌, length, take, drop, refl, sym, ◌∙◌, ap, subst, arith, length-append}
use Rattle.std.specs.Prelude.{◌^◌, filter, slice_index_or}
use Rattle.std.specs.List.{flat_map}
use Rattle.std.proofs.lemmas.Bool.{cases_eq, cases_lt}
use Rattle.std.proofs.lemmas.Bool.Decides.{nat_tests}
use Rattle.std.proofs.lemmas.Grind.{flat_map-append}
use Rattle.std.proofs.lemmas.List.{append-nil, drop-drop}
use Rattle.std.proofs.lemmas.List.Elements.{All-append, All-cons, All-nil, filter-append}
use Rattle.std.proofs.Math.Seq.{drop-append-add, take-append_seam}
use Rattle.jb_disk.specs.declared.version.Version.TheVariants.{Two}
use Rattle.jb_disk.specs.RedoView.{RedoView, bytes_of}
use Rattle.jb_disk.specs.Files.{Files, file_number, overwritten}
use Rattle.jb_disk.specs.FileLaws.{number-injective}
use Rattle.jb_disk.specs.Steps.{IsCovered, Span, patched}
use Rattle.jb_disk.specs.declared.file.FileId.{FileId}
use Rattle.jb_disk.specs.declared.piece.Piece.{Piece}
use Rattle.jb_disk.specs.declared.piece.Piece.TheVariants.{Bytes, Copy}
use Rattle.jb_redo.specs.Replay.{spans_in, writes}
use Rattle.jb_redo.specs.Record.{piece_bytes}
use Rattle.jb_redo.proofs.SpanLemmas.{spans_in-here, spans_in-other, covered-first, spans-append}
use Rattle.jb_pack.specs.Laid.{IsLaidOut, IsLegalIn, Lays, laid, pieces_into}
use Rattle.jb_redo.specs.Changes.{record_size}
use Rattle.jb_bytes.specs.Number.{number_bytes}
use Rattle.jb_disk.specs.declared.piece.Length.{Length}
use Rattle.jb_redo.proofs.LengthLemmas.{length-record}

-- spans behind others are written last
pub patched-append : (first second : List Span) (old : List ℕ) → patched (first ++ second) old ≡ patched second (patched first old)
patched-append [] second old = refl
patched-append (span ∷ first) second old = patched-append first second (overwritten span.at span.bytes old)

-- a place that the second have
pub covered-second : (first second : List Span) (i : ℕ) → IsCovered second i → IsCovered (first ++ second) i
covered-second [] second i covered = covered
covered-second (span ∷ first) second i covered = inr (covered-second first second i covered)

-- the bytes of pieces behind others
laid-append : (first second : List Piece) (file : FileId) → laid (first ++ second) file ≡ laid first file ++ laid second file
laid-append first second file =
    ap (flat_map bytes_of) (filter-append (writes file) first second) ∙ flat_map-append bytes_of (filter (writes file) first) (filter (writes file) second)

-- the bytes of one piece in its file
laid-one : (file other : FileId) (at : ℕ) (bytes : List ℕ) → file_number file ≡ file_number other → laid (Bytes file at bytes ∷ []) other ≡ bytes
laid-one file other at bytes same =
    let kept : filter (writes other) (Bytes file at bytes ∷ []) ≡ Bytes file at bytes ∷ [] = grind (arith, nat_tests) in
    ap (flat_map bytes_of) kept ∙ append-nil bytes

-- it is written into no other
into-none : (file other : FileId) (at : ℕ) (bytes : List ℕ) → file_number file ≢ file_number other → pieces_into (Bytes file at bytes ∷ []) other ≡ []
into-none file other at bytes apart = grind (arith, nat_tests)

-- a write right behind the front of a file makes the front longer
longer_front : (front bytes old : List ℕ) (at : ℕ) → at ≡ length front → overwritten at bytes (front ++ drop (length front) old) ≡ (front ++ bytes) ++ drop (length (front ++ bytes)) old
unfolding overwritten
longer_front front bytes old at at_is =
    let rest : List ℕ = drop (length front) old in
    let first : take at (front ++ rest) ≡ front = ap (λ n. take n (front ++ rest)) at_is ∙ take-append_seam front rest in
    let size : length front + length bytes ≡ length (front ++ bytes) = sym (length-append front bytes) in
    let last : drop (at + length bytes) (front ++ rest) ≡ drop (length (front ++ bytes)) old =
    ap (λ n. drop (n + length bytes) (front ++ rest)) at_is ∙ drop-append-add front rest (length bytes) ∙ drop-drop (length bytes) (length front) old ∙ ap (λ n. drop n old) size in
    λ i. first i ++ bytes ++ last i

-- bytes within a file lie within a longer one
legal_longer : (ends more : FileId → ℕ) (piece : Piece) → ((file : FileId) → ends file ≤ more file) → IsLegalIn ends piece → IsLegalIn more piece
legal_longer ends more (Bytes file at bytes) longer legal =
    let above = longer file in
    record { of_base = legal.of_base; place = legal.place; size = legal.size; within = omega (arith, legal.within) }
legal_longer ends more (Copy from from_at to to_at len) longer legal = absurd legal

module _ (pieces : List Piece) (file : FileId) (at : ℕ) (bytes : List ℕ) where
  -- the pieces with one behind
  abbrev more : List Piece
  more = pieces ++ Bytes file at bytes ∷ []

  -- the bytes of its file
  pub laid-here : laid more file ≡ laid pieces file ++ bytes
  laid-here = laid-append pieces (Bytes file at bytes ∷ []) file ∙ ap (λ (l : List ℕ). laid pieces file ++ l) (laid-one file file at bytes refl)

  -- the pieces of another file
  pub into-other : (other : FileId) → other ≢ file → pieces_into more other ≡ pieces_into pieces other
  into-other other apart =
      filter-append (writes other) pieces (Bytes file at bytes ∷ [])
      ∙ ap (λ (l : List Piece). pieces_into pieces other ++ l) (into-none file other at bytes (λ same. apart (number-injective other file (sym same))))
      ∙ append-nil (pieces_into pieces other)

  -- and their bytes
  pub laid-other : (other : FileId) → other ≢ file → laid more other ≡ laid pieces other
  laid-other other apart = ap (flat_map bytes_of) (into-other other apart)

  -- no file has fewer
  laid-longer : (other : FileId) → length (laid pieces other) ≤ length (laid more other)
  laid-longer other = omega (arith, ap length (laid-append pieces (Bytes file at bytes ∷ []) other), length-append (laid pieces other) (laid (Bytes file at bytes ∷ []) other))

  -- what is written into its file
  spans-here : (files : Files) → spans_in files more file ≡ spans_in files pieces file ++ record { at = at; bytes = bytes } ∷ []
  spans-here files =
      spans-append files pieces (Bytes file at bytes ∷ []) file
      ∙ ap (λ (l : List Span). spans_in files pieces file ++ l) (spans_in-here files (Bytes file at bytes) [] file refl)

  -- and into another
  spans-other : (files : Files) (other : FileId) → file_number file ≢ file_number other → spans_in files more other ≡ spans_in files pieces other
  spans-other files other apart =
      spans-append files pieces (Bytes file at bytes ∷ []) other
      ∙ ap (λ (l : List Span). spans_in files pieces other ++ l) (spans_in-other files (Bytes file at bytes) [] other apart)
      ∙ append-nil (spans_in files pieces other)

  module _ (was : IsLaidOut pieces) (at_is : at ≡ length (laid pieces file)) where
    -- its file begins with the bytes that there are now
    front-here : (files : Files) (old : List ℕ) → length (laid more file) ≤ length old → patched (spans_in files more file) old ≡ laid more file ++ drop (length (laid more file)) old
    front-here files old long =
        let room : length (laid pieces file) ≤ length old = omega (arith, laid-longer file) in
        ap (λ (l : List Span). patched l old) (spans-here files)
        ∙ patched-append (spans_in files pieces file) (record { at = at; bytes = bytes } ∷ []) old
        ∙ ap (overwritten at bytes) (was.fronts files file old room)
        ∙ longer_front (laid pieces file) bytes old at at_is
        ∙ ap (λ (l : List ℕ). l ++ drop (length l) old) (sym laid-here)

    -- each of its bytes is written
    covers-here : (files : Files) (i : ℕ) → i < length (laid more file) → IsCovered (spans_in files more file) i
    covers-here files i low =
        let size : length (laid more file) ≡ length (laid pieces file) + length bytes = ap length laid-here ∙ length-append (laid pieces file) bytes in
        subst (λ (l : List Span). IsCovered l i) (sym (spans-here files))
        (elim (cases_lt i (length (laid pieces file))) [
          | inl before ↦ covered-first (spans_in files pieces file) (record { at = at; bytes = bytes } ∷ []) i (was.covers files file i before)
          | inr behind ↦ covered-second (spans_in files pieces file) (record { at = at; bytes = bytes } ∷ []) i (inl (omega arith, omega arith))
        ])

    -- the pieces are laid out still
    pub laid_out : file_number file < 4 → at < 2 ^ 32 → length bytes < 2 ^ 32 → length more < 2 ^ 32 → IsLaidOut more
    laid_out base place short few = record {
      fronts = λ files other old long. elim (cases_eq (file_number file) (file_number other)) [
        | inl same ↦
            subst (λ (f : FileId). length (laid more f) ≤ length old → patched (spans_in files more f) old ≡ laid more f ++ drop (length (laid more f)) old)
            (number-injective file other same) (front-here files old) long
        | inr apart ↦
            let same : laid more other ≡ laid pieces other = laid-other other (λ is. apart (sym (ap file_number is))) in
            ap (λ (l : List Span). patched l old) (spans-other files other apart)
            ∙ was.fronts files other old (omega (arith, ap length same))
            ∙ ap (λ (l : List ℕ). l ++ drop (length l) old) (sym same)
      ];
      covers = λ files other i low. elim (cases_eq (file_number file) (file_number other)) [
        | inl same ↦
            subst (λ (f : FileId). i < length (laid more f) → IsCovered (spans_in files more f) i) (number-injective file other same) (covers-here files i) low
        | inr apart ↦
            let same : laid more other ≡ laid pieces other = laid-other other (λ is. apart (sym (ap file_number is))) in
            subst (λ (l : List Span). IsCovered l i) (sym (spans-other files other apart)) (was.covers files other i (omega (arith, ap length same)))
      ];
      each =
          All-append (IsLegalIn (λ f. length (laid more f))) pieces (Bytes file at bytes ∷ [])
          (λ k d low. legal_longer (λ f. length (laid pieces f)) (λ f. length (laid more f)) (slice_index_or pieces k d) laid-longer (was.each k d low))
          (All-cons (IsLegalIn (λ f. length (laid more f))) (Bytes file at bytes) []
          (record { of_base = base; place = omega (arith, place); size = omega (arith, short); within = omega (arith, ap length laid-here, length-append (laid pieces file) bytes) })
          (All-nil (IsLegalIn (λ f. length (laid more f)))));
      few = few;
    }

-- a record with one piece more
pub size_more : (old new : RedoView) (file : FileId) (at : ℕ) (bytes : List ℕ) → new.lengths ≡ old.lengths → new.pieces ≡ old.pieces ++ Bytes file at bytes ∷ []
    → record_size new ≡ record_size old + 20 + length bytes
size_more old new file at bytes lengths_are pieces_are =
    let piece : length (piece_bytes Two (Bytes file at bytes)) ≡ 20 + length bytes =
    length-append (0 ∷ file_number file ∷ 0 ∷ 0 ∷ number_bytes 8 at ++ number_bytes 8 (length bytes)) bytes in
    let all : length (flat_map (piece_bytes Two) new.pieces) ≡ length (flat_map (piece_bytes Two) old.pieces) + (20 + length bytes) =
    ap (λ (l : List Piece). length (flat_map (piece_bytes Two) l)) pieces_are
    ∙ ap length (flat_map-append (piece_bytes Two) old.pieces (Bytes file at bytes ∷ []))
    ∙ length-append (flat_map (piece_bytes Two) old.pieces) (piece_bytes Two (Bytes file at bytes) ++ [])
    ∙ ap (λ n. length (flat_map (piece_bytes Two) old.pieces) + n) (ap length (append-nil (piece_bytes Two (Bytes file at bytes))) ∙ piece) in
    omega (arith, length-record 0 new.lengths new.pieces, length-record 0 old.lengths old.pieces, ap (λ (l : List Length). length l) lengths_are)

-- what one piece more lays
pub lays_one : (old new : RedoView) (file : FileId) (at : ℕ) (bytes : List ℕ) → new.lengths ≡ old.lengths → new.pieces ≡ old.pieces ++ Bytes file at bytes ∷ []
    → at ≡ length (laid old.pieces file) → file_number file < 4 → at < 2 ^ 32 → length bytes < 2 ^ 32 → length new.pieces < 2 ^ 32 → Lays file 1 bytes old new
lays_one old new file at bytes lengths_are pieces_are at_is base place short few = record {
  lengths = lengths_are;
  here = ap (λ (l : List Piece). laid l file) pieces_are ∙ laid-here old.pieces file at bytes;
  others = λ other apart. ap (λ (l : List Piece). pieces_into l other) pieces_are ∙ into-other old.pieces file at bytes other apart;
  kept = λ was.
      subst IsLaidOut (sym pieces_are)
      (laid_out old.pieces file at bytes was at_is base place short (subst (λ (l : List Piece). length l < 2 ^ 32) pieces_are few));
  size = omega (arith, size_more old new file at bytes lengths_are pieces_are);
}
