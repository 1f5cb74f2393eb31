-- A record's pieces, written one after another over files that have their new lengths.
use Rattle.std.proofs.Common.{◌≡◌, ◌≢◌, inl, inr, ℕ, ◌+◌, ◌<◌, ◌≤◌, List, [], ◌∷◌, ◌++◌, All, length, take, drop, refl, ap, sym, ◌∙◌, subst, arith}
use Rattle.std.specs.Prelude.{Option, Some, None, ◌^◌}
use Rattle.jb_bytes.specs.Number.{number_bytes}
use Rattle.std.specs.Option.{ForSome, option_map}
use Rattle.std.proofs.lemmas.Bool.{cases_eq}
use Rattle.std.proofs.lemmas.List.{length-take-le, length-drop, append_assoc}
use Rattle.jb_disk.specs.declared.file.FileId.{FileId}
use Rattle.jb_disk.specs.declared.file.FileId.TheVariants.{Jnl, Ndt}
use Rattle.jb_disk.specs.declared.piece.Length.{Length}
use Rattle.jb_disk.specs.declared.piece.Piece.{Piece}
use Rattle.jb_disk.specs.declared.piece.Piece.TheVariants.{Bytes, Copy}
use Rattle.jb_disk.specs.Device.{Device, OnlyReads, Turns}
use Rattle.jb_disk.specs.Files.{Files, file_number, overwritten}
use Rattle.jb_disk.specs.FileLaws.{same_file, same_files, with_file-here, with_file-other, number-injective, length-overwritten}
use Rattle.jb_disk.specs.Steps.{Span, IsCovered, AreWithin, patched}
use Rattle.jb_disk.proofs.RunLemmas.{keeps-refl, keeps-then, keeps-reads}
use Rattle.jb_redo.specs.declared.part.Part.{Part}
use Rattle.jb_redo.specs.declared.sizes.Sizes.{Sizes}
use Rattle.jb_redo.specs.Applying.{IsSoundPart, LiesWithin, copied, pieced, HasAppliedTo, HasPieced, KeepsInRange, KeepsWay}
use Rattle.jb_redo.specs.OnTheWay.{IsOnTheWay}
use Rattle.jb_redo.specs.Reading.{BeginsWith, IsRecordOf, HasRecord}
use Rattle.jb_redo.specs.Record.{piece_bytes}
use Rattle.jb_redo.specs.Replay.{target_of, span_of, spans_in}
use Rattle.jb_redo.specs.Rules.{sizes_of, IsLegalPiece}
use Rattle.jb_redo.specs.Walk.{size_in, journal_from, AreSizes, AreFixedSizes, HasLengths, HasPiecesTo, IsPartAt, HasNoPieceAt}
use Rattle.jb_redo.proofs.OneReading.{record_or_bad_place}
use Rattle.jb_redo.proofs.SpanLemmas.{spans_in-here, spans_in-other, no_spans, span_same, spans_within, span_within}
use Rattle.jb_redo.proofs.WalkLemmas.{pieces_start, pieces_start_none, next_piece, next_piece_is, bad_piece, record_pieces}
use Rattle.jb_redo.proofs.WayLemmas.{way_record, way_spans}

-- what is told after a change, where it is told before
pub turns_on : (R : Files → Files → Type 0) (old new : Option Files) (before : Files) → Turns R old new → old ≡ Some before → (after : Files) × (new ≡ Some after) × R before after
turns_on R None new before turns is = absurd (cc)
turns_on R (Some was) None before turns is = absurd turns
turns_on R (Some was) (Some now) before turns is =
    let same : was ≡ before = cc in
    (now, refl, subst (λ (f : Files). R f now) same turns)

-- and the other way round
pub turns_from : (R : Files → Files → Type 0) (old new : Option Files) (after : Files) → Turns R old new → new ≡ Some after → (before : Files) × (old ≡ Some before) × R before after
turns_from R old None after turns is = absurd (cc)
turns_from R None (Some now) after turns is = absurd turns
turns_from R (Some was) (Some now) after turns is =
    let same : now ≡ after = cc in
    (was, refl, subst (R was) same turns)

-- a change more, of which the exact files are told
pub turns_then : (R S : Files → Files → Type 0) (old now new : Option Files) (change : Files → Files) → Turns R old now → new ≡ option_map change now → ((before after : Files) → old ≡ Some before → now ≡ Some after → R before after → S before (change after))
    → Turns S old new
turns_then R S None None new change turns is follows = subst (Turns S None) (sym is) tt
turns_then R S None (Some now) new change turns is follows = absurd turns
turns_then R S (Some was) None new change turns is follows = absurd turns
turns_then R S (Some was) (Some now) new change turns is follows = subst (Turns S (Some was)) (sym is) (follows was now refl refl turns)

-- a weaker change
pub turns_weaken : (R S : Files → Files → Type 0) (old new : Option Files) → Turns R old new → ((before after : Files) → R before after → S before after) → Turns S old new
turns_weaken R S None None turns weaker = tt
turns_weaken R S None (Some now) turns weaker = absurd turns
turns_weaken R S (Some was) None turns weaker = absurd turns
turns_weaken R S (Some was) (Some now) turns weaker = weaker was now turns

-- a weaker change, of what is told
pub turns_weaken_told : (R S : Files → Files → Type 0) (old new : Option Files) → Turns R old new → ((before after : Files) → old ≡ Some before → new ≡ Some after → R before after → S before after) → Turns S old new
turns_weaken_told R S None None turns weaker = tt
turns_weaken_told R S None (Some now) turns weaker = absurd turns
turns_weaken_told R S (Some was) None turns weaker = absurd turns
turns_weaken_told R S (Some was) (Some now) turns weaker = weaker was now refl refl turns

-- nothing is changed
pub turns_none : (R : Files → Files → Type 0) (contents : Option Files) → ForSome contents (λ files. R files files) → Turns R contents contents
turns_none R None all = tt
turns_none R (Some files) all = all files refl

-- one span more, written last
pub patched-push : (spans : List Span) (span : Span) (old : List ℕ) → patched (spans ++ span ∷ []) old ≡ overwritten span.at span.bytes (patched spans old)
patched-push [] span old = refl
patched-push (first ∷ spans) span old = patched-push spans span (overwritten first.at first.bytes old)

-- spans within a file keep its length
pub length-patched : (spans : List Span) (old : List ℕ) → AreWithin spans (length old) → length (patched spans old) ≡ length old
length-patched [] old within = refl
length-patched (span ∷ spans) old within =
    let size = length-overwritten span.at span.bytes old within.0 in
    length-patched spans (overwritten span.at span.bytes old) (subst (AreWithin spans) (sym size) within.1) ∙ size

-- one piece more, written last
spans_in-push : (files : Files) (pieces : List Piece) (piece : Piece) (file : FileId) → file_number (target_of piece) ≡ file_number file
    → spans_in files (pieces ++ piece ∷ []) file ≡ spans_in files pieces file ++ span_of files piece ∷ []
spans_in-push files [] piece file same = spans_in-here files piece [] file same
spans_in-push files (first ∷ pieces) piece file same = elim (cases_eq (file_number (target_of first)) (file_number file)) [
  | inl here ↦ spans_in-here files first (pieces ++ piece ∷ []) file here ∙ ap (λ (l : List Span). span_of files first ∷ l) (spans_in-push files pieces piece file same)
      ∙ ap (λ (l : List Span). l ++ span_of files piece ∷ []) (sym (spans_in-here files first pieces file here))
  | inr apart ↦ spans_in-other files first (pieces ++ piece ∷ []) file apart ∙ spans_in-push files pieces piece file same
      ∙ ap (λ (l : List Span). l ++ span_of files piece ∷ []) (sym (spans_in-other files first pieces file apart))
]

-- one piece more that goes into another file
spans_in-pass : (files : Files) (pieces : List Piece) (piece : Piece) (file : FileId) → file_number (target_of piece) ≢ file_number file
    → spans_in files (pieces ++ piece ∷ []) file ≡ spans_in files pieces file
spans_in-pass files [] piece file apart = spans_in-other files piece [] file apart
spans_in-pass files (first ∷ pieces) piece file apart = elim (cases_eq (file_number (target_of first)) (file_number file)) [
  | inl here ↦ spans_in-here files first (pieces ++ piece ∷ []) file here ∙ ap (λ (l : List Span). span_of files first ∷ l) (spans_in-pass files pieces piece file apart)
      ∙ sym (spans_in-here files first pieces file here)
  | inr other ↦ spans_in-other files first (pieces ++ piece ∷ []) file other ∙ spans_in-pass files pieces piece file apart ∙ sym (spans_in-other files first pieces file other)
]

-- what a piece of a list writes is covered
covered_in : (files : Files) (pieces : List Piece) (piece : Piece) (others : List Piece) (i : ℕ) → (span_of files piece).at ≤ i → i < (span_of files piece).at + length (span_of files piece).bytes
    → IsCovered (spans_in files (pieces ++ piece ∷ others) (target_of piece)) i
covered_in files [] piece others i low high = subst (λ (l : List Span). IsCovered l i) (sym (spans_in-here files piece others (target_of piece) refl)) (inl (low, high))
covered_in files (first ∷ pieces) piece others i low high =
    let rest = covered_in files pieces piece others i low high in
    elim (cases_eq (file_number (target_of first)) (file_number (target_of piece))) [
      | inl here ↦ subst (λ (l : List Span). IsCovered l i) (sym (spans_in-here files first (pieces ++ piece ∷ others) (target_of piece) here)) (inr rest)
      | inr apart ↦ subst (λ (l : List Span). IsCovered l i) (sym (spans_in-other files first (pieces ++ piece ∷ others) (target_of piece) apart)) rest
    ]

-- the files while pieces are written over them
module _ (files : Files) (count read at : ℕ) (ends : Sizes) (now : Files) (sized : AreSizes ends files) (done : HasAppliedTo files count read at ends now) where
  -- the pieces that are written keep the rules
  legal_so_far : All (IsLegalPiece ends.version (sizes_of files) (size_in ends)) done.has.pieces
  legal_so_far = subst (λ (e : FileId → ℕ). All (IsLegalPiece ends.version (sizes_of files) e) done.has.pieces) (sym done.has.ends_are) done.has.read_to.legal.each

  -- the bytes of a file now
  now_is : (file : FileId) → now file ≡ patched (spans_in files done.has.pieces file) (files file)
  now_is file = ap (λ (f : Files). f file) done.is

  -- the journal and the shadow of the texts are as they were
  pub applied_kept : (file : FileId) → 4 ≤ file_number file → now file ≡ files file
  applied_kept file high = now_is file ∙ ap (λ (l : List Span). patched l (files file)) (no_spans ends.version (sizes_of files) (size_in ends) files done.has.pieces file legal_so_far high)

  -- the files keep their lengths
  pub applied_size : (file : FileId) → length (now file) ≡ size_in ends file
  applied_size file =
      ap length (now_is file)
      ∙ length-patched (spans_in files done.has.pieces file) (files file) (subst (AreWithin (spans_in files done.has.pieces file)) (sized file) (spans_within ends.version files (size_in ends) done.has.pieces file legal_so_far))
      ∙ sym (sized file)

  -- so the lengths that are kept are those of these files too
  pub applied_fixed : AreFixedSizes ends now
  applied_fixed = record { journal = sym (applied_size Jnl); shadow = sym (applied_size Ndt) }

  -- a piece that is legal over the files now was so at first
  legal_back : (piece : Piece) → IsLegalPiece ends.version (sizes_of now) (size_in ends) piece → IsLegalPiece ends.version (sizes_of files) (size_in ends) piece
  legal_back (Bytes file at' bytes) legal = legal
  legal_back (Copy from from_at to to_at len) legal =
      let inside = legal.inside in
      record {
        shadow = legal.shadow;
        texts = legal.texts;
        place = legal.place;
        source = legal.source;
        size = legal.size;
        inside = omega (arith, ap length (applied_kept from (omega (arith, ap file_number legal.shadow))));
        within = legal.within;
      }

  -- and the other way round
  legal_on : (piece : Piece) → IsLegalPiece ends.version (sizes_of files) (size_in ends) piece → IsLegalPiece ends.version (sizes_of now) (size_in ends) piece
  legal_on (Bytes file at' bytes) legal = legal
  legal_on (Copy from from_at to to_at len) legal =
      let inside = legal.inside in
      record {
        shadow = legal.shadow;
        texts = legal.texts;
        place = legal.place;
        source = legal.source;
        size = legal.size;
        inside = omega (arith, ap length (applied_kept from (omega (arith, ap file_number legal.shadow))));
        within = legal.within;
      }

  -- the journal is as it was
  same_journal : (place : ℕ) → journal_from now place ≡ journal_from files place
  same_journal place = ap (drop place) (applied_kept Jnl (omega arith))

  -- no piece stands there now, so none did
  pub none_back : (place : ℕ) → HasNoPieceAt now ends place → HasNoPieceAt files ends place
  none_back place none piece legal begins = none piece (legal_on piece legal) (subst (λ (l : List ℕ). BeginsWith l (piece_bytes ends.version piece)) (sym (same_journal place)) begins)

  module _ (part : Part) (sound : IsSoundPart part) (there : IsPartAt now ends at part) where
    -- what the piece writes is the same over the files as they were
    same_span : span_of files there.piece ≡ span_of now there.piece
    same_span = span_same ends.version (sizes_of files) (size_in ends) files now there.piece (legal_back there.piece there.legal) (sym (applied_kept Ndt (omega arith)))

    -- the piece that stands there stood there
    part_back : IsPartAt files ends at part
    part_back = record {
      piece = there.piece;
      legal = legal_back there.piece there.legal;
      begins = subst (λ (l : List ℕ). BeginsWith l (piece_bytes ends.version there.piece)) (same_journal at) there.begins;
      behind = there.behind;
      target = there.target;
      span = same_span ∙ there.span ∙ ap (λ (l : List ℕ). record { at = part.to_at; bytes = take part.len (drop part.from_at l) }) (applied_kept part.from sound.source);
      inside = subst (λ (l : List ℕ). part.from_at + part.len ≤ length l) (applied_kept part.from sound.source) there.inside;
    }

    -- it is the same piece
    same_piece : part_back.piece ≡ there.piece
    unfolding part_back
    same_piece = refl

    -- where it writes, and what
    span_is : span_of files there.piece ≡ record { at = part.to_at; bytes = take part.len (drop part.from_at (files part.from)) }
    span_is = ap (span_of files) (sym same_piece) ∙ part_back.span

    -- how many bytes it writes
    span_size : length (span_of files there.piece).bytes ≡ part.len
    span_size =
        let inside = part_back.inside in
        ap (λ s. length s.bytes) span_is ∙ length-take-le part.len (drop part.from_at (files part.from)) (omega (arith, length-drop part.from_at (files part.from)))

    -- there is room for it
    pub part_room : LiesWithin part now
    part_room =
        let within = span_within ends.version files (size_in ends) there.piece (legal_back there.piece there.legal) in
        let place : (span_of files there.piece).at ≡ part.to_at = ap (λ s. s.at) span_is in
        record {
          inside = there.inside;
          within = omega (arith, subst (λ (f : FileId). (span_of files there.piece).at + length (span_of files there.piece).bytes ≤ size_in ends f) (sym there.target) within, place, span_size, applied_size part.to);
        }

    module _ (more : read < count) where
      -- the piece is read
      next_has : HasPiecesTo files count (read + 1) part.behind ends
      next_has = next_piece files count read at ends done.has part more part_back

      -- and these are the pieces then
      next_pieces : next_has.pieces ≡ done.has.pieces ++ there.piece ∷ []
      unfolding next_has
      next_pieces = next_piece_is files count read at ends done.has part more part_back ∙ ap (λ p. done.has.pieces ++ p ∷ []) same_piece

      -- the piece is written over the files
      next_now : (file : FileId) → copied part part.len now file ≡ patched (spans_in files (done.has.pieces ++ there.piece ∷ []) file) (files file)
      next_now file = elim (same_file file part.to) [
        | inl same ↦
            let target : file_number (target_of there.piece) ≡ file_number file = ap file_number (sym there.target ∙ sym same) in
            subst (λ (f : FileId). copied part part.len now f ≡ overwritten part.to_at (take part.len (drop part.from_at (files part.from))) (now f)) (sym same)
            (with_file-here part.to _ now ∙ ap (λ (l : List ℕ). overwritten part.to_at (take part.len (drop part.from_at l)) (now part.to)) (applied_kept part.from sound.source))
            ∙ ap (overwritten part.to_at (take part.len (drop part.from_at (files part.from)))) (now_is file)
            ∙ ap (λ s. overwritten s.at s.bytes (patched (spans_in files done.has.pieces file) (files file))) (sym span_is)
            ∙ sym (patched-push (spans_in files done.has.pieces file) (span_of files there.piece) (files file))
            ∙ ap (λ (l : List Span). patched l (files file)) (sym (spans_in-push files done.has.pieces there.piece file target))
        | inr other ↦
            with_file-other part.to file _ now other ∙ now_is file
            ∙ ap (λ (l : List Span). patched l (files file)) (sym (spans_in-pass files done.has.pieces there.piece file (λ same. other (sym (there.target ∙ number-injective (target_of there.piece) file same)))))
      ]

      -- one piece more is read and written
      pub applied_next : HasAppliedTo files count (read + 1) part.behind ends (copied part part.len now)
      applied_next = record {
        has = next_has;
        is = same_files (copied part part.len now) (pieced (done.has.pieces ++ there.piece ∷ []) files) next_now ∙ ap (λ (l : List Piece). pieced l files) (sym next_pieces);
      }

      -- where the piece goes, the record's pieces are written
      pub applied_covers : (lengths : List Length) (pieces : List Piece) → IsRecordOf files lengths pieces → (i : ℕ) → part.to_at ≤ i → i < part.to_at + part.len → IsCovered (spans_in files pieces part.to) i
      applied_covers lengths pieces has i low high =
          let first = record_pieces files ends.version part.behind next_has.change lengths pieces has next_has.lengths count next_has.pieces next_has.read_to in
          let is : pieces ≡ done.has.pieces ++ there.piece ∷ first.0 =
          first.1 ∙ ap (λ (l : List Piece). l ++ first.0) next_pieces ∙ append_assoc done.has.pieces (there.piece ∷ []) first.0 in
          let place : (span_of files there.piece).at ≡ part.to_at = ap (λ s. s.at) span_is in
          let inside = covered_in files done.has.pieces there.piece first.0 i (omega (arith, place)) (omega (arith, place, span_size)) in
          subst (λ (f : FileId). IsCovered (spans_in files pieces f) i) (sym there.target) (subst (λ (l : List Piece). IsCovered (spans_in files l (target_of there.piece)) i) (sym is) inside)

-- what is read and written so far, as the disk tells it
abbrev pub AppliedSoFar : ℕ → ℕ → ℕ → Sizes → Files → Files → Type 0
AppliedSoFar count read at ends files now = HasAppliedTo files count read at ends now

-- no piece is written yet
pub told_start : (count at : ℕ) (ends : Sizes) (contents : Option Files) → ForSome contents (λ files. HasLengths files at ends) → count < 2 ^ 32
    → ForSome contents (λ files. BeginsWith (journal_from files at) (number_bytes 4 count)) → Turns (AppliedSoFar count 0 (at + 4) ends) contents contents
told_start count at ends contents has low begins = turns_none (AppliedSoFar count 0 (at + 4) ends) contents (λ files is. record {
  has = pieces_start files count at ends (has files is) low (begins files is);
  is = same_files files (pieced [] files) (λ file. refl) ∙ ap (λ (l : List Piece). pieced l files) (sym (pieces_start_none files count at ends (has files is) low (begins files is)));
})

-- all pieces are written
pub told_done : (count read at : ℕ) (ends : Sizes) (old new : Option Files) → read ≡ count → Turns (AppliedSoFar count read at ends) old new → Turns (λ files now. HasPieced files at ends now) old new
told_done count read at ends old new all turns =
    turns_weaken (AppliedSoFar count read at ends) (λ files now. HasPieced files at ends now) old new turns
    (λ files now done. record { count = count; all = subst (λ (n : ℕ). HasAppliedTo files count n at ends now) all done })

module _ (count read at : ℕ) (ends : Sizes) (old now : Option Files) (sized : ForSome old (AreSizes ends)) (told : Turns (AppliedSoFar count read at ends) old now) where
  -- the lengths that are kept are those of the files now
  pub told_fixed : ForSome now (AreFixedSizes ends)
  told_fixed = λ files is.
      let from = turns_from (AppliedSoFar count read at ends) old now files told is in
      applied_fixed from.0 count read at ends files (sized from.0 from.1) from.2

  -- no piece stands where one is to stand, so there is no record
  pub told_none_back : read < count → ForSome now (λ files. HasNoPieceAt files ends at) → ForSome old HasRecord → ForSome old (λ files. ⊥)
  told_none_back more none has = λ files is.
      let on = turns_on (AppliedSoFar count read at ends) old now files told is in
      record_or_bad_place files at (bad_piece files count read at ends on.2.has more (none_back files count read at ends on.0 (sized files is) on.2 at (none on.0 on.1))) (has files is)

  module _ (part : Part) (sound : IsSoundPart part) (there : ForSome now (λ files. IsPartAt files ends at part)) where
    -- there is room for the piece that is read
    pub told_part_room : ForSome now (LiesWithin part)
    told_part_room = λ files is.
        let from = turns_from (AppliedSoFar count read at ends) old now files told is in
        part_room from.0 count read at ends files (sized from.0 from.1) from.2 part sound (there files is)

    -- it is written
    pub told_next : (new : Option Files) → read < count → new ≡ option_map (copied part part.len) now → Turns (AppliedSoFar count (read + 1) part.behind ends) old new
    told_next new more is = turns_then (AppliedSoFar count read at ends) (AppliedSoFar count (read + 1) part.behind ends) old now new (copied part part.len) told is next
      where
        next : (before after : Files) → old ≡ Some before → now ≡ Some after → AppliedSoFar count read at ends before after → AppliedSoFar count (read + 1) part.behind ends before (copied part part.len after)
        next before after was is_now done = applied_next before count read at ends after (sized before was) done part sound (there after is_now) more

    -- and goes where the record says
    pub told_covers : read < count → (lengths : List Length) (pieces : List Piece) (start files : Files) → old ≡ Some files → IsRecordOf start lengths pieces → IsOnTheWay lengths pieces start files
        → (i : ℕ) → part.to_at ≤ i → i < part.to_at + part.len → IsCovered (spans_in start pieces part.to) i
    told_covers more lengths pieces start files is has way i low high =
        let on = turns_on (AppliedSoFar count read at ends) old now files told is in
        subst (λ (l : List Span). IsCovered l i) (way_spans lengths pieces start has.legal files way part.to)
        (applied_covers files count read at ends on.0 (sized files is) on.2 part sound (there on.0 on.1) more lengths pieces (way_record lengths pieces start has files way) i low high)

-- a call that only reads
pub reads_keep : (old new : Device) → OnlyReads old new → KeepsWay old new
reads_keep old new reads lengths pieces start files is has way = keeps-reads (IsOnTheWay lengths pieces start) old new reads

-- nothing is done
pub nothing_keeps : (device : Device) → KeepsWay device device
nothing_keeps device lengths pieces start files is has way = keeps-refl (IsOnTheWay lengths pieces start) device

-- after a call that only reads
pub keeps_after : (a b c : Device) → OnlyReads a b → KeepsWay b c → KeepsWay a c
keeps_after a b c reads keeps lengths pieces start files is has way =
    keeps-then (IsOnTheWay lengths pieces start) a b c (keeps-reads (IsOnTheWay lengths pieces start) a b reads) (keeps lengths pieces start files (reads.contents ∙ is) has way)

-- before a call that only reads
pub keeps_before : (a b c : Device) → KeepsWay a b → OnlyReads b c → KeepsWay a c
keeps_before a b c keeps reads lengths pieces start files is has way =
    keeps-then (IsOnTheWay lengths pieces start) a b c (keeps lengths pieces start files is has way) (keeps-reads (IsOnTheWay lengths pieces start) b c reads)

-- before a part is copied to where the record says
pub keeps_part : (a b c : Device) (file : FileId) (at len : ℕ) → KeepsWay a b → KeepsInRange file at len b c
    → ((lengths : List Length) (pieces : List Piece) (start files : Files) → a.contents ≡ Some files → IsRecordOf start lengths pieces → IsOnTheWay lengths pieces start files
    → (i : ℕ) → at ≤ i → i < at + len → IsCovered (spans_in start pieces file) i) → KeepsWay a c
keeps_part a b c file at len keeps range covers lengths pieces start files is has way =
    keeps-then (IsOnTheWay lengths pieces start) a b c (keeps lengths pieces start files is has way) (range lengths pieces start (covers lengths pieces start files is has way))
