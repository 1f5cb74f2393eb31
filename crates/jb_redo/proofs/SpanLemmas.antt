-- What pieces write into a file.
use Rattle.std.proofs.Common.{◌≡◌, ◌≢◌, inl, inr, ℕ, ◌+◌, ◌<◌, ◌≤◌, List, [], ◌∷◌, ◌++◌, All, length, filter, map, take, drop, refl, ap, sym, ◌∙◌, subst, arith}
use Rattle.std.proofs.lemmas.Bool.{cases_eq}
use Rattle.std.proofs.lemmas.Bool.Decides.{nat_tests}
use Rattle.std.proofs.lemmas.List.{length-take-le, length-drop, map-append}
use Rattle.std.proofs.lemmas.List.Elements.{All-head, All-tail, filter-append}
use Rattle.jb_disk.specs.declared.file.FileId.{FileId}
use Rattle.jb_disk.specs.declared.file.FileId.TheVariants.{Ndt}
use Rattle.jb_disk.specs.declared.piece.Piece.{Piece}
use Rattle.jb_disk.specs.declared.piece.Piece.TheVariants.{Bytes, Copy}
use Rattle.jb_disk.specs.declared.version.Version.{Version}
use Rattle.jb_disk.specs.Files.{Files, file_number}
use Rattle.jb_disk.specs.FileLaws.{number-injective}
use Rattle.jb_disk.specs.Steps.{Span, AreWithin, IsCovered}
use Rattle.jb_redo.specs.Rules.{IsLegalPiece, sizes_of}
use Rattle.jb_redo.specs.Replay.{target_of, span_of, spans_in, writes}

-- a piece that is written into this file
pub spans_in-here : (files : Files) (piece : Piece) (pieces : List Piece) (file : FileId) → file_number (target_of piece) ≡ file_number file
    → spans_in files (piece ∷ pieces) file ≡ span_of files piece ∷ spans_in files pieces file
spans_in-here files piece pieces file same = grind (arith, nat_tests)

-- a piece that is not
pub spans_in-other : (files : Files) (piece : Piece) (pieces : List Piece) (file : FileId) → file_number (target_of piece) ≢ file_number file
    → spans_in files (piece ∷ pieces) file ≡ spans_in files pieces file
spans_in-other files piece pieces file apart = grind (arith, nat_tests)

-- a legal piece is written into a file of the base
pub legal_target : (version : Version) (sizes ends : FileId → ℕ) (piece : Piece) → IsLegalPiece version sizes ends piece → file_number (target_of piece) < 4
legal_target version sizes ends (Bytes file at bytes) legal = legal.of_base
legal_target version sizes ends (Copy from from_at to to_at len) legal =
    let texts = ap file_number legal.texts in
    omega (arith, texts)

-- nothing is written into the journal and the shadow of the texts
pub no_spans : (version : Version) (sizes ends : FileId → ℕ) (files : Files) (pieces : List Piece) (file : FileId) → All (IsLegalPiece version sizes ends) pieces → 4 ≤ file_number file → spans_in files pieces file ≡ []
no_spans version sizes ends files [] file legal high = refl
no_spans version sizes ends files (piece ∷ pieces) file legal high =
    let target = legal_target version sizes ends piece (All-head (IsLegalPiece version sizes ends) piece pieces legal) in
    spans_in-other files piece pieces file (λ same. omega (arith, same, target))
    ∙ no_spans version sizes ends files pieces file (All-tail (IsLegalPiece version sizes ends) piece pieces legal) high

-- what a piece writes hangs on the shadow of the texts alone
pub span_same : (version : Version) (sizes ends : FileId → ℕ) (one other : Files) (piece : Piece) → IsLegalPiece version sizes ends piece → one Ndt ≡ other Ndt → span_of one piece ≡ span_of other piece
span_same version sizes ends one other (Bytes file at bytes) legal same = refl
span_same version sizes ends one other (Copy from from_at to to_at len) legal same =
    let source : one from ≡ other from = subst (λ (f : FileId). one f ≡ other f) (sym legal.shadow) same in
    λ i. record { at = to_at; bytes = take len (drop from_at (source i)) }

-- and so do all that are written into a file
pub spans_same : (version : Version) (sizes ends : FileId → ℕ) (one other : Files) (pieces : List Piece) (file : FileId) → All (IsLegalPiece version sizes ends) pieces → one Ndt ≡ other Ndt
    → spans_in one pieces file ≡ spans_in other pieces file
spans_same version sizes ends one other [] file legal same = refl
spans_same version sizes ends one other (piece ∷ pieces) file legal same =
    let first = All-head (IsLegalPiece version sizes ends) piece pieces legal in
    let rest = spans_same version sizes ends one other pieces file (All-tail (IsLegalPiece version sizes ends) piece pieces legal) same in
    elim (cases_eq (file_number (target_of piece)) (file_number file)) [
      | inl here ↦ spans_in-here one piece pieces file here ∙ (λ i. span_same version sizes ends one other piece first same i ∷ rest i) ∙ sym (spans_in-here other piece pieces file here)
      | inr apart ↦ spans_in-other one piece pieces file apart ∙ rest ∙ sym (spans_in-other other piece pieces file apart)
    ]

-- a legal piece ends within the file that it is written into
pub span_within : (version : Version) (files : Files) (ends : FileId → ℕ) (piece : Piece) → IsLegalPiece version (sizes_of files) ends piece → (span_of files piece).at + length (span_of files piece).bytes ≤ ends (target_of piece)
span_within version files ends (Bytes file at bytes) legal = legal.within
span_within version files ends (Copy from from_at to to_at len) legal =
    let inside = legal.inside in
    let within = legal.within in
    let size = length-take-le len (drop from_at (files from)) (omega (arith, length-drop from_at (files from))) in
    omega (arith, size)

-- and so do all of them
pub spans_within : (version : Version) (files : Files) (ends : FileId → ℕ) (pieces : List Piece) (file : FileId) → All (IsLegalPiece version (sizes_of files) ends) pieces → AreWithin (spans_in files pieces file) (ends file)
spans_within version files ends [] file legal = tt
spans_within version files ends (piece ∷ pieces) file legal =
    let first = span_within version files ends piece (All-head (IsLegalPiece version (sizes_of files) ends) piece pieces legal) in
    let rest = spans_within version files ends pieces file (All-tail (IsLegalPiece version (sizes_of files) ends) piece pieces legal) in
    elim (cases_eq (file_number (target_of piece)) (file_number file)) [
      | inl here ↦ subst (λ (l : List Span). AreWithin l (ends file)) (sym (spans_in-here files piece pieces file here)) (subst (λ (f : FileId). (span_of files piece).at + length (span_of files piece).bytes ≤ ends f) (number-injective (target_of piece) file here) first, rest)
      | inr apart ↦ subst (λ (l : List Span). AreWithin l (ends file)) (sym (spans_in-other files piece pieces file apart)) rest
    ]

-- the spans of pieces behind others
pub spans-append : (files : Files) (first second : List Piece) (file : FileId) → spans_in files (first ++ second) file ≡ spans_in files first file ++ spans_in files second file
spans-append files first second file =
    ap (map (span_of files)) (filter-append (writes file) first second) ∙ map-append (span_of files) (filter (writes file) first) (filter (writes file) second)

-- a place that the first have
pub covered-first : (first second : List Span) (i : ℕ) → IsCovered first i → IsCovered (first ++ second) i
covered-first [] second i none = absurd none
covered-first (span ∷ first) second i covered = elim covered [
  | inl here ↦ inl here
  | inr rest ↦ inr (covered-first first second i rest)
]
