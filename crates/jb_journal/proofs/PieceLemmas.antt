-- Pieces written one after another.
use Rattle.std.proofs.Common.{◌≡◌, ◌≢◌, inl, inr, zero, suc, ℕ, ◌+◌, ◌<◌, ◌≤◌, List, [], ◌∷◌, All, length, take, drop, get_or, refl, ap, sym, ◌∙◌, subst, arith, Option, Some, None, true, false, length-drop, Result, OnOk}
use Rattle.jb_disk.specs.declared.version.Version.TheVariants.{Two}
use Rattle.std.specs.Prelude.{slice_get}
use Rattle.std.specs.Option.{ForSome, option_map}
use Rattle.std.proofs.lemmas.Bool.{cases_eq}
use Rattle.std.proofs.lemmas.List.{drop_more, length-take-le}
use Rattle.std.proofs.lemmas.List.Elements.{All-head, All-tail}
use Rattle.std.proofs.lemmas.Option.{slice_get-get_or}
use Rattle.jb_disk.specs.declared.file.FileId.{FileId}
use Rattle.jb_disk.specs.declared.file.FileId.TheVariants.{Jhr, Jdt, Ndt}
use Rattle.jb_disk.specs.declared.piece.Length.{Length}
use Rattle.jb_disk.specs.declared.piece.Piece.{Piece}
use Rattle.jb_disk.specs.declared.piece.Piece.TheVariants.{Bytes, Copy}
use Rattle.jb_disk.specs.declared.piece.PieceHead.{PieceHead}
use Rattle.jb_disk.specs.RedoView.{piece_head, bytes_of}
use Rattle.jb_disk.specs.Files.{Files, file_number, overwritten, written}
use Rattle.jb_disk.specs.FileLaws.{with_file-here, with_file-other, number-injective}
use Rattle.jb_disk.specs.Steps.{IsCovered, patched, Span}
use Rattle.jb_disk.specs.Device.{Device, TellsAlike}
use Rattle.jb_disk.specs.Runs.{Keeps}
use Rattle.jb_disk.proofs.RunLemmas.{keeps-refl, keeps-then}
use Rattle.jb_redo.specs.OnTheWay.{IsOnTheWay}
use Rattle.jb_redo.specs.Replay.{target_of, span_of, spans_in}
use Rattle.jb_redo.specs.Rules.{sizes_of, new_sizes, IsLegalPiece, IsLegalRecord}
use Rattle.jb_redo.proofs.SpanLemmas.{spans_in-here, spans_in-other, spans_same, legal_target}
use Rattle.jb_journal.specs.Pending.{Pending, told_with, StandsInFile, IsFrom, Flushes}
use Rattle.jb_journal.specs.Filing.{with_piece, with_pieces, HasPlace, IsWrittenBy}
use Rattle.jb_journal.specs.Spelling.{nth_piece}
use Rattle.jb_journal.specs.Writing.{Reaches, copied_over}
use Rattle.jb_journal.specs.Coming.{ComeBy}
use Rattle.jb_journal.proofs.ComingLemmas.{come_none, come_on}
use Rattle.jb_journal.proofs.GatherLemmas.{seen-none}
use Rattle.jb_journal.proofs.Told.{option_map-twice, length-written, told_back, on_ok}

-- true is not false
not-false : true ≡ false → ⊥
not-false is = cc

-- a piece by its number, whatever stands behind the list
pub head-at : (pieces : List Piece) (k : ℕ) (d : Piece) (head : PieceHead) → k < length pieces → Some head ≡ option_map piece_head (slice_get pieces k) → head ≡ piece_head (get_or pieces k d)
head-at pieces k d head low is =
    let there = slice_get-get_or pieces k d low in
    let both : Some head ≡ Some (piece_head (get_or pieces k d)) = is ∙ ap (option_map piece_head) there in
    cc

-- the file into which it is written
pub target-head : (piece : Piece) → (piece_head piece).to ≡ target_of piece
target-head (Bytes file at bytes) = refl
target-head (Copy from from_at to to_at len) = refl

-- a copy writes what it copies
pub copy-written : (piece : Piece) (head : PieceHead) → head ≡ piece_head piece → head.copy ≡ true → (files : Files) → copied_over head.from head.from_at head.to head.to_at head.len files ≡ with_piece piece files
copy-written (Bytes file at bytes) head is copy files = absurd (not-false (sym copy ∙ ap (λ (h : PieceHead). h.copy) is))
copy-written (Copy from from_at to to_at len) head is copy files = λ i. copied_over (is i).from (is i).from_at (is i).to (is i).to_at (is i).len files

-- another piece writes its bytes
pub bytes-written : (piece : Piece) (head : PieceHead) (bytes : List ℕ) → head ≡ piece_head piece → head.copy ≡ false → bytes ≡ bytes_of piece → (files : Files) → written head.to head.to_at bytes files ≡ with_piece piece files
bytes-written (Bytes file at given) head bytes is copy same files = λ i. written (is i).to (is i).to_at (same i) files
bytes-written (Copy from from_at to to_at len) head bytes is copy same files = absurd (not-false (sym (ap (λ (h : PieceHead). h.copy) is) ∙ copy))

-- what a copy needs
pub record CopyRoom (head : PieceHead) (files : Files) : Type 0 where
  pub apart : head.from ≢ head.to
  pub source : head.from_at + head.len ≤ length (files head.from)
  pub target : head.to_at + head.len ≤ length (files head.to)

-- the shadow of the texts is not the texts
not_texts : (from to : FileId) → from ≡ Ndt → to ≡ Jdt → from ≢ to
not_texts from to shadow texts same =
    let five : file_number from ≡ 5 = ap file_number shadow in
    let one : file_number to ≡ 1 = ap file_number texts in
    let both : file_number from ≡ file_number to = ap file_number same in
    omega (arith, five, one, both)

-- a copy that has its place
pub copy-room : (piece : Piece) (head : PieceHead) (files : Files) → head ≡ piece_head piece → head.copy ≡ true → HasPlace files piece → CopyRoom head files
copy-room (Bytes file at bytes) head files is copy place = absurd (not-false (sym copy ∙ ap (λ (h : PieceHead). h.copy) is))
copy-room (Copy from from_at to to_at len) head files is copy place = subst (λ (h : PieceHead). CopyRoom h files) (sym is) (record {
  apart = not_texts from to place.shadow place.texts;
  source = place.inside;
  target = place.within;
})

-- bytes that have their place
pub bytes-room : (piece : Piece) (head : PieceHead) (bytes : List ℕ) (files : Files) → head ≡ piece_head piece → head.copy ≡ false → bytes ≡ bytes_of piece → HasPlace files piece → head.to_at + length bytes ≤ length (files head.to)
bytes-room (Bytes file at given) head bytes files is copy same place = subst (λ (h : PieceHead). h.to_at + length bytes ≤ length (files h.to)) (sym is) (subst (λ (l : List ℕ). at + length l ≤ length (files file)) (sym same) place.within)
bytes-room (Copy from from_at to to_at len) head bytes files is copy same place = absurd (not-false (sym (ap (λ (h : PieceHead). h.copy) is) ∙ copy))

-- what is copied has its length
copy-length : (len from_at : ℕ) (bytes : List ℕ) → from_at + len ≤ length bytes → length (take len (drop from_at bytes)) ≡ len
copy-length len from_at bytes inside = length-take-le len (drop from_at bytes) (omega (arith, length-drop from_at bytes))

-- what a piece writes ends within its file
piece-within : (piece : Piece) (files : Files) → HasPlace files piece → (span_of files piece).at + length (span_of files piece).bytes ≤ length (files (target_of piece))
piece-within (Bytes file at bytes) files place = place.within
piece-within (Copy from from_at to to_at len) files place =
    let size = copy-length len from_at (files from) place.inside in
    omega (arith, size, place.within)

-- a piece of a list is among what is written into its file
covered-at : (start : Files) (pieces : List Piece) (k : ℕ) (d : Piece) → k < length pieces → IsWrittenBy start pieces (target_of (get_or pieces k d)) (span_of start (get_or pieces k d)).at (length (span_of start (get_or pieces k d)).bytes)
covered-at start [] k d low i over under = absurd (omega arith)
covered-at start (piece ∷ pieces) zero d low i over under = subst (λ (l : List Span). IsCovered l i) (sym (spans_in-here start piece pieces (target_of piece) refl)) (inl (over, under))
covered-at start (piece ∷ pieces) (suc k) d low i over under =
    let file = target_of (get_or pieces k d) in
    let rest = covered-at start pieces k d (omega arith) i over under in
    elim (cases_eq (file_number (target_of piece)) (file_number file)) [
      | inl here ↦ subst (λ (l : List Span). IsCovered l i) (sym (spans_in-here start piece pieces file here)) (inr rest)
      | inr apart ↦ subst (λ (l : List Span). IsCovered l i) (sym (spans_in-other start piece pieces file apart)) rest
    ]

-- so it is of a legal one, by its head
pub covered-head : (start : Files) (lengths : List Length) (pieces : List Piece) (k : ℕ) (head : PieceHead) → IsLegalRecord Two (sizes_of start) lengths pieces → k < length pieces → head ≡ piece_head (nth_piece pieces k)
    → IsWrittenBy start pieces head.to head.to_at head.len
covered-head start lengths pieces k head legal low is =
    subst (λ (h : PieceHead). IsWrittenBy start pieces h.to h.to_at h.len) (sym is)
    (by_piece (nth_piece pieces k) (legal.pieces_are.each k (Bytes Jhr 0 []) low) (covered-at start pieces k (Bytes Jhr 0 []) low))
  where
    by_piece : (piece : Piece) → IsLegalPiece Two (sizes_of start) (new_sizes lengths (sizes_of start)) piece → IsWrittenBy start pieces (target_of piece) (span_of start piece).at (length (span_of start piece).bytes)
        → IsWrittenBy start pieces (piece_head piece).to (piece_head piece).to_at (piece_head piece).len
    by_piece (Bytes file at bytes) legal covers = covers
    by_piece (Copy from from_at to to_at len) legal covers = subst (λ (n : ℕ). IsWrittenBy start pieces to to_at n) (copy-length len from_at (start from) legal.inside) covers

-- the length that a head tells
pub length-head : (piece : Piece) (head : PieceHead) (bytes : List ℕ) → head ≡ piece_head piece → head.copy ≡ false → bytes ≡ bytes_of piece → length bytes ≡ head.len
length-head (Bytes file at given) head bytes is copy same = ap length same ∙ sym (ap (λ (h : PieceHead). h.len) is)
length-head (Copy from from_at to to_at len) head bytes is copy same = absurd (not-false (sym (ap (λ (h : PieceHead). h.copy) is) ∙ copy))

-- a piece changes no length
sizes-with : (piece : Piece) (files : Files) → HasPlace files piece → sizes_of (with_piece piece files) ≡ sizes_of files
sizes-with piece files place = λ i. λ file. length-written (target_of piece) file (span_of files piece).at (span_of files piece).bytes files (piece-within piece files place) i

-- nor does it take room
pub reaches-with : (piece : Piece) (o after : Option Files) (f : FileId) (end : ℕ) → after ≡ option_map (with_piece piece) o → ForSome o (λ files. HasPlace files piece) → Reaches o f end → Reaches after f end
reaches-with piece o after f end told place reaches = λ files there.
    let back = told_back o after (with_piece piece) files told there in
    let same : sizes_of files ≡ sizes_of back.0 = ap sizes_of back.2 ∙ sizes-with piece back.0 (place back.0 back.1) in
    let size : length (files f) ≡ length (back.0 f) = ap (λ (sizes : FileId → ℕ). sizes f) same in
    omega (arith, size, reaches back.0 back.1)

-- these pieces of all are still to be put
pub record Putting (initial now : Device) (pending : Pending) (pieces rest : List Piece) : Type 0 where
  pub told : option_map (with_pieces rest) (told_with pending now.contents) ≡ option_map (with_pieces pieces) initial.contents
  pub held : StandsInFile pending now.contents
  pub place : ForSome (told_with pending now.contents) (λ files. All (HasPlace files) pieces)
  pub come : ComeBy [] [] initial.moments now.moments
  pub counted : now.faults ≡ initial.faults
  pub alike : TellsAlike initial now
  pub keeps : (lengths : List Length) (start : Files) → IsLegalRecord Two (sizes_of start) lengths pieces → IsFrom start pieces pending × Keeps (IsOnTheWay lengths pieces start) initial now

-- none is put yet, and nothing is on its way to the beginning of a file
pub putting_start : (device : Device) (pending : Pending) (pieces : List Piece) → pending ≡ record { file = Jhr; at = 0; bytes = [] } → ForSome device.contents (λ files. All (HasPlace files) pieces) → Putting device device pending pieces pieces
putting_start device pending pieces none place = subst (λ (p : Pending). Putting device device p pieces pieces) (sym none) (record {
  told = ap (option_map (with_pieces pieces)) (seen-none Jhr 0 device.contents);
  held = λ files there. omega arith;
  place = subst (λ (o : Option Files). ForSome o (λ files. All (HasPlace files) pieces)) (sym (seen-none Jhr 0 device.contents)) place;
  come = come_none device.moments;
  counted = refl;
  alike = refl;
  keeps = λ lengths start legal. (λ i over under. absurd (omega (arith, over, under)), keeps-refl (IsOnTheWay lengths pieces start) device);
})

-- the place of the next
pub putting_place : (initial now : Device) (pending : Pending) (pieces rest : List Piece) (k : ℕ) → Putting initial now pending pieces rest → k < length pieces → ForSome (told_with pending now.contents) (λ files. HasPlace files (nth_piece pieces k))
putting_place initial now pending pieces rest k putting low = λ files there. putting.place files there k (Bytes Jhr 0 []) low

-- one piece more
pub putting_on : (initial now next : Device) (pending coming : Pending) (pieces : List Piece) (k : ℕ) → Putting initial now pending pieces (drop k pieces) → k < length pieces
    → told_with coming next.contents ≡ option_map (with_piece (nth_piece pieces k)) (told_with pending now.contents) → StandsInFile coming next.contents → ComeBy [] [] now.moments next.moments → next.faults ≡ now.faults → TellsAlike now next
    → ((lengths : List Length) (start : Files) → IsLegalRecord Two (sizes_of start) lengths pieces → IsFrom start pieces pending → IsFrom start pieces coming × Keeps (IsOnTheWay lengths pieces start) now next)
    → Putting initial next coming pieces (drop (k + 1) pieces)
putting_on initial now next pending coming pieces k putting low told held come kept alike keeps =
    let piece = nth_piece pieces k in
    let more : drop k pieces ≡ piece ∷ drop (k + 1) pieces = drop_more pieces k (Bytes Jhr 0 []) low in
    record {
      told =
          ap (option_map (with_pieces (drop (k + 1) pieces))) told
          ∙ option_map-twice (with_piece piece) (with_pieces (drop (k + 1) pieces)) (told_with pending now.contents)
          ∙ ap (λ (l : List Piece). option_map (with_pieces l) (told_with pending now.contents)) (sym more)
          ∙ putting.told;
      held = held;
      come = come_on [] [] initial.moments now.moments next.moments putting.come come;
      place = λ files there.
          let back = told_back (told_with pending now.contents) (told_with coming next.contents) (with_piece piece) files told there in
          let was = putting.place back.0 back.1 in
          let same : sizes_of files ≡ sizes_of back.0 = ap sizes_of back.2 ∙ sizes-with piece back.0 (was k (Bytes Jhr 0 []) low) in
          subst (λ (sizes : FileId → ℕ). All (IsLegalPiece Two sizes sizes) pieces) (sym same) was;
      counted = kept ∙ putting.counted;
      alike = alike ∙ putting.alike;
      keeps = λ lengths start legal.
          let was = putting.keeps lengths start legal in
          let now_is = keeps lengths start legal was.0 in
          (now_is.0, keeps-then (IsOnTheWay lengths pieces start) initial now next was.1 now_is.1);
    }

-- all are put, and what was on its way is written
pub putting_end : {T E : Type 0} (initial now next : Device) (pending coming : Pending) (pieces rest : List Piece) (result : Result T E) → Putting initial now pending pieces rest → rest ≡ [] → Flushes pending now coming next result
    → OnOk result (next.contents ≡ option_map (with_pieces pieces) initial.contents)
putting_end initial now next pending coming pieces rest result putting none flush = on_ok result _ _ (λ told.
    told ∙ sym (same (told_with pending now.contents)) ∙ ap (λ (l : List Piece). option_map (with_pieces l) (told_with pending now.contents)) (sym none) ∙ putting.told) flush.told
  where
    same : (contents : Option Files) → option_map (with_pieces []) contents ≡ contents
    same None = refl
    same (Some files) = refl

-- what the pieces make of one file
pub pieces-patched : (pieces : List Piece) (sizes ends : FileId → ℕ) (files : Files) (file : FileId) → All (IsLegalPiece Two sizes ends) pieces → with_pieces pieces files file ≡ patched (spans_in files pieces file) (files file)
pieces-patched [] sizes ends files file legal = refl
pieces-patched (piece ∷ pieces) sizes ends files file legal =
    let rest_legal = All-tail (IsLegalPiece Two sizes ends) piece pieces legal in
    let low = legal_target Two sizes ends piece (All-head (IsLegalPiece Two sizes ends) piece pieces legal) in
    let target = target_of piece in
    let span = span_of files piece in
    let next = with_piece piece files in
    let shadow : next Ndt ≡ files Ndt = with_file-other target Ndt _ files (λ is. let five : 5 ≡ file_number target = ap file_number is in omega (arith, low, five)) in
    let rest : with_pieces pieces next file ≡ patched (spans_in files pieces file) (next file) =
    pieces-patched pieces sizes ends next file rest_legal ∙ ap (λ (l : List Span). patched l (next file)) (spans_same Two sizes ends next files pieces file rest_legal shadow) in
    elim (cases_eq (file_number target) (file_number file)) [
      | inl here ↦
          let is : next file ≡ overwritten span.at span.bytes (files file) =
          subst (λ (f : FileId). next f ≡ overwritten span.at span.bytes (files f)) (number-injective target file here) (with_file-here target (overwritten span.at span.bytes (files target)) files) in
          rest ∙ ap (patched (spans_in files pieces file)) is ∙ ap (λ (l : List Span). patched l (files file)) (sym (spans_in-here files piece pieces file here))
      | inr apart ↦
          let is : next file ≡ files file = with_file-other target file _ files (λ same. apart (ap file_number (sym same))) in
          rest ∙ ap (patched (spans_in files pieces file)) is ∙ ap (λ (l : List Span). patched l (files file)) (sym (spans_in-other files piece pieces file apart))
    ]
