-- What the third stage comes to.
use Rattle.std.proofs.Common.{◌≡◌, ◌≢◌, inl, inr, ℕ, ◌≤◌, List, [], ◌∷◌, All, length, refl, ap, sym, ◌∙◌, subst, arith, Option, Some, None, get_or}
use Rattle.jb_disk.specs.declared.version.Version.TheVariants.{Two}
use Rattle.std.specs.Option.{ForSome, option_map}
use Rattle.std.proofs.lemmas.Bool.{cases_lt}
use Rattle.std.proofs.lemmas.List.Elements.{All-head, All-tail}
use Rattle.jb_disk.specs.declared.file.FileId.{FileId}
use Rattle.jb_disk.specs.declared.file.FileId.TheVariants.{Ndt}
use Rattle.jb_disk.specs.declared.piece.Length.{Length}
use Rattle.jb_disk.specs.declared.piece.Piece.{Piece}
use Rattle.jb_disk.specs.declared.piece.Piece.TheVariants.{Bytes, Copy}
use Rattle.jb_disk.specs.Files.{Files, file_number, IsResized}
use Rattle.jb_disk.specs.FileLaws.{same_files}
use Rattle.jb_disk.specs.Memory.{of_length}
use Rattle.jb_disk.specs.Steps.{Span, patched}
use Rattle.jb_disk.specs.Device.{Turns}
use Rattle.jb_redo.specs.OnTheWay.{IsFileBetween, IsOnTheWay}
use Rattle.jb_redo.specs.Replay.{target_of, spans_in, applied, IsGrowthCovered}
use Rattle.jb_redo.specs.Rules.{sizes_of, new_sizes, IsLegalPiece, IsLegalRecord}
use Rattle.jb_redo.proofs.SizeLemmas.{not_given}
use Rattle.jb_redo.proofs.SpanLemmas.{spans_in-other, spans_same, spans_within}
use Rattle.jb_redo.proofs.WayLemmas.{resized_same, resized_with_zeros, between_patched, way_kept, way_ends}
use Rattle.jb_journal.specs.Filing.{HaveNewLengths, AgreeBelow, with_pieces, HasPlace, IsUnmentioned}
use Rattle.jb_journal.proofs.SettingLemmas.{none_sets}
use Rattle.jb_journal.proofs.PieceLemmas.{pieces-patched}

-- nothing is written into a file of which the pieces do not speak
none_written : (files : Files) (pieces : List Piece) (file : FileId) → All (λ piece. file_number (target_of piece) ≢ file_number file) pieces → spans_in files pieces file ≡ []
none_written files [] file none = refl
none_written files (piece ∷ pieces) file none =
    spans_in-other files piece pieces file (All-head (λ (p : Piece). file_number (target_of p) ≢ file_number file) piece pieces none)
    ∙ none_written files pieces file (All-tail (λ (p : Piece). file_number (target_of p) ≢ file_number file) piece pieces none)

-- a file of which the change does not speak is as at the start
pub unmentioned_same : (lengths : List Length) (pieces : List Piece) (file : FileId) (start now : Files) → IsUnmentioned lengths pieces file → IsOnTheWay lengths pieces start now → now file ≡ start file
unmentioned_same lengths pieces file start now none way =
    let size = none_sets lengths (sizes_of start) file none.none_set in
    let between : IsFileBetween (length (start file)) [] (start file) (now file) =
    subst (λ (n : ℕ). IsFileBetween n [] (start file) (now file)) size
    (subst (λ (l : List Span). IsFileBetween (new_sizes lengths (sizes_of start) file) l (start file) (now file)) (none_written start pieces file none.none_written) (way file)) in
    let a = between.no_shorter in
    let b = between.no_longer in
    resized_same (length (start file)) (start file) (now file) refl (record {
      size = omega arith;
      same = λ i within low. elim (between.same i within low) [ inl never ↦ absurd never | inr is ↦ is ];
    })

-- pieces of a legal change have their place once the lengths are set
pub pieces_place : (lengths : List Length) (pieces : List Piece) (now mid : Option Files) → Turns (HaveNewLengths lengths) now mid → ForSome now (λ files. IsLegalRecord Two (sizes_of files) lengths pieces) → ForSome mid (λ files. All (HasPlace files) pieces)
pieces_place lengths pieces None None turns legal = λ files there. absurd (cc)
pieces_place lengths pieces None (Some m) turns legal = absurd turns
pieces_place lengths pieces (Some a) None turns legal = absurd turns
pieces_place lengths pieces (Some a) (Some m) turns legal = λ files there k d low.
    let same : m ≡ files = cc in
    let is = legal a refl in
    let sizes : (file : FileId) → new_sizes lengths (sizes_of a) file ≡ length (m file) = λ file. sym (turns file).size in
    subst (λ (x : Files). HasPlace x (get_or pieces k d)) same (by_piece (get_or pieces k d) is sizes (is.pieces_are.each k d low))
  where
    by_piece : (piece : Piece) → IsLegalRecord Two (sizes_of a) lengths pieces → ((file : FileId) → new_sizes lengths (sizes_of a) file ≡ length (m file)) → IsLegalPiece Two (sizes_of a) (new_sizes lengths (sizes_of a)) piece → HasPlace m piece
    by_piece (Bytes file at bytes) is sizes legal =
        let within = legal.within in
        record { of_base = legal.of_base; place = legal.place; size = legal.size; within = omega (arith, sizes file) }
    by_piece (Copy from from_at to to_at len) is sizes legal =
        let within = legal.within in
        let inside = legal.inside in
        let kept : new_sizes lengths (sizes_of a) from ≡ length (a from) = not_given lengths (sizes_of a) from is.lengths_are.each (omega (arith, ap file_number legal.shadow)) in
        record {
          shadow = legal.shadow;
          texts = legal.texts;
          place = legal.place;
          source = legal.source;
          size = legal.size;
          inside = omega (arith, kept, sizes from);
          within = omega (arith, sizes to);
        }

-- files on their way, with the lengths set and then the pieces written
applied_from : (lengths : List Length) (pieces : List Piece) (start now mid : Files) → IsLegalRecord Two (sizes_of start) lengths pieces → IsGrowthCovered lengths pieces start → IsOnTheWay lengths pieces start now → HaveNewLengths lengths now mid
    → with_pieces pieces mid ≡ applied lengths pieces start
applied_from lengths pieces start now mid legal grown way resized = same_files _ _ (λ file.
    let ends = new_sizes lengths (sizes_of start) in
    let each = legal.pieces_are.each in
    let high : 4 ≤ file_number Ndt = omega arith in
    let shadow_now : now Ndt ≡ start Ndt = way_kept lengths pieces start legal now way Ndt high in
    let shadow_mid : mid Ndt ≡ now Ndt = resized_same _ (now Ndt) (mid Ndt) (not_given lengths (sizes_of now) Ndt legal.lengths_are.each high) (resized Ndt) in
    let spans : spans_in mid pieces file ≡ spans_in start pieces file = spans_same Two (sizes_of start) ends mid start pieces file each (shadow_mid ∙ shadow_now) in
    let here : IsResized (ends file) (now file) (mid file) = subst (λ (n : ℕ). IsResized n (now file) (mid file)) (way_ends lengths pieces start legal now way file) (resized file) in
    pieces-patched pieces (sizes_of start) ends mid file each
    ∙ ap (λ (l : List Span). patched l (mid file)) spans
    ∙ between_patched (ends file) (spans_in start pieces file) (start file) (now file) (mid file) (of_length (ends file) (start file))
    (spans_within Two start ends pieces file each) (way file) here (resized_with_zeros (ends file) (start file)) (grown file))

-- what is told at the end
pub told_applied : (lengths : List Length) (pieces : List Piece) (start : Files) (o mid after : Option Files) → Turns (HaveNewLengths lengths) o mid → after ≡ option_map (with_pieces pieces) mid
    → IsLegalRecord Two (sizes_of start) lengths pieces → IsGrowthCovered lengths pieces start → ForSome o (IsOnTheWay lengths pieces start) → after ≡ option_map (λ files. applied lengths pieces start) o
told_applied lengths pieces start None None after turns told legal grown way = told
told_applied lengths pieces start None (Some m) after turns told legal grown way = absurd turns
told_applied lengths pieces start (Some a) None after turns told legal grown way = absurd turns
told_applied lengths pieces start (Some a) (Some m) after turns told legal grown way = told ∙ ap Some (applied_from lengths pieces start a m legal grown (way a refl) turns)

-- files on their way that agree in the files of the base are the same
pub same_on_way : (lengths : List Length) (pieces : List Piece) (start final left : Files) → IsLegalRecord Two (sizes_of start) lengths pieces → IsOnTheWay lengths pieces start final → IsOnTheWay lengths pieces start left → AgreeBelow 4 final left → left ≡ final
same_on_way lengths pieces start final left legal way_final way_left agree = same_files left final (λ file. elim (cases_lt (file_number file) 4) [
  | inl low ↦ agree file low
  | inr high ↦ way_kept lengths pieces start legal left way_left file high ∙ sym (way_kept lengths pieces start legal final way_final file high)
])
