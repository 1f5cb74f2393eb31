-- Pieces that write files anew make of files that hold an area files that hold the packed one.
use Rattle.std.proofs.Common.{◌≡◌, ℕ, ◌+◌, ◌-◌, ◌*◌, ◌≤◌, ◌<◌, List, [], ◌∷◌, ◌++◌, length, take, drop, All, sym, ◌∙◌, ap, subst, arith, length-drop}
use Rattle.std.specs.Prelude.{AllPairs, ◌^◌, replicate, slice_index_or}
use Rattle.std.proofs.lemmas.List.{append-nil, drop_all, take_all}
use Rattle.std.proofs.lemmas.List.Elements.{All-nil, All-cons}
use Rattle.std.proofs.lemmas.List.Kept.{AllPairs-cons}
use Rattle.jb_limits.specs.declared.limits.TheConstants.{HEADERS_CEILING, TEXTS_CEILING, MOST_SLOTS}
use Rattle.jb_redo.specs.Changes.{changed}
use Rattle.jb_disk.specs.declared.version.Version.TheVariants.{Two}
use Rattle.jb_disk.specs.RedoView.{RedoView}
use Rattle.jb_disk.specs.Files.{Files, file_number}
use Rattle.jb_disk.specs.FileLaws.{length-of_length}
use Rattle.jb_disk.specs.Memory.{of_length}
use Rattle.jb_disk.specs.Steps.{IsCovered, patched}
use Rattle.jb_disk.specs.declared.file.FileId.{FileId}
use Rattle.jb_disk.specs.declared.file.FileId.TheVariants.{Jhr, Jdt, Jdx, Jlr, Jnl, Ndt}
use Rattle.jb_disk.specs.declared.piece.Length.{Length}
use Rattle.jb_disk.specs.declared.piece.Piece.{Piece}
use Rattle.jb_disk.specs.declared.piece.Piece.TheVariants.{Bytes, Copy}
use Rattle.jb_image.specs.Stands.{Loads}
use Rattle.jb_state.specs.LiveSlots.{linkables_from}
use Rattle.jb_state.specs.Sound.{IsSound}
use Rattle.jb_state.specs.declared.loaded.Loaded.{Loaded}
use Rattle.jb_redo.specs.Replay.{IsGrowthCovered, spans_in}
use Rattle.jb_redo.specs.Rules.{AreLegalLengths, IsBefore, IsLegalRecord, IsLegalLength, IsLegalPiece, new_sizes, sizes_of}
use Rattle.jb_pack.specs.Bytes.{IsReadAgain, headers_file, index_file}
use Rattle.jb_pack.specs.Laid.{IsLaidOut, IsLegalIn, laid}
use Rattle.jb_pack.specs.Laws.{ArePacked}
use Rattle.jb_state.specs.Packed.{headers_size, kept_slots, new_base, packed, texts_size}
use Rattle.jb_pack.specs.Plan.{StandPacked, lengths_with}
use Rattle.jb_pack.proofs.FitLemmas.{headers_fit_kept}
use Rattle.jb_pack.proofs.HeldLemmas.{length-index, length-packed, loads_packed}
use Rattle.jb_pack.proofs.StandLemmas.{packed_together}

-- over these files the pieces write each file from its beginning on with these bytes, and may stand in a record
pub record IsLaidIn (files : Files) (pieces : List Piece) (bytes : FileId → List ℕ) : Type 0 where
  pub fronts : (file : FileId) (old : List ℕ) → length (bytes file) ≤ length old → patched (spans_in files pieces file) old ≡ bytes file ++ drop (length (bytes file)) old
  pub covers : (file : FileId) (i : ℕ) → i < length (bytes file) → IsCovered (spans_in files pieces file) i
  pub each : (ends : FileId → ℕ) → ((file : FileId) → file_number file < 4 → length (bytes file) ≤ ends file) → All (IsLegalPiece Two (sizes_of files) ends) pieces
  pub few : length pieces < 2 ^ 32

-- a piece with its bytes is legal over any files
pub bytes_legal : (sizes ends now : FileId → ℕ) (piece : Piece) → ((file : FileId) → file_number file < 4 → ends file ≤ now file) → IsLegalIn ends piece → IsLegalPiece Two sizes now piece
bytes_legal sizes ends now (Bytes file at bytes) longer legal =
    let above = longer file legal.of_base in
    record { of_base = legal.of_base; place = legal.place; size = legal.size; within = omega (arith, legal.within) }
bytes_legal sizes ends now (Copy from from_at to to_at len) longer legal = absurd legal

-- pieces with their bytes write them over any files
pub laid_in_any : (files : Files) (pieces : List Piece) → IsLaidOut pieces → IsLaidIn files pieces (laid pieces)
laid_in_any files pieces out = record {
  fronts = λ file old long. out.fronts files file old long;
  covers = λ file i low. out.covers files file i low;
  each = λ ends longer k d low. bytes_legal (sizes_of files) (λ file. length (laid pieces file)) ends (slice_index_or pieces k d) longer (out.each k d low);
  few = out.few;
}

-- a file of the length that it has
same_length : (old : List ℕ) → of_length (length old) old ≡ old
unfolding of_length
same_length old =
    let none : length old - length old ≡ 0 = omega arith in
    ap (λ n. take (length old) old ++ replicate n 0) none ∙ append-nil (take (length old) old) ∙ take_all (length old) old (omega arith)

module _ (change : RedoView) (files : Files) (bytes : FileId → List ℕ) (laid_in : IsLaidIn files change.pieces bytes) (file : FileId) where
  -- a file that is written anew from its beginning to its end
  whole_file : new_sizes change.lengths (sizes_of files) file ≡ length (bytes file) → changed change files file ≡ bytes file
  whole_file size =
      let old : List ℕ = of_length (new_sizes change.lengths (sizes_of files) file) (files file) in
      let long : length old ≡ length (bytes file) = length-of_length (new_sizes change.lengths (sizes_of files) file) (files file) ∙ size in
      laid_in.fronts file old (omega arith)
      ∙ ap (λ (l : List ℕ). bytes file ++ l) (drop_all (length (bytes file)) old (omega arith))
      ∙ append-nil (bytes file)

  -- a file into which nothing is written
  kept_file : new_sizes change.lengths (sizes_of files) file ≡ length (files file) → bytes file ≡ [] → changed change files file ≡ files file
  kept_file size none =
      let old : List ℕ = of_length (new_sizes change.lengths (sizes_of files) file) (files file) in
      let short : length (bytes file) ≡ 0 = ap length none in
      laid_in.fronts file old (omega arith)
      ∙ ap (λ (l : List ℕ). l ++ drop (length l) old) none
      ∙ ap (λ n. of_length n (files file)) size ∙ same_length (files file)

-- a pack's lengths are legal
pub legal_lengths : (headers texts slots : ℕ) → 1024 + headers ≤ HEADERS_CEILING → texts ≤ TEXTS_CEILING → slots ≤ MOST_SLOTS → AreLegalLengths Two (lengths_with headers texts slots)
legal_lengths headers texts slots headers_fit texts_fit few =
    let one : Length = record { file = Jhr; len = 1024 + headers } in
    let two : Length = record { file = Jdt; len = texts } in
    let three : Length = record { file = Jdx; len = 8 * slots } in
    let none : List Length = [] in
    record {
      few = omega arith;
      each =
          All-cons (IsLegalLength Two) one (two ∷ three ∷ []) (record { of_base = omega arith; ceiling = omega arith })
          (All-cons (IsLegalLength Two) two (three ∷ []) (record { of_base = omega arith; ceiling = omega arith })
          (All-cons (IsLegalLength Two) three none (record { of_base = omega arith; ceiling = omega arith }) (All-nil (IsLegalLength Two))));
      rising =
          AllPairs-cons IsBefore one (two ∷ three ∷ [])
          (All-cons (IsBefore one) two (three ∷ []) (omega arith) (All-cons (IsBefore one) three none (omega arith) (All-nil (IsBefore one))))
          (AllPairs-cons IsBefore two (three ∷ []) (All-cons (IsBefore two) three none (omega arith) (All-nil (IsBefore two)))
          (AllPairs-cons IsBefore three none (All-nil (IsBefore three)) no_pairs));
    }
  where
    no_pairs : AllPairs IsBefore []
    no_pairs i j d order low = absurd (omega (arith, low))

module _ (limit : ℕ) (loaded : Loaded) (change : RedoView) (sound : IsSound limit loaded) (limited : limit ≤ MOST_SLOTS)
    (fits : texts_size (kept_slots loaded) ≤ TEXTS_CEILING)
    (lengths_are : change.lengths ≡ lengths_with (headers_size (kept_slots loaded)) (texts_size (kept_slots loaded)) (length (kept_slots loaded)))
    (back : IsReadAgain (packed loaded))
    (files : Files) (loads : Loads loaded files) (bytes : FileId → List ℕ) (laid_in : IsLaidIn files change.pieces bytes)
    (headers : bytes Jhr ≡ headers_file (packed loaded)) (headers_long : length (headers_file (packed loaded)) ≡ 1024 + headers_size (kept_slots loaded))
    (index : bytes Jdx ≡ index_file (packed loaded)) (size : length (bytes Jdt) ≡ texts_size (kept_slots loaded)) (marks : bytes Jlr ≡ []) where
  -- the slots that are kept are few
  few_kept : length (kept_slots loaded) ≤ MOST_SLOTS
  few_kept = omega (arith, sound.few_slots, length-drop (new_base loaded - loaded.base) loaded.slots)

  -- as many as are packed
  packed_many : length (packed loaded).slots ≡ length (kept_slots loaded)
  packed_many = length-packed (linkables_from loaded.base loaded.slots) (new_base loaded) 1024 0 (kept_slots loaded)

  -- how long the headers are
  headers_size_is : length (bytes Jhr) ≡ 1024 + headers_size (kept_slots loaded)
  headers_size_is = ap length headers ∙ headers_long

  -- how long the index is
  index_size : length (bytes Jdx) ≡ 8 * length (kept_slots loaded)
  index_size = ap length index ∙ length-index (packed loaded).slots ∙ ap (λ n. 8 * n) packed_many

  -- the lengths of the files that the change makes
  size_of : (file : FileId) → new_sizes change.lengths (sizes_of files) file
      ≡ new_sizes (lengths_with (headers_size (kept_slots loaded)) (texts_size (kept_slots loaded)) (length (kept_slots loaded))) (sizes_of files) file
  size_of file = ap (λ (l : List Length). new_sizes l (sizes_of files) file) lengths_are

  -- no file of the base gets fewer bytes than are written into it
  long_enough : (file : FileId) → file_number file < 4 → length (bytes file) ≤ new_sizes change.lengths (sizes_of files) file
  long_enough Jhr low = omega (arith, size_of Jhr, headers_size_is)
  long_enough Jdt low = omega (arith, size_of Jdt, size)
  long_enough Jdx low = omega (arith, size_of Jdx, index_size)
  long_enough Jlr low = omega (arith, ap length marks)
  long_enough Jnl low = absurd (omega (arith, low))
  long_enough Ndt low = absurd (omega (arith, low))

  -- the change makes a record
  pub legal_there : IsLegalRecord Two (sizes_of files) change.lengths change.pieces
  legal_there = record {
    lengths_are = subst (AreLegalLengths Two) (sym lengths_are)
        (legal_lengths (headers_size (kept_slots loaded)) (texts_size (kept_slots loaded)) (length (kept_slots loaded)) (headers_fit_kept limit loaded sound) fits few_kept);
    pieces_are = record { many = laid_in.few; each = laid_in.each (new_sizes change.lengths (sizes_of files)) long_enough };
  }

  -- each byte past an old end is written
  pub grown_there : IsGrowthCovered change.lengths change.pieces files
  grown_there Jhr i past low = laid_in.covers Jhr i (omega (arith, low, size_of Jhr, headers_size_is))
  grown_there Jdt i past low = laid_in.covers Jdt i (omega (arith, low, size_of Jdt, size))
  grown_there Jdx i past low = laid_in.covers Jdx i (omega (arith, low, size_of Jdx, index_size))
  grown_there Jlr i past low = absurd (omega (arith, low, past, size_of Jlr))
  grown_there Jnl i past low = absurd (omega (arith, low, past, size_of Jnl))
  grown_there Ndt i past low = absurd (omega (arith, low, past, size_of Ndt))

  -- the texts
  texts_there : changed change files Jdt ≡ bytes Jdt
  texts_there = whole_file change files bytes laid_in Jdt (omega (arith, size_of Jdt, size))

  -- the headers
  headers_there : changed change files Jhr ≡ headers_file (packed loaded)
  headers_there = whole_file change files bytes laid_in Jhr (omega (arith, size_of Jhr, headers_size_is)) ∙ headers

  -- the index
  index_there : changed change files Jdx ≡ index_file (packed loaded)
  index_there = whole_file change files bytes laid_in Jdx (omega (arith, size_of Jdx, index_size)) ∙ index

  -- the files of the area
  packed_there : ArePacked loaded files (changed change files)
  packed_there = record {
    headers = headers_there;
    texts = ap length texts_there ∙ size;
    index = index_there;
    lastread = kept_file change files bytes laid_in Jlr (size_of Jlr) marks;
  }

  -- they hold the packed area with these texts
  pub stand_there : StandPacked loaded (bytes Jdt) (changed change files)
  stand_there = record {
    loads = loads_packed limit loaded files (changed change files) sound fits back loads packed_there;
    headers = headers_there;
    index = index_there;
    texts_are = texts_there;
    together = packed_together limit loaded files (changed change files) sound fits back loads packed_there;
  }
