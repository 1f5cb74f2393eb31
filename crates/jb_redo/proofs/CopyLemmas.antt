-- The bytes of a part, copied in chunks.
use Rattle.std.proofs.Common.{◌≡◌, ◌≢◌, inl, inr, ℕ, ◌+◌, ◌-◌, ◌<◌, ◌≤◌, List, [], length, take, drop, refl, ap, sym, ◌∙◌, subst, arith}
use Rattle.std.specs.Prelude.{slice_index, Result, Ok, Err, OnOk, Option, Some, None}
use Rattle.std.specs.Option.{ForSome, option_map}
use Rattle.std.proofs.lemmas.Bool.{cases_lt}
use Rattle.std.proofs.lemmas.List.{same_lists, places, length-take-le, length-drop, get_or_default}
use Rattle.jb_disk.specs.declared.file.FileId.{FileId}
use Rattle.jb_disk.specs.declared.piece.Length.{Length}
use Rattle.jb_disk.specs.declared.piece.Piece.{Piece}
use Rattle.jb_disk.specs.Device.{Device, OnlyReads, Tears, Resizes, TellsAnImage, FailsBy, IsPast}
use Rattle.jb_disk.specs.Files.{Files, file_number, overwritten, written, InFile}
use Rattle.jb_disk.specs.FileLaws.{same_file, same_files, with_file-here, with_file-other, length-overwritten}
use Rattle.jb_disk.specs.ImageLaws.{get-before, get-behind}
use Rattle.jb_disk.specs.Runs.{Keeps}
use Rattle.jb_disk.specs.Steps.{Cut}
use Rattle.jb_disk.proofs.RunLemmas.{keeps-then, keeps-reads, keeps-write, keeps-resize}
use Rattle.jb_redo.specs.declared.part.Part.{Part}
use Rattle.jb_redo.specs.Applying.{IsSoundPart, LiesWithin, copied, copied_chunk, KeepsInRange}
use Rattle.jb_redo.specs.OnTheWay.{IsOnTheWay}
use Rattle.jb_redo.specs.Rules.{sizes_of, new_sizes}
use Rattle.jb_redo.proofs.WalkLemmas.{drop_twice}
use Rattle.jb_redo.proofs.WayLemmas.{way_torn, way_cut}

-- a place within a write
get-within : (at : ℕ) (bytes old : List ℕ) (i : ℕ) → at + length bytes ≤ length old → at ≤ i → i < at + length bytes → slice_index (overwritten at bytes old) i ≡ slice_index bytes (i - at)
unfolding overwritten
get-within at bytes old i within from to = grind (arith, places)

-- nothing is written
overwritten_nothing : (at : ℕ) (old : List ℕ) → overwritten at [] old ≡ old
unfolding overwritten
overwritten_nothing at old = same_lists _ _ (grind (arith, places)) (λ k d low. grind (arith, places))

-- one write behind another
overwritten_twice : (at done n : ℕ) (bytes old : List ℕ) → done + n ≤ length bytes → at + done + n ≤ length old
    → overwritten (at + done) (take n (drop done bytes)) (overwritten at (take done bytes) old) ≡ overwritten at (take (done + n) bytes) old
overwritten_twice at done n bytes old inside within =
    let a = take done bytes in
    let b = take n (drop done bytes) in
    let whole = take (done + n) bytes in
    let size_a : length a ≡ done = length-take-le done bytes (omega arith) in
    let size_b : length b ≡ n = length-take-le n (drop done bytes) (omega (arith, length-drop done bytes)) in
    let size_whole : length whole ≡ done + n = length-take-le (done + n) bytes (omega arith) in
    let fits_a : at + length a ≤ length old = omega arith in
    let first = overwritten at a old in
    let size_first : length first ≡ length old = length-overwritten at a old fits_a in
    let fits_b : at + done + length b ≤ length first = omega arith in
    let fits_whole : at + length whole ≤ length old = omega arith in
    let size_second : length (overwritten (at + done) b first) ≡ length first = length-overwritten (at + done) b first fits_b in
    let size_other : length (overwritten at whole old) ≡ length old = length-overwritten at whole old fits_whole in
    same_lists (overwritten (at + done) b first) (overwritten at whole old) (omega arith) (λ k d low.
    get_or_default (overwritten (at + done) b first) k d 0 low
    ∙ elim (cases_lt k at) [
      | inl under ↦ get-before (at + done) b first fits_b k (omega arith) ∙ get-before at a old fits_a k under ∙ sym (get-before at whole old fits_whole k under)
      | inr over ↦ elim (cases_lt k (at + done)) [
        | inl early ↦ get-before (at + done) b first fits_b k early ∙ get-within at a old k fits_a over (omega arith)
            ∙ same_item a whole (k - at) (omega arith) (omega arith) bytes (first_part done (k - at) bytes (omega arith)) (first_part (done + n) (k - at) bytes (omega arith))
            ∙ sym (get-within at whole old k fits_whole over (omega arith))
        | inr late ↦ elim (cases_lt k (at + done + n)) [
          | inl middle ↦ get-within (at + done) b first k fits_b late (omega arith)
              ∙ later_part done n (k - (at + done)) (k - at) bytes (omega arith) (omega arith)
              ∙ sym (first_part (done + n) (k - at) bytes (omega arith))
              ∙ sym (get-within at whole old k fits_whole over (omega arith))
          | inr past ↦ get-behind (at + done) b first fits_b k (omega arith) ∙ get-behind at a old fits_a k (omega arith) ∙ sym (get-behind at whole old fits_whole k (omega arith))
        ]
      ]
    ]
    ∙ get_or_default (overwritten at whole old) k 0 d (omega arith))
  where
    first_part : (m i : ℕ) (bytes : List ℕ) → i < m → slice_index (take m bytes) i ≡ slice_index bytes i
    first_part m i bytes low = grind (arith, places)

    later_part : (done m i j : ℕ) (bytes : List ℕ) → i < m → j ≡ done + i → slice_index (take m (drop done bytes)) i ≡ slice_index bytes j
    later_part done m i j bytes low same = grind (arith, places)

    same_item : (a whole : List ℕ) (i : ℕ) → i < length a → i < length whole → (bytes : List ℕ) → slice_index a i ≡ slice_index bytes i → slice_index whole i ≡ slice_index bytes i → slice_index a i ≡ slice_index whole i
    same_item a whole i low low' bytes one other = one ∙ sym other

-- nothing is copied yet
pub copied_none : (part : Part) (files : Files) → copied part 0 files ≡ files
copied_none part files = same_files (copied part 0 files) files (λ file. elim (same_file file part.to) [
  | inl same ↦ subst (λ (f : FileId). copied part 0 files f ≡ files f) (sym same) (with_file-here part.to _ files ∙ overwritten_nothing part.to_at (files part.to))
  | inr other ↦ with_file-other part.to file _ files other
])

module _ (part : Part) (files : Files) (sound : IsSoundPart part) (room : LiesWithin part files) where
  -- the two files are not one
  apart : part.from ≢ part.to
  apart same =
      let source = sound.source in
      let target = sound.target in
      omega (arith, ap file_number same)

  -- the file that is copied from is as it was
  pub copied_source : (count : ℕ) → copied part count files part.from ≡ files part.from
  copied_source count = with_file-other part.to part.from _ files apart

  -- the bytes that are copied at once
  size_of : (count : ℕ) → count ≤ part.len → length (take count (drop part.from_at (files part.from))) ≡ count
  size_of count few =
      let inside = room.inside in
      length-take-le count (drop part.from_at (files part.from)) (omega (arith, length-drop part.from_at (files part.from)))

  -- a chunk more is copied
  pub copied_more : (done n : ℕ) → done + n ≤ part.len
      → written part.to (part.to_at + done) (take n (drop (part.from_at + done) (copied part done files part.from))) (copied part done files) ≡ copied part (done + n) files
  copied_more done n few =
      let inside = room.inside in
      let within = room.within in
      let now = copied part done files in
      let source = files part.from in
      let chunk : take n (drop (part.from_at + done) (now part.from)) ≡ take n (drop done (drop part.from_at source)) =
      ap (λ (l : List ℕ). take n (drop (part.from_at + done) l)) (copied_source done) ∙ ap (take n) (sym (drop_twice part.from_at done source)) in
      same_files _ _ (λ file. elim (same_file file part.to) [
        | inl same ↦ subst (λ (f : FileId). written part.to (part.to_at + done) (take n (drop (part.from_at + done) (now part.from))) now f ≡ copied part (done + n) files f) (sym same)
            (with_file-here part.to _ now
            ∙ ap (λ (l : List ℕ). overwritten (part.to_at + done) l (now part.to)) chunk
            ∙ ap (overwritten (part.to_at + done) (take n (drop done (drop part.from_at source)))) (with_file-here part.to _ files)
            ∙ overwritten_twice part.to_at done n (drop part.from_at source) (files part.to) (omega (arith, length-drop part.from_at source)) (omega arith)
            ∙ sym (with_file-here part.to _ files))
        | inr other ↦ with_file-other part.to file _ now other ∙ with_file-other part.to file _ files other ∙ sym (with_file-other part.to file _ files other)
      ])

  -- there is room for the rest
  pub room_after : (count : ℕ) → count ≤ part.len → LiesWithin part (copied part count files)
  room_after count few =
      let inside = room.inside in
      let within = room.within in
      record {
        inside = omega (arith, ap length (copied_source count));
        within = omega (
          arith,
          ap length (with_file-here part.to (overwritten part.to_at (take count (drop part.from_at (files part.from))) (files part.to)) files),
          length-overwritten part.to_at (take count (drop part.from_at (files part.from))) (files part.to) (omega (arith, size_of count few)),
        );
      }

-- a write of what was read, where the disk tells it
pub chunk_told : {T E : Type 0} (result : Result T E) (old new : Option Files) (part : Part) (done n : ℕ) (bytes : List ℕ) → OnOk result (new ≡ option_map (written part.to (part.to_at + done) bytes) old)
    → ForSome old (λ files. bytes ≡ take n (drop (part.from_at + done) (files part.from))) → OnOk result (new ≡ option_map (copied_chunk part done n) old)
chunk_told (Ok value) None new part done n bytes wrote read = wrote
chunk_told (Ok value) (Some files) new part done n bytes wrote read = wrote ∙ ap (λ (l : List ℕ). Some (written part.to (part.to_at + done) l files)) (read files refl)
chunk_told (Err error) old new part done n bytes wrote read = tt

-- the files that were told
pub told_from : (old now : Option Files) (change : Files → Files) (files : Files) → now ≡ option_map change old → now ≡ Some files → (before : Files) × (old ≡ Some before) × (files ≡ change before)
told_from None now change files is some = absurd (cc)
told_from (Some before) now change files is some = (before, refl, cc)

-- nothing is copied yet, where the disk tells it
pub told_none : (part : Part) (contents : Option Files) → contents ≡ option_map (copied part 0) contents
told_none part None = refl
told_none part (Some files) = ap Some (sym (copied_none part files))

-- one chunk more, where the disk tells it
pub told_more : (part : Part) (done n : ℕ) (old now new : Option Files) → IsSoundPart part → ForSome old (LiesWithin part) → done + n ≤ part.len → now ≡ option_map (copied part done) old
    → new ≡ option_map (copied_chunk part done n) now → new ≡ option_map (copied part (done + n)) old
told_more part done n None now new sound room few was is = is ∙ ap (option_map (copied_chunk part done n)) was
told_more part done n (Some files) now new sound room few was is =
    is ∙ ap (option_map (copied_chunk part done n)) was ∙ ap Some (copied_more part files sound (room files refl) done n few)

-- there is room for the rest, where the disk tells it
pub told_room : (part : Part) (done : ℕ) (old now : Option Files) → IsSoundPart part → ForSome old (LiesWithin part) → done ≤ part.len → now ≡ option_map (copied part done) old → ForSome now (LiesWithin part)
told_room part done old now sound room few is = λ files there.
    let from = told_from old now (copied part done) files is there in
    subst (LiesWithin part) (sym from.2) (room_after part from.0 sound (room from.0 from.1) done few)

-- a read and a write keep all that is on its way, where pieces are written into the range
pub chunk_keeps : {T E : Type 0} (file : FileId) (at len : ℕ) (bytes : List ℕ) (old mid new : Device) (result : Result T E) → length bytes ≡ len → TellsAnImage new → OnlyReads old mid
    → Tears file at (length bytes) mid new result → OnOk result (new.contents ≡ option_map (written file at bytes) mid.contents) → FailsBy (IsPast mid.contents file (at + length bytes)) mid new result
    → KeepsInRange file at len old new
chunk_keeps file at len bytes old mid new result size tells reads tears done cause lengths pieces start covers =
    keeps-then (IsOnTheWay lengths pieces start) old mid new (keeps-reads (IsOnTheWay lengths pieces start) old mid reads)
    (keeps-write (IsOnTheWay lengths pieces start) file at bytes mid new result tells tears done cause
    (λ before after way step. way_torn lengths pieces start file at (length bytes) before after way step (λ i from to. covers i from (omega arith))))

-- two ranges of one
pub range_keeps : (file : FileId) (at len more n : ℕ) (old mid new : Device) → at ≤ more → more + n ≤ at + len → KeepsInRange file at len old mid → KeepsInRange file more n mid new → KeepsInRange file at len old new
range_keeps file at len more n old mid new low high first second lengths pieces start covers =
    keeps-then (IsOnTheWay lengths pieces start) old mid new (first lengths pieces start covers) (second lengths pieces start (λ i from to. covers i (omega arith) (omega arith)))

-- a change of a length to the new one keeps all that is on its way
pub resize_keeps : {T E : Type 0} (file : FileId) (len : ℕ) (old new : Device) (result : Result T E) → TellsAnImage old → TellsAnImage new → Resizes file len old new result
    → (lengths : List Length) (pieces : List Piece) (start : Files) → new_sizes lengths (sizes_of start) file ≡ len → Keeps (IsOnTheWay lengths pieces start) old new
resize_keeps file len old new result tells_old tells_new resizes lengths pieces start is =
    keeps-resize (IsOnTheWay lengths pieces start) file len old new result tells_old tells_new resizes
    (λ before after way step. way_cut lengths pieces start file before after way (subst (λ (n : ℕ). InFile file (Cut n) before after) (sym is) step))
