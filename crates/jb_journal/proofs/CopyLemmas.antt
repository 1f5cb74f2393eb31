-- Bytes copied part by part from one file into another.
use Rattle.std.proofs.Common.{◌≡◌, ◌≢◌, ℕ, ◌+◌, ◌-◌, ◌≤◌, List, [], ◌++◌, length, take, drop, refl, ap, sym, ◌∙◌, subst, arith, Some, Result, OnOk, length-take, length-drop}
use Rattle.std.specs.Option.{ForSome, option_map}
use Rattle.std.proofs.lemmas.List.{same_lists, places}
use Rattle.jb_disk.specs.declared.file.FileId.{FileId}
use Rattle.jb_disk.specs.declared.piece.Length.{Length}
use Rattle.jb_disk.specs.declared.piece.Piece.{Piece}
use Rattle.jb_disk.specs.Files.{Files, written}
use Rattle.jb_disk.specs.FileLaws.{with_file-other}
use Rattle.jb_disk.specs.Device.{Device, OnlyReads, Tears, FailsBy, TellsAlike, IsPast, TellsAnImage}
use Rattle.jb_disk.specs.Runs.{Keeps}
use Rattle.jb_disk.proofs.RunLemmas.{keeps-refl, keeps-then, keeps-reads, keeps-write}
use Rattle.jb_redo.specs.OnTheWay.{IsOnTheWay}
use Rattle.jb_redo.proofs.WayLemmas.{way_torn}
use Rattle.jb_journal.specs.Coming.{ComeBy}
use Rattle.jb_journal.specs.Filing.{IsWrittenBy}
use Rattle.jb_journal.specs.Writing.{Reaches, copied_over}
use Rattle.jb_journal.proofs.ComingLemmas.{come_none, come_on}
use Rattle.jb_journal.proofs.Told.{option_map-same, option_map-twice, option_map-id, written-twice, written-nil, Reaches-written, told_back}

-- a write where pieces are written
pub way_write : {T E : Type 0} (lengths : List Length) (pieces : List Piece) (start : Files) (file : FileId) (at : ℕ) (bytes : List ℕ) (old new : Device) (result : Result T E) → TellsAnImage new → Tears file at (length bytes) old new result
    → OnOk result (new.contents ≡ option_map (written file at bytes) old.contents) → FailsBy (IsPast old.contents file (at + length bytes)) old new result
    → IsWrittenBy start pieces file at (length bytes) → Keeps (IsOnTheWay lengths pieces start) old new
way_write lengths pieces start file at bytes old new result tells tears done cause covers =
    keeps-write (IsOnTheWay lengths pieces start) file at bytes old new result tells tears done cause (λ before after way step. way_torn lengths pieces start file at (length bytes) before after way step covers)

-- a read, and then such a write
pub part_keeps : {T E : Type 0} (lengths : List Length) (pieces : List Piece) (start : Files) (file : FileId) (at len : ℕ) (bytes : List ℕ) (old mid new : Device) (result : Result T E) → OnlyReads old mid → TellsAnImage new → Tears file at (length bytes) mid new result
    → OnOk result (new.contents ≡ option_map (written file at bytes) mid.contents) → FailsBy (IsPast mid.contents file (at + length bytes)) mid new result
    → length bytes ≡ len → IsWrittenBy start pieces file at len → Keeps (IsOnTheWay lengths pieces start) old new
part_keeps lengths pieces start file at len bytes old mid new result reads tells tears done cause size covers =
    keeps-then (IsOnTheWay lengths pieces start) old mid new (keeps-reads (IsOnTheWay lengths pieces start) old mid reads)
    (way_write lengths pieces start file at bytes mid new result tells tears done cause (subst (λ (n : ℕ). IsWrittenBy start pieces file at n) (sym size) covers))

-- two parts of a file are one
take-parts : (xs : List ℕ) (n m : ℕ) → take n xs ++ take m (drop n xs) ≡ take (n + m) xs
take-parts xs n m = same_lists _ _ (grind (arith, places)) (λ k d h. grind (arith, places))

-- the rest of what is to be copied
abbrev pub rest_of : FileId → ℕ → FileId → ℕ → ℕ → ℕ → Files → Files
rest_of from from_at to to_at len moved files = copied_over from (from_at + moved) to (to_at + moved) (len - moved) files

-- a part copied, and then the rest
copied-more : (from to : FileId) (from_at to_at len moved count : ℕ) (files : Files) → from ≢ to → moved + count ≤ len → from_at + len ≤ length (files from) → to_at + len ≤ length (files to)
    → rest_of from from_at to to_at len (moved + count) (copied_over from (from_at + moved) to (to_at + moved) count files) ≡ rest_of from from_at to to_at len moved files
copied-more from to from_at to_at len moved count files apart within source target =
    let source_is = files from in
    let front = take count (drop (from_at + moved) source_is) in
    let back = take (len - (moved + count)) (drop (from_at + (moved + count)) source_is) in
    let mid = written to (to_at + moved) front files in
    let same : mid from ≡ source_is = with_file-other to from _ files apart in
    let front_size : length front ≡ count = length-take count (drop (from_at + moved) source_is) ∙ omega (arith, length-drop (from_at + moved) source_is) in
    let back_size : length back ≡ len - (moved + count) = length-take (len - (moved + count)) (drop (from_at + (moved + count)) source_is) ∙ omega (arith, length-drop (from_at + (moved + count)) source_is) in
    let both : front ++ back ≡ take (len - moved) (drop (from_at + moved) source_is) = parts source_is in
    (λ i. written to (to_at + (moved + count)) (take (len - (moved + count)) (drop (from_at + (moved + count)) (same i))) mid)
    ∙ ap (λ (n : ℕ). written to n back mid) (omega (arith, front_size))
    ∙ written-twice to (to_at + moved) front back files (omega (arith, front_size, back_size))
    ∙ ap (λ (l : List ℕ). written to (to_at + moved) l files) both
  where
    parts : (xs : List ℕ) → take count (drop (from_at + moved) xs) ++ take (len - (moved + count)) (drop (from_at + (moved + count)) xs) ≡ take (len - moved) (drop (from_at + moved) xs)
    parts xs = same_lists _ _ (grind (arith, places)) (λ k d h. grind (arith, places))

-- the rest is still to be copied
pub record Moving (initial now : Device) (from : FileId) (from_at : ℕ) (to : FileId) (to_at len moved : ℕ) : Type 0 where
  pub within : moved ≤ len
  pub told : option_map (rest_of from from_at to to_at len moved) now.contents ≡ option_map (copied_over from from_at to to_at len) initial.contents
  pub apart : ForSome now.contents (λ files. from ≢ to)
  pub source : Reaches now.contents from (from_at + len)
  pub target : Reaches now.contents to (to_at + len)
  pub come : ComeBy [] [] initial.moments now.moments
  pub counted : now.faults ≡ initial.faults
  pub alike : TellsAlike initial now
  pub keeps : (lengths : List Length) (pieces : List Piece) (start : Files) → IsWrittenBy start pieces to to_at len → Keeps (IsOnTheWay lengths pieces start) initial now

-- nothing is copied yet
pub moving_start : (device : Device) (from : FileId) (from_at : ℕ) (to : FileId) (to_at len : ℕ) → ForSome device.contents (λ files. from ≢ to) → Reaches device.contents from (from_at + len) → Reaches device.contents to (to_at + len)
    → Moving device device from from_at to to_at len 0
moving_start device from from_at to to_at len apart source target = record {
  within = omega arith;
  told = option_map-same _ _ device.contents (λ files is. none files);
  apart = apart;
  source = source;
  target = target;
  come = come_none device.moments;
  counted = refl;
  alike = refl;
  keeps = λ lengths pieces start covers. keeps-refl (IsOnTheWay lengths pieces start) device;
}
  where
    none : (files : Files) → rest_of from from_at to to_at len 0 files ≡ copied_over from from_at to to_at len files
    none files =
        let a : from_at + 0 ≡ from_at = omega arith in
        let b : to_at + 0 ≡ to_at = omega arith in
        let c : len - 0 ≡ len = omega arith in
        λ i. copied_over from (a i) to (b i) (c i) files

-- one part more
pub moving_on : (initial now next : Device) (from : FileId) (from_at : ℕ) (to : FileId) (to_at len moved count : ℕ) → Moving initial now from from_at to to_at len moved → moved + count ≤ len
    → next.contents ≡ option_map (copied_over from (from_at + moved) to (to_at + moved) count) now.contents → ComeBy [] [] now.moments next.moments → next.faults ≡ now.faults → TellsAlike now next
    → ((lengths : List Length) (pieces : List Piece) (start : Files) → IsWrittenBy start pieces to (to_at + moved) count → Keeps (IsOnTheWay lengths pieces start) now next)
    → Moving initial next from from_at to to_at len (moved + count)
moving_on initial now next from from_at to to_at len moved count moving within told come kept alike keeps =
    let step : Files → Files = copied_over from (from_at + moved) to (to_at + moved) count in
    let sizes : (files : Files) (end : ℕ) (file : FileId) → now.contents ≡ Some files → end ≤ length (files file) → end ≤ length (step files file) = λ files end file is low.
    (Reaches-written (Some files) (Some (step files)) to file (to_at + moved) end (take count (drop (from_at + moved) (files from))) refl (here files is) (some_low files end file low)) (step files) refl in
    record {
      within = within;
      told =
          ap (option_map (rest_of from from_at to to_at len (moved + count))) told
          ∙ option_map-twice step _ now.contents
          ∙ option_map-same _ _ now.contents (λ files is. copied-more from to from_at to_at len moved count files (moving.apart files is) within (moving.source files is) (moving.target files is))
          ∙ moving.told;
      apart = λ files is. let back = told_back now.contents next.contents step files told is in moving.apart back.0 back.1;
      source = λ files is. let back = told_back now.contents next.contents step files told is in subst (λ (x : Files). from_at + len ≤ length (x from)) (sym back.2) (sizes back.0 (from_at + len) from back.1 (moving.source back.0 back.1));
      target = λ files is. let back = told_back now.contents next.contents step files told is in subst (λ (x : Files). to_at + len ≤ length (x to)) (sym back.2) (sizes back.0 (to_at + len) to back.1 (moving.target back.0 back.1));
      come = come_on [] [] initial.moments now.moments next.moments moving.come come;
      counted = kept ∙ moving.counted;
      alike = alike ∙ moving.alike;
      keeps = λ lengths pieces start covers. keeps-then (IsOnTheWay lengths pieces start) initial now next (moving.keeps lengths pieces start covers)
          (keeps lengths pieces start (λ i over under. covers i (omega (arith, over)) (omega (arith, under))));
    }
  where
    short : (xs : List ℕ) → length (take count xs) ≤ count
    short xs = omega (arith, length-take count xs)

    here : (files : Files) → now.contents ≡ Some files → Reaches (Some files) to (to_at + moved + length (take count (drop (from_at + moved) (files from))))
    here files is = λ other there.
        let same : files ≡ other = cc in
        let size : length (take count (drop (from_at + moved) (files from))) ≤ count = short (drop (from_at + moved) (files from)) in
        subst (λ (x : Files). to_at + moved + length (take count (drop (from_at + moved) (files from))) ≤ length (x to)) same (omega (arith, size, moving.target files is, within))

    some_low : (files : Files) (end : ℕ) (file : FileId) → end ≤ length (files file) → Reaches (Some files) file end
    some_low files end file low = λ other there.
        let same : files ≡ other = cc in
        subst (λ (x : Files). end ≤ length (x file)) same low

-- the same, by the length of the part
pub moving_by : (initial now next : Device) (from : FileId) (from_at : ℕ) (to : FileId) (to_at len moved count part : ℕ) → Moving initial now from from_at to to_at len moved → moved + count ≤ len → part ≡ count
    → next.contents ≡ option_map (copied_over from (from_at + moved) to (to_at + moved) part) now.contents → ComeBy [] [] now.moments next.moments → next.faults ≡ now.faults → TellsAlike now next
    → ((lengths : List Length) (pieces : List Piece) (start : Files) → IsWrittenBy start pieces to (to_at + moved) part → Keeps (IsOnTheWay lengths pieces start) now next)
    → Moving initial next from from_at to to_at len (moved + count)
moving_by initial now next from from_at to to_at len moved count part moving within size told come kept alike keeps =
    moving_on initial now next from from_at to to_at len moved count moving within (told ∙ ap (λ (n : ℕ). option_map (copied_over from (from_at + moved) to (to_at + moved) n) now.contents) size) come kept alike
    (λ lengths pieces start covers. keeps lengths pieces start (subst (λ (n : ℕ). IsWrittenBy start pieces to (to_at + moved) n) (sym size) covers))

-- a part that was refused
pub moving_failed : (initial now next : Device) (from : FileId) (from_at : ℕ) (to : FileId) (to_at len moved count part : ℕ) → Moving initial now from from_at to to_at len moved → moved + count ≤ len → part ≡ count
    → ((lengths : List Length) (pieces : List Piece) (start : Files) → IsWrittenBy start pieces to (to_at + moved) part → Keeps (IsOnTheWay lengths pieces start) now next)
    → (lengths : List Length) (pieces : List Piece) (start : Files) → IsWrittenBy start pieces to to_at len → Keeps (IsOnTheWay lengths pieces start) initial next
moving_failed initial now next from from_at to to_at len moved count part moving within size keeps lengths pieces start covers =
    keeps-then (IsOnTheWay lengths pieces start) initial now next (moving.keeps lengths pieces start covers)
    (keeps lengths pieces start (λ i over under. covers i (omega (arith, over)) (omega (arith, under, size))))

-- all is copied
pub moving_end : (initial now : Device) (from : FileId) (from_at : ℕ) (to : FileId) (to_at len moved : ℕ) → Moving initial now from from_at to to_at len moved → len ≤ moved
    → now.contents ≡ option_map (copied_over from from_at to to_at len) initial.contents
moving_end initial now from from_at to to_at len moved moving all =
    let none : len - moved ≡ 0 = omega arith in
    sym (option_map-id (rest_of from from_at to to_at len moved) now.contents (λ files is. (λ i. copied_over from (from_at + moved) to (to_at + moved) (none i) files) ∙ written-nil to (to_at + moved) files)) ∙ moving.told
