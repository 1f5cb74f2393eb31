-- A record's lengths set, and its pieces written: what it makes of the files.
use Rattle.std.proofs.Common.{◌≡◌, inl, inr, ℕ, List, ◌++◌, length, drop, refl, ap, sym, ◌∙◌, subst, arith}
use Rattle.std.specs.Prelude.{slice_index, Option, Some, None, IsSome, Result, Ok, Err, OnOk}
use Rattle.std.specs.Option.{ForSome}
use Rattle.jb_disk.specs.declared.file.FileId.{FileId}
use Rattle.jb_disk.specs.declared.file.FileId.TheVariants.{Jnl}
use Rattle.jb_disk.specs.declared.piece.Length.{Length}
use Rattle.jb_disk.specs.declared.piece.Piece.{Piece}
use Rattle.jb_disk.specs.Device.{Device, OnlyReads, Turns}
use Rattle.jb_disk.specs.Files.{Files, IsResized}
use Rattle.jb_disk.specs.FileLaws.{same_files}
use Rattle.jb_disk.specs.Gate.{version_by}
use Rattle.jb_disk.specs.Memory.{of_length}
use Rattle.jb_disk.specs.Runs.{Keeps}
use Rattle.jb_disk.specs.Steps.{Span, patched}
use Rattle.jb_disk.proofs.RunLemmas.{keeps-then, keeps-reads}
use Rattle.jb_redo.specs.declared.error.RecordError.{RecordError}
use Rattle.jb_redo.specs.declared.error.RecordError.TheVariants.{Bad, StoreFault}
use Rattle.jb_redo.specs.declared.sizes.Sizes.{Sizes}
use Rattle.jb_redo.specs.Answers.{RefusesFor}
use Rattle.jb_redo.specs.Applying.{AreResized, pieced, HasPieced, ArePieced, KeepsWay, IsFault}
use Rattle.jb_redo.specs.OnTheWay.{IsOnTheWay}
use Rattle.jb_redo.specs.Reading.{BeginsWith, Lengths, beginning_bytes, IsRecordOf, HasRecord}
use Rattle.jb_redo.specs.Record.{record_end}
use Rattle.jb_redo.specs.Replay.{spans_in, applied, IsGrowthCovered}
use Rattle.jb_redo.specs.Rules.{sizes_of, new_sizes}
use Rattle.jb_redo.specs.Walk.{size_in, journal_from, AreSizes, HasLengths}
use Rattle.jb_redo.proofs.ApplyLemmas.{turns_on, applied_kept, applied_size}
use Rattle.jb_redo.proofs.OneReading.{one_record, record_or_bad_place}
use Rattle.jb_redo.proofs.SpanLemmas.{spans_within}
use Rattle.jb_redo.proofs.WalkLemmas.{whole_record, bad_end, record_lengths}
use Rattle.jb_redo.proofs.WayLemmas.{resized_with_zeros, between_start, between_patched, way_start, way_record, way_spans, way_ends, way_kept}

-- a refusal of files that hold a record is a fault
pub fault_alone : (files : Files) (error : RecordError) → RefusesFor files error → HasRecord files → IsFault error
fault_alone files (Bad at) bad has = record_or_bad_place files at bad has
fault_alone files StoreFault refused has = tt

-- files on the way, given their new lengths
pub way_resized : (lengths : List Length) (pieces : List Piece) (start before after : Files) → IsOnTheWay lengths pieces start before
    → ((file : FileId) → IsResized (new_sizes lengths (sizes_of start) file) (before file) (after file)) → IsOnTheWay lengths pieces start after
way_resized lengths pieces start before after way resized file =
    let was = way file in
    let a = was.no_shorter in
    let is = resized file in
    let size = is.size in
    record {
      no_shorter = omega arith;
      no_longer = omega arith;
      same = λ i low short. elim (was.same i low short) [
        | inl covered ↦ inl covered
        | inr same ↦ inr (is.same i (omega arith) short ∙ same)
      ];
    }

module _ (files : Files) (at : ℕ) (ends : Sizes) (read : HasLengths files at ends) (lengths : List Length) (pieces : List Piece) (has : IsRecordOf files lengths pieces) where
  -- the lengths that were read are those of the record
  same_lengths : read.lengths ≡ lengths
  same_lengths = record_lengths files ends.version at read.change lengths pieces has read.lengths read.read_to

  -- so the files end where the record says
  pub same_ends : size_in ends ≡ new_sizes lengths (sizes_of files)
  same_ends = read.ends_are ∙ ap (λ (l : List Length). new_sizes l (sizes_of files)) same_lengths

  module _ (mid : Files) (resized : AreResized ends files mid) where
    -- each file has the new length of the record
    resized_so : (file : FileId) → IsResized (new_sizes lengths (sizes_of files) file) (files file) (mid file)
    resized_so file = subst (λ (n : ℕ). IsResized n (files file) (mid file)) (ap (λ (f : FileId → ℕ). f file) same_ends) (resized file)

    -- so the files are on their way
    pub mid_way : IsOnTheWay lengths pieces files mid
    mid_way = way_resized lengths pieces files files mid (way_start lengths pieces files) resized_so

    -- and hold the record
    pub mid_record : IsRecordOf mid lengths pieces
    mid_record = way_record lengths pieces files has mid mid_way

    -- the lengths are read there too
    pub mid_lengths : HasLengths mid at ends
    mid_lengths = record {
      change = read.change;
      lengths = read.lengths;
      read_to = record {
        version_is = read.read_to.version_is ∙ ap (λ (l : List ℕ). version_by (slice_index l 1)) (sym journal);
        legal = read.read_to.legal;
        spelled = ap (drop 16) journal ∙ read.read_to.spelled ∙ ap (λ (l : List ℕ). beginning_bytes ends.version (Lengths read.change (length read.lengths) read.lengths) ++ drop at l) (sym journal);
        place = read.read_to.place;
      };
      ends_are = same_ends ∙ (λ i. λ file. sym (way_ends lengths pieces files has.legal mid mid_way file) i) ∙ ap (λ (l : List Length). new_sizes l (sizes_of mid)) (sym same_lengths);
    }
      where
        journal : mid Jnl ≡ files Jnl
        journal = way_kept lengths pieces files has.legal mid mid_way Jnl (omega arith)

    -- the pieces come to what the record makes
    pub pieced_applied : IsGrowthCovered lengths pieces files → pieced pieces mid ≡ applied lengths pieces files
    pieced_applied grown = same_files (pieced pieces mid) (applied lengths pieces files) each
      where
        each : (file : FileId) → pieced pieces mid file ≡ applied lengths pieces files file
        each file =
            let len = new_sizes lengths (sizes_of files) file in
            let spans = spans_in files pieces file in
            ap (λ (l : List Span). patched l (mid file)) (way_spans lengths pieces files has.legal mid mid_way file)
            ∙ between_patched len spans (files file) (files file) (mid file) (of_length len (files file))
            (spans_within _ files (new_sizes lengths (sizes_of files)) pieces file has.legal.pieces_are.each)
            (between_start len spans (files file)) (resized_so file) (resized_with_zeros len (files file)) (grown file)

module _ (files : Files) (at : ℕ) (ends : Sizes) (now : Files) (sized : AreSizes ends files) (done : HasPieced files at ends now) where
  -- the journal is as it was
  same_end : (P : List ℕ → Type 0) → P (journal_from now at) → P (journal_from files at)
  same_end P = subst (λ (l : List ℕ). P (drop at l)) (applied_kept files done.count done.count at ends now sized done.all Jnl (omega arith))

  -- and the other way round
  same_end_back : (P : List ℕ → Type 0) → P (journal_from files at) → P (journal_from now at)
  same_end_back P = subst (λ (l : List ℕ). P (drop at l)) (sym (applied_kept files done.count done.count at ends now sized done.all Jnl (omega arith)))

  -- the end behind the pieces, so these were the record's
  pub pieced_whole : BeginsWith (journal_from now at) (record_end ends.version) → ArePieced files now
  pieced_whole begins lengths pieces has =
      let walked = done.all.has in
      let whole = whole_record files done.count done.count at ends walked refl (same_end (λ (l : List ℕ). BeginsWith l (record_end ends.version)) begins) in
      let one = one_record files walked.lengths lengths walked.pieces pieces whole has in
      done.all.is ∙ ap (λ (l : List Piece). pieced l files) one.1

  -- no end behind the pieces, so there was no record
  pub pieced_no_end : (BeginsWith (journal_from now at) (record_end ends.version) → ⊥) → HasRecord files → ⊥
  pieced_no_end none has =
      record_or_bad_place files at (bad_end files done.count done.count at ends done.all.has refl (λ begins. none (same_end_back (λ (l : List ℕ). BeginsWith l (record_end ends.version)) begins))) has

  -- the journal's length is the one that is kept
  pub pieced_journal : size_in ends Jnl ≡ length (now Jnl)
  pieced_journal = sym (applied_size files done.count done.count at ends now sized done.all Jnl)

-- lengths that are set keep all that is on its way
pub set_keeps : (a b c : Device) (at : ℕ) (ends : Sizes) → OnlyReads a b → ForSome a.contents (λ files. HasLengths files at ends)
    → ((lengths : List Length) (pieces : List Piece) (start : Files) → ((file : FileId) → new_sizes lengths (sizes_of start) file ≡ size_in ends file) → Keeps (IsOnTheWay lengths pieces start) b c) → KeepsWay a c
set_keeps a b c at ends reads read sets lengths pieces start files is has way =
    let here = way_record lengths pieces start has files way in
    let ends_are = same_ends files at ends (read files is) lengths pieces here in
    keeps-then (IsOnTheWay lengths pieces start) a b c (keeps-reads (IsOnTheWay lengths pieces start) a b reads)
    (sets lengths pieces start (λ file. sym (way_ends lengths pieces start has.legal files way file) ∙ ap (λ (f : FileId → ℕ). f file) (sym ends_are)))

-- and so do the pieces that are written then
pub set_then_keeps : (a b c : Device) (at : ℕ) (ends : Sizes) → KeepsWay a b → ForSome a.contents (λ files. HasLengths files at ends) → Turns (AreResized ends) a.contents b.contents → KeepsWay b c → KeepsWay a c
set_then_keeps a b c at ends sets read resized writes lengths pieces start files is has way =
    let here = way_record lengths pieces start has files way in
    let on = turns_on (AreResized ends) a.contents b.contents files resized is in
    let ends_are = same_ends files at ends (read files is) lengths pieces here in
    let so : (file : FileId) → IsResized (new_sizes lengths (sizes_of start) file) (files file) (on.0 file) =
    λ file. subst (λ (n : ℕ). IsResized n (files file) (on.0 file)) (ap (λ (f : FileId → ℕ). f file) ends_are ∙ way_ends lengths pieces start has.legal files way file) (on.2 file) in
    keeps-then (IsOnTheWay lengths pieces start) a b c (sets lengths pieces start files is has way)
    (writes lengths pieces start on.0 on.1 has (way_resized lengths pieces start files on.0 way so))

-- lengths set and pieces written are what the record makes, where the disk tells it
pub applied_told : {T E : Type 0} (result : Result T E) (old mid new : Option Files) (at : ℕ) (ends : Sizes) → ForSome old (λ files. HasLengths files at ends) → Turns (AreResized ends) old mid
    → OnOk result (Turns ArePieced mid new)
    → OnOk result (ForSome old (λ files. (lengths : List Length) (pieces : List Piece) → IsRecordOf files lengths pieces → IsGrowthCovered lengths pieces files → new ≡ Some (applied lengths pieces files)))
applied_told (Err error) old mid new at ends read resized written = tt
applied_told (Ok value) old mid new at ends read resized written = λ files is lengths pieces has grown.
    let on = turns_on (AreResized ends) old mid files resized is in
    let done = turns_on ArePieced mid new on.0 written on.1 in
    done.1 ∙ ap Some (done.2 lengths pieces (mid_record files at ends (read files is) lengths pieces has on.0 on.2) ∙ pieced_applied files at ends (read files is) lengths pieces has on.0 on.2 grown)

-- a disk that told its files tells them still
pub told_still : {T E : Type 0} (result : Result T E) (old mid new : Option Files) (ends : Sizes) → Turns (AreResized ends) old mid → OnOk result (Turns ArePieced mid new) → OnOk result (IsSome old → IsSome new)
told_still (Err error) old mid new ends resized written = tt
told_still (Ok value) None None None ends resized written = λ some. some
told_still (Ok value) None None (Some now) ends resized written = absurd written
told_still (Ok value) None (Some half) new ends resized written = absurd resized
told_still (Ok value) (Some was) None new ends resized written = absurd resized
told_still (Ok value) (Some was) (Some half) None ends resized written = absurd written
told_still (Ok value) (Some was) (Some half) (Some now) ends resized written = λ some. refl
