-- Files on their way to what a record makes: a stop at any moment changes nothing of what comes of them.
use Rattle.std.proofs.Common.{◌≡◌, inl, inr, ℕ, ◌+◌, ◌<◌, ◌≤◌, List, [], length, drop, refl, ap, sym, ◌∙◌, subst, arith}
use Rattle.std.specs.Prelude.{slice_index}
use Rattle.std.proofs.lemmas.Bool.{cases_lt}
use Rattle.std.proofs.lemmas.List.{same_lists, get_or_default}
use Rattle.jb_disk.specs.declared.file.FileId.{FileId}
use Rattle.jb_disk.specs.declared.file.FileId.TheVariants.{Jnl, Ndt}
use Rattle.jb_disk.specs.declared.piece.Length.{Length}
use Rattle.jb_disk.specs.declared.piece.Piece.{Piece}
use Rattle.jb_disk.specs.declared.piece.Piece.TheVariants.{Bytes, Copy}
use Rattle.jb_disk.specs.Files.{Files, file_number, InFile, IsResized}
use Rattle.jb_disk.specs.FileLaws.{same_file, length-of_length}
use Rattle.jb_disk.specs.ImageLaws.{get-of_length}
use Rattle.jb_disk.specs.Memory.{of_length}
use Rattle.jb_disk.specs.Steps.{Span, IsCovered, AreWithin, AgreesBut, Torn, Cut, patched}
use Rattle.jb_disk.proofs.StepLemmas.{patched-same}
use Rattle.jb_disk.specs.declared.version.Version.{Version}
use Rattle.jb_disk.specs.Gate.{IsGateOpen, version_by, version_of, version_number, with_gate_closed}
use Rattle.jb_redo.specs.Laws.{HasOneReplayAtMost}
use Rattle.jb_redo.specs.OnTheWay.{IsFileBetween, IsOnTheWay}
use Rattle.jb_redo.specs.Reading.{IsRecordOf, BeginsWith}
use Rattle.jb_redo.specs.Record.{record_bytes}
use Rattle.jb_redo.specs.Replay.{spans_in, applied, IsGrowthCovered, Replays}
use Rattle.jb_redo.specs.Rules.{sizes_of, new_sizes, IsChangeNumber, IsLegalPiece, IsLegalRecord}
use Rattle.jb_redo.proofs.OneReading.{one_record}
use Rattle.jb_redo.proofs.SizeLemmas.{given_or_not, not_given}
use Rattle.jb_redo.proofs.SpanLemmas.{no_spans, spans_same, spans_within}

-- a file of another length, with zeros where it grew
pub resized_with_zeros : (len : ℕ) (old : List ℕ) → IsResized len old (of_length len old)
resized_with_zeros len old = record { size = length-of_length len old; same = λ i within low. get-of_length len old i low within }

-- a file that keeps its length
pub resized_same : (len : ℕ) (old new : List ℕ) → len ≡ length old → IsResized len old new → new ≡ old
resized_same len old new same resized =
    let size = resized.size in
    same_lists new old (omega arith) (λ k d low.
    get_or_default new k d 0 low ∙ resized.same k (omega arith) (omega arith) ∙ get_or_default old k 0 d (omega arith))

-- a file between two equal lengths into which nothing is written
between_kept : (len : ℕ) (start now : List ℕ) → len ≡ length start → IsFileBetween len [] start now → now ≡ start
between_kept len start now same between =
    let a = between.no_shorter in
    let b = between.no_longer in
    same_lists now start (omega arith) (λ k d low.
    get_or_default now k d 0 low
    ∙ elim (between.same k (omega arith) (omega arith)) [ inl none ↦ absurd none | inr is ↦ is ]
    ∙ get_or_default start k 0 d (omega arith))

-- a file on its way, of the new length now, and the file from which it came, of that length too
pub between_agrees : (len : ℕ) (spans : List Span) (start now mid other : List ℕ) → IsFileBetween len spans start now → IsResized len now mid → IsResized len start other
    → ((i : ℕ) → length start ≤ i → i < len → IsCovered spans i) → AgreesBut (IsCovered spans) mid other
between_agrees len spans start now mid other between resized from grown =
    let a = between.no_shorter in
    let size = resized.size in
    let size' = from.size in
    record {
      size = size ∙ sym size';
      same = λ i low. elim (cases_lt i (length start)) [
        | inl inside ↦ elim (between.same i inside (omega arith)) [
          | inl covered ↦ inl covered
          | inr is ↦ inr (resized.same i (omega arith) (omega arith) ∙ is ∙ sym (from.same i inside (omega arith)))
        ]
        | inr past ↦ inl (grown i past (omega arith))
      ];
    }

-- where each byte past the old end is written, both come to the same
pub between_patched : (len : ℕ) (spans : List Span) (start now mid other : List ℕ) → AreWithin spans len → IsFileBetween len spans start now → IsResized len now mid → IsResized len start other
    → ((i : ℕ) → length start ≤ i → i < len → IsCovered spans i) → patched spans mid ≡ patched spans other
between_patched len spans start now mid other within between resized from grown =
    patched-same (IsCovered spans) spans mid other (subst (AreWithin spans) (sym resized.size) within) (between_agrees len spans start now mid other between resized from grown) (λ i low covered. covered)

-- files are on the way to what is made of them
pub between_start : (len : ℕ) (spans : List Span) (start : List ℕ) → IsFileBetween len spans start start
between_start len spans start = record { no_shorter = omega arith; no_longer = omega arith; same = λ i low short. inr refl }

module _ (lengths : List Length) (pieces : List Piece) (start : Files) where
  -- files are on the way to what is made of them
  pub way_start : IsOnTheWay lengths pieces start start
  way_start file = between_start (new_sizes lengths (sizes_of start) file) (spans_in start pieces file) (start file)

  -- a change of a file's length to the new one
  pub way_cut : (file : FileId) (before after : Files) → IsOnTheWay lengths pieces start before → InFile file (Cut (new_sizes lengths (sizes_of start) file)) before after
      → IsOnTheWay lengths pieces start after
  way_cut file before after way step other = elim (same_file other file) [
    | inl same ↦ subst (λ (f : FileId). IsFileBetween (new_sizes lengths (sizes_of start) f) (spans_in start pieces f) (start f) (after f)) (sym same) here
    | inr apart ↦ subst (IsFileBetween (new_sizes lengths (sizes_of start) other) (spans_in start pieces other) (start other)) (sym (step.others other apart)) (way other)
  ]
    where
      here : IsFileBetween (new_sizes lengths (sizes_of start) file) (spans_in start pieces file) (start file) (after file)
      here =
          let was = way file in
          let a = was.no_shorter in
          let b = was.no_longer in
          let cut = step.here in
          let c = cut.no_shorter in
          let d = cut.no_longer in
          record {
            no_shorter = omega arith;
            no_longer = omega arith;
            same = λ i low short. elim (was.same i low short) [
              | inl covered ↦ inl covered
              | inr is ↦ inr (cut.below i (omega arith) short ∙ is)
            ];
          }

  -- any bytes where pieces are written
  pub way_torn : (file : FileId) (at len : ℕ) (before after : Files) → IsOnTheWay lengths pieces start before → InFile file (Torn at len) before after
      → ((i : ℕ) → at ≤ i → i < at + len → IsCovered (spans_in start pieces file) i) → IsOnTheWay lengths pieces start after
  way_torn file at len before after way step covers other = elim (same_file other file) [
    | inl same ↦ subst (λ (f : FileId). IsFileBetween (new_sizes lengths (sizes_of start) f) (spans_in start pieces f) (start f) (after f)) (sym same) here
    | inr apart ↦ subst (IsFileBetween (new_sizes lengths (sizes_of start) other) (spans_in start pieces other) (start other)) (sym (step.others other apart)) (way other)
  ]
    where
      here : IsFileBetween (new_sizes lengths (sizes_of start) file) (spans_in start pieces file) (start file) (after file)
      here =
          let was = way file in
          let a = was.no_shorter in
          let b = was.no_longer in
          let torn = step.here in
          let size = torn.size in
          record {
            no_shorter = omega arith;
            no_longer = omega arith;
            same = λ i low short. elim (was.same i low short) [
              | inl covered ↦ inl covered
              | inr is ↦ elim (cases_lt i at) [
                | inl under ↦ inr (torn.below i under ∙ is)
                | inr over ↦ elim (cases_lt i (at + len)) [
                  | inl inside ↦ inl (covers i over inside)
                  | inr past ↦ inr (torn.above i past ∙ is)
                ]
              ]
            ];
          }

  -- where the record is one over the files at the start
  module _ {version : Version} (legal : IsLegalRecord version (sizes_of start) lengths pieces) (now : Files) (way : IsOnTheWay lengths pieces start now) where
    -- the journal and the shadow of the texts are as they were
    pub way_kept : (file : FileId) → 4 ≤ file_number file → now file ≡ start file
    way_kept file high =
        between_kept (new_sizes lengths (sizes_of start) file) (start file) (now file) (not_given lengths (sizes_of start) file legal.lengths_are.each high)
        (subst (λ (l : List Span). IsFileBetween (new_sizes lengths (sizes_of start) file) l (start file) (now file))
        (no_spans version (sizes_of start) (new_sizes lengths (sizes_of start)) start pieces file legal.pieces_are.each high) (way file))

    -- the files are to have the same lengths
    pub way_ends : (file : FileId) → new_sizes lengths (sizes_of now) file ≡ new_sizes lengths (sizes_of start) file
    way_ends file = elim (given_or_not lengths file) [
      | inl given ↦ given (sizes_of now) (sizes_of start)
      | inr kept ↦
          let between = way file in
          let a = between.no_shorter in
          let b = between.no_longer in
          let is = kept (sizes_of start) in
          kept (sizes_of now) ∙ omega (arith, is) ∙ sym is
    ]

    -- the same is written into each
    pub way_spans : (file : FileId) → spans_in now pieces file ≡ spans_in start pieces file
    way_spans file = spans_same version (sizes_of start) (new_sizes lengths (sizes_of start)) now start pieces file legal.pieces_are.each (way_kept Ndt (omega arith))

    -- a piece keeps the rules over them
    way_piece : (piece : Piece) → IsLegalPiece version (sizes_of start) (new_sizes lengths (sizes_of start)) piece → IsLegalPiece version (sizes_of now) (new_sizes lengths (sizes_of now)) piece
    way_piece (Bytes file at bytes) is =
        let within = is.within in
        record { of_base = is.of_base; place = is.place; size = is.size; within = omega (arith, way_ends file) }
    way_piece (Copy from from_at to to_at len) is =
        let inside = is.inside in
        let within = is.within in
        let high : 4 ≤ file_number from = omega (arith, ap file_number is.shadow) in
        record {
          shadow = is.shadow;
          texts = is.texts;
          place = is.place;
          source = is.source;
          size = is.size;
          inside = omega (arith, ap length (way_kept from high));
          within = omega (arith, way_ends to);
        }

    -- so the record is one over the files on the way
    pub way_legal : IsLegalRecord version (sizes_of now) lengths pieces
    way_legal = record {
      lengths_are = legal.lengths_are;
      pieces_are = record { many = legal.pieces_are.many; each = λ k d low. way_piece _ (legal.pieces_are.each k d low) };
    }

    -- and comes to the same, where each byte past an old end is written
    pub way_applied : IsGrowthCovered lengths pieces start → applied lengths pieces now ≡ applied lengths pieces start
    way_applied grown = λ i. λ file. each file i
      where
        each : (file : FileId) → applied lengths pieces now file ≡ applied lengths pieces start file
        each file =
            let len = new_sizes lengths (sizes_of start) file in
            let spans = spans_in start pieces file in
            (λ i. patched (way_spans file i) (of_length (way_ends file i) (now file)))
            ∙ between_patched len spans (start file) (now file) (of_length len (now file)) (of_length len (start file))
            (spans_within version start (new_sizes lengths (sizes_of start)) pieces file legal.pieces_are.each) (way file) (resized_with_zeros len (now file)) (resized_with_zeros len (start file)) (grown file)

    -- which they then are too
    pub way_grown : IsGrowthCovered lengths pieces start → IsGrowthCovered lengths pieces now
    way_grown grown file i past low =
        let between = way file in
        let a = between.no_shorter in
        subst (λ (l : List Span). IsCovered l i) (sym (way_spans file)) (grown file i (omega (arith, way_ends file)) (omega (arith, way_ends file)))

  -- files on the way hold the record that the files at the start hold
  pub way_record : IsRecordOf start lengths pieces → (now : Files) → IsOnTheWay lengths pieces start now → IsRecordOf now lengths pieces
  way_record is now way =
      let journal = way_kept is.legal now way Jnl (omega arith) in
      let version : version_of start ≡ version_of now = ap (λ (l : List ℕ). version_by (slice_index l 1)) (sym journal) in
      record {
        change = is.change;
        numbered = subst (λ (v : Version). IsChangeNumber v is.change) version is.numbered;
        legal = subst (λ (v : Version). IsLegalRecord v (sizes_of now) lengths pieces) version (way_legal is.legal now way);
        begins = subst (λ (l : List ℕ). BeginsWith (drop 16 l) (record_bytes (version_by (slice_index l 1)) is.change lengths pieces)) (sym journal) is.begins;
      }

-- with an open gate, files replay to what the record makes of them
pub replays_to_applied : (lengths : List Length) (pieces : List Piece) (files : Files) → IsGateOpen files → IsRecordOf files lengths pieces → Replays files (with_gate_closed (applied lengths pieces files))
replays_to_applied lengths pieces files opened has = inr (record { opened = opened; lengths = lengths; pieces = pieces; has = has; is = refl })

-- and files on the way from them replay to the same
pub way_replays : (lengths : List Length) (pieces : List Piece) (start now after : Files) → IsGateOpen start → IsRecordOf start lengths pieces → IsGrowthCovered lengths pieces start
    → IsOnTheWay lengths pieces start now → Replays start after → Replays now after
way_replays lengths pieces start now after opened has grown way (inl closed) = absurd (closed.0 opened)
way_replays lengths pieces start now after opened has grown way (inr redone) =
    let one = one_record start redone.lengths lengths redone.pieces pieces redone.has has in
    let journal = way_kept lengths pieces start has.legal now way Jnl (omega arith) in
    inr (record {
      opened = record {
        longer = subst (λ (l : List ℕ). 16 < length l) (sym journal) opened.longer;
        gate = ap (λ (l : List ℕ). slice_index l 0) journal ∙ opened.gate ∙ ap (λ (l : List ℕ). version_number (version_by (slice_index l 1))) (sym journal);
      };
      lengths = lengths;
      pieces = pieces;
      has = way_record lengths pieces start has now way;
      is = redone.is ∙ (λ i. with_gate_closed (applied (one.0 i) (one.1 i) start)) ∙ ap with_gate_closed (sym (way_applied lengths pieces start has.legal now way grown));
    })

-- files replay to one family of files at most
pub one_replay : HasOneReplayAtMost
one_replay files one other (inl closed) (inl closed') = closed.1 ∙ sym closed'.1
one_replay files one other (inl closed) (inr redone) = absurd (closed.0 redone.opened)
one_replay files one other (inr redone) (inl closed) = absurd (closed.0 redone.opened)
one_replay files one other (inr redone) (inr redone') =
    let same = one_record files redone.lengths redone'.lengths redone.pieces redone'.pieces redone.has redone'.has in
    redone.is ∙ (λ i. with_gate_closed (applied (same.0 i) (same.1 i) files)) ∙ sym redone'.is
