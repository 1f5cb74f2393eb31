-- Copies of parts of .NDT write .JDT anew.
use Rattle.std.proofs.Common.{◌≡◌, ◌≢◌, inl, inr, ℕ, cond, eqb, ◌+◌, ◌-◌, ◌*◌, ◌≤◌, ◌<◌, List, [], ◌∷◌, ◌++◌, length, map, take, drop, All, refl, sym, ◌∙◌, ap, subst, arith, append_assoc, length-append, length-drop}
use Rattle.std.specs.Prelude.{◌^◌, Bool, true, false, slice_index_or}
use Rattle.std.specs.List.{flat_map}
use Rattle.std.proofs.lemmas.Bool.{cases_lt}
use Rattle.std.proofs.lemmas.Grind.{flat_map-append}
use Rattle.std.proofs.lemmas.List.{append-nil, drop-drop}
use Rattle.std.proofs.lemmas.List.Elements.{All-append, All-cons, All-head, All-nil, All-tail}
use Rattle.std.proofs.lemmas.List.Sums.{count_by-le-length, sum_by-cons}
use Rattle.std.proofs.Math.Seq.{drop-append-add, take-append_seam}
use Rattle.jb_limits.specs.declared.limits.TheConstants.{HEADERS_CEILING, SHADOW_CEILING, TEXTS_CEILING, MOST_SLOTS}
use Rattle.jb_redo.specs.Changes.{changed, record_size}
use Rattle.jb_disk.specs.declared.version.Version.TheVariants.{Two}
use Rattle.jb_disk.specs.RedoView.{RedoView, bytes_of}
use Rattle.jb_disk.specs.Files.{Files, file_number, overwritten}
use Rattle.jb_disk.specs.Steps.{IsCovered, Span, patched}
use Rattle.jb_disk.specs.declared.file.FileId.{FileId}
use Rattle.jb_disk.specs.declared.file.FileId.TheVariants.{Jhr, Jdt, Jdx, Jlr, Jnl, Ndt}
use Rattle.jb_disk.specs.declared.piece.Length.{Length}
use Rattle.jb_disk.specs.declared.piece.Piece.{Piece}
use Rattle.jb_disk.specs.declared.piece.Piece.TheVariants.{Bytes, Copy}
use Rattle.jb_image.specs.Places.{bytes_at}
use Rattle.jb_state.specs.LiveSlots.{linkables_from}
use Rattle.jb_state.specs.Sound.{IsSound}
use Rattle.jb_state.specs.declared.loaded.Loaded.{Loaded}
use Rattle.jb_redo.specs.Record.{piece_bytes}
use Rattle.jb_redo.specs.Replay.{span_of, spans_in, writes}
use Rattle.jb_redo.specs.Rules.{AreLegalLengths, IsLegalPiece, sizes_of}
use Rattle.jb_redo.proofs.SpanLemmas.{spans_in-here, spans_in-other, spans-append}
use Rattle.jb_pack.specs.Bytes.{index_file}
use Rattle.jb_pack.specs.Finish.{BringsNoText, HoldsWithCopies, IsPackOfCopies, PutsCopies}
use Rattle.jb_pack.specs.Laid.{IsLaidOut, laid, pieces_into}
use Rattle.jb_state.specs.Packed.{headers_size, is_live_slot, kept_slots, live_slots, new_base, packed, slot_text_size, texts_size}
use Rattle.jb_pack.specs.Plan.{PutsBase, StandPacked, lengths_with}
use Rattle.jb_pack.specs.Runs.{IsRun, bytes_in, copies_of, runs_size}
use Rattle.jb_pack.specs.Shadow.{Shadow}
use Rattle.jb_pack.specs.declared.run.Run.{Run}
use Rattle.jb_image.proofs.FileBytes.{length-bytes_at}
use Rattle.jb_pack.proofs.FitLemmas.{headers_fit_kept, headers_long}
use Rattle.jb_pack.proofs.HeldLemmas.{length-index, length-packed}
use Rattle.jb_pack.proofs.PlanLemmas.{marks_apart, texts_apart}
use Rattle.jb_pack.proofs.StateLemmas.{sum_of_kept, texts_of_kept}
use Rattle.jb_pack.proofs.WholeLemmas.{IsLaidIn, bytes_legal, grown_there, legal_lengths, legal_there, stand_there}
use Rattle.jb_redo.proofs.LengthLemmas.{length-record}

-- the parts have as many bytes together
pub length-in : (file : List ℕ) (runs : List Run) → All (IsRun (length file)) runs → length (bytes_in file runs) ≡ runs_size runs
length-in file [] inside = refl
length-in file (run ∷ runs) inside =
    let here = All-head (IsRun (length file)) run runs inside in
    omega (
      arith,
      length-append (bytes_at run.at run.len file) (bytes_in file runs),
      length-bytes_at run.at run.len file here.inside,
      length-in file runs (All-tail (IsRun (length file)) run runs inside),
      sum_by-cons (λ (r : Run). r.len) run runs,
    )

-- parts behind others
pub in-append : (file : List ℕ) (first second : List Run) → bytes_in file (first ++ second) ≡ bytes_in file first ++ bytes_in file second
in-append file [] second = refl
in-append file (run ∷ first) second =
    ap (λ (l : List ℕ). bytes_at run.at run.len file ++ l) (in-append file first second)
    ∙ sym (append_assoc (bytes_at run.at run.len file) (bytes_in file first) (bytes_in file second))

-- copies behind others
pub copies-append : (at : ℕ) (first second : List Run) → copies_of at (first ++ second) ≡ copies_of at first ++ copies_of (at + runs_size first) second
copies-append at [] second = let same : at ≡ at + 0 = omega arith in ap (λ n. copies_of n second) same
copies-append at (run ∷ first) second =
    let same : at + run.len + runs_size first ≡ at + runs_size (run ∷ first) = omega (arith, sum_by-cons (λ (r : Run). r.len) run first) in
    ap (λ (l : List Piece). Copy Ndt run.at Jdt at run.len ∷ l) (copies-append (at + run.len) first second ∙ ap (λ n. copies_of (at + run.len) first ++ copies_of n second) same)

-- a write right behind a front
over_behind : (front bytes old : List ℕ) (at : ℕ) → at ≡ length front → overwritten at bytes (front ++ old) ≡ (front ++ bytes) ++ drop (length bytes) old
unfolding overwritten
over_behind front bytes old at at_is =
    let first : take at (front ++ old) ≡ front = ap (λ n. take n (front ++ old)) at_is ∙ take-append_seam front old in
    let last : drop (at + length bytes) (front ++ old) ≡ drop (length bytes) old =
    ap (λ n. drop (n + length bytes) (front ++ old)) at_is ∙ drop-append-add front old (length bytes) in
    λ i. first i ++ bytes ++ last i

module _ (files : Files) where
  -- what the copies write stands one behind another
  pub copies_patched : (at : ℕ) (runs : List Run) (front old : List ℕ) → at ≡ length front → All (IsRun (length (files Ndt))) runs
      → patched (spans_in files (copies_of at runs) Jdt) (front ++ old) ≡ front ++ (bytes_in (files Ndt) runs ++ drop (runs_size runs) old)
  copies_patched at [] front old at_is inside = refl
  copies_patched at (run ∷ runs) front old at_is inside =
      let here = All-head (IsRun (length (files Ndt))) run runs inside in
      let rest = All-tail (IsRun (length (files Ndt))) run runs inside in
      let bytes : List ℕ = bytes_at run.at run.len (files Ndt) in
      let size : length bytes ≡ run.len = length-bytes_at run.at run.len (files Ndt) here.inside in
      let next : at + run.len ≡ length (front ++ bytes) = omega (arith, length-append front bytes) in
      ap (λ (l : List Span). patched l (front ++ old)) (spans_in-here files (Copy Ndt run.at Jdt at run.len) (copies_of (at + run.len) runs) Jdt refl)
      ∙ ap (patched (spans_in files (copies_of (at + run.len) runs) Jdt)) (over_behind front bytes old at at_is ∙ ap (λ n. (front ++ bytes) ++ drop n old) size)
      ∙ copies_patched (at + run.len) runs (front ++ bytes) (drop run.len old) next rest
      ∙ append_assoc front bytes (bytes_in (files Ndt) runs ++ drop (runs_size runs) (drop run.len old))
      ∙ ap (λ (l : List ℕ). front ++ l)
      (sym (append_assoc bytes (bytes_in (files Ndt) runs) (drop (runs_size runs) (drop run.len old)))
      ∙ ap (λ (l : List ℕ). (bytes ++ bytes_in (files Ndt) runs) ++ l)
      (drop-drop (runs_size runs) run.len old ∙ ap (λ n. drop n old) (sym (sum_by-cons (λ (r : Run). r.len) run runs))))

  -- each of its bytes is written
  pub copies_cover : (at : ℕ) (runs : List Run) (i : ℕ) → All (IsRun (length (files Ndt))) runs → at ≤ i → i < at + runs_size runs
      → IsCovered (spans_in files (copies_of at runs) Jdt) i
  copies_cover at [] i inside from low = absurd (omega (arith, from, low))
  copies_cover at (run ∷ runs) i inside from low =
      let here = All-head (IsRun (length (files Ndt))) run runs inside in
      let rest = All-tail (IsRun (length (files Ndt))) run runs inside in
      let size : length (bytes_at run.at run.len (files Ndt)) ≡ run.len = length-bytes_at run.at run.len (files Ndt) here.inside in
      let more = sum_by-cons (λ (r : Run). r.len) run runs in
      subst (λ (l : List Span). IsCovered l i) (sym (spans_in-here files (Copy Ndt run.at Jdt at run.len) (copies_of (at + run.len) runs) Jdt refl))
      (elim (cases_lt i (at + run.len)) [
        | inl before ↦ inl (from, omega arith)
        | inr behind ↦ inr (copies_cover (at + run.len) runs i rest behind (omega arith))
      ])

  -- they write nothing else
  pub copies_other : (at : ℕ) (runs : List Run) (file : FileId) → 1 ≢ file_number file → spans_in files (copies_of at runs) file ≡ []
  copies_other at [] file apart = refl
  copies_other at (run ∷ runs) file apart =
      spans_in-other files (Copy Ndt run.at Jdt at run.len) (copies_of (at + run.len) runs) file apart ∙ copies_other (at + run.len) runs file apart

  -- they are legal where .JDT is long enough
  pub copies_legal : (at : ℕ) (runs : List Run) (ends : FileId → ℕ) → All (IsRun (length (files Ndt))) runs → All (IsRun SHADOW_CEILING) runs → at + runs_size runs ≤ ends Jdt → at + runs_size runs < 2 ^ 32
      → All (IsLegalPiece Two (sizes_of files) ends) (copies_of at runs)
  copies_legal at [] ends inside below fits few = All-nil (IsLegalPiece Two (sizes_of files) ends)
  copies_legal at (run ∷ runs) ends inside below fits few =
      let here = All-head (IsRun (length (files Ndt))) run runs inside in
      let rest = All-tail (IsRun (length (files Ndt))) run runs inside in
      let more = sum_by-cons (λ (r : Run). r.len) run runs in
      let within = here.inside in
      let low = (All-head (IsRun SHADOW_CEILING) run runs below).inside in
      All-cons (IsLegalPiece Two (sizes_of files) ends) (Copy Ndt run.at Jdt at run.len) (copies_of (at + run.len) runs)
      (record {
        shadow = refl;
        texts = refl;
        place = omega arith;
        source = omega arith;
        size = omega arith;
        inside = within;
        within = omega arith;
      })
      (copies_legal (at + run.len) runs ends rest (All-tail (IsRun SHADOW_CEILING) run runs below) (omega arith) (omega arith))

-- each copy takes twenty-eight bytes of the record
pub copies_size : (at : ℕ) (runs : List Run) → length (flat_map (piece_bytes Two) (copies_of at runs)) ≡ 28 * length runs
copies_size at [] = refl
copies_size at (run ∷ runs) =
    omega (
      arith,
      length-append (piece_bytes Two (Copy Ndt run.at Jdt at run.len)) (flat_map (piece_bytes Two) (copies_of (at + run.len) runs)),
      copies_size (at + run.len) runs,
    )

-- they bring no text with them
copies_bring_none : (at : ℕ) (runs : List Run) → All BringsNoText (copies_of at runs)
copies_bring_none at [] = All-nil BringsNoText
copies_bring_none at (run ∷ runs) = All-cons BringsNoText (Copy Ndt run.at Jdt at run.len) (copies_of (at + run.len) runs) tt (copies_bring_none (at + run.len) runs)

-- a piece that is not written
unwritten : (b : Bool) (piece : Piece) (rest : List Piece) → cond b (piece ∷ rest) rest ≡ [] → (b ≡ false) × (rest ≡ [])
unwritten true piece rest is = absurd (cc)
unwritten false piece rest is = (refl, is)

-- nor do pieces none of which is written into .JDT
bring_none : (pieces : List Piece) → pieces_into pieces Jdt ≡ [] → All BringsNoText pieces
bring_none [] none = All-nil BringsNoText
bring_none (Copy from from_at to to_at len ∷ pieces) none =
    let first = unwritten (writes Jdt (Copy from from_at to to_at len)) (Copy from from_at to to_at len) (pieces_into pieces Jdt) none in
    All-cons BringsNoText (Copy from from_at to to_at len) pieces tt (bring_none pieces first.1)
bring_none (Bytes file at bytes ∷ pieces) none =
    let first = unwritten (writes Jdt (Bytes file at bytes)) (Bytes file at bytes) (pieces_into pieces Jdt) none in
    All-cons BringsNoText (Bytes file at bytes) pieces
    (λ same. let test : eqb (file_number Jdt) (file_number Jdt) ≡ false = subst (λ (f : FileId). eqb (file_number f) (file_number Jdt) ≡ false) same first.0 in absurd (cc))
    (bring_none pieces first.1)

-- the bytes of each file: of .JDT these texts, of the others those of the pieces
abbrev pub written_bytes : List ℕ → List Piece → FileId → List ℕ
written_bytes texts pieces Jhr = laid pieces Jhr
written_bytes texts pieces Jdt = texts
written_bytes texts pieces Jdx = laid pieces Jdx
written_bytes texts pieces Jlr = laid pieces Jlr
written_bytes texts pieces Jnl = laid pieces Jnl
written_bytes texts pieces Ndt = laid pieces Ndt

module _ (files : Files) (pieces : List Piece) (runs : List Run) (out : IsLaidOut pieces) (none : pieces_into pieces Jdt ≡ [])
    (inside : All (IsRun (length (files Ndt))) runs) (below : All (IsRun SHADOW_CEILING) runs) (small : runs_size runs < 2 ^ 32)
    (many : length (pieces ++ copies_of 0 runs) < 2 ^ 32) where
  -- the texts
  abbrev texts : List ℕ
  texts = bytes_in (files Ndt) runs

  -- what is written into another file
  spans_else : (file : FileId) → 1 ≢ file_number file → spans_in files (pieces ++ copies_of 0 runs) file ≡ spans_in files pieces file
  spans_else file apart =
      spans-append files pieces (copies_of 0 runs) file
      ∙ ap (λ (l : List Span). spans_in files pieces file ++ l) (copies_other files 0 runs file apart)
      ∙ append-nil (spans_in files pieces file)

  -- and into .JDT
  spans_texts : spans_in files (pieces ++ copies_of 0 runs) Jdt ≡ spans_in files (copies_of 0 runs) Jdt
  spans_texts =
      spans-append files pieces (copies_of 0 runs) Jdt
      ∙ ap (λ (l : List Piece). map (span_of files) l ++ spans_in files (copies_of 0 runs) Jdt) none

  -- the beginning of another file
  front_else : (file : FileId) (old : List ℕ) → 1 ≢ file_number file → length (laid pieces file) ≤ length old
      → patched (spans_in files (pieces ++ copies_of 0 runs) file) old ≡ laid pieces file ++ drop (length (laid pieces file)) old
  front_else file old apart long = ap (λ (l : List Span). patched l old) (spans_else file apart) ∙ out.fronts files file old long

  -- each of its bytes is written
  cover_else : (file : FileId) (i : ℕ) → 1 ≢ file_number file → i < length (laid pieces file) → IsCovered (spans_in files (pieces ++ copies_of 0 runs) file) i
  cover_else file i apart low = subst (λ (l : List Span). IsCovered l i) (sym (spans_else file apart)) (out.covers files file i low)

  -- no piece with its bytes passes a file's end
  long_enough : (ends : FileId → ℕ) → ((file : FileId) → file_number file < 4 → length (written_bytes texts pieces file) ≤ ends file)
      → (file : FileId) → file_number file < 4 → length (laid pieces file) ≤ ends file
  long_enough ends longer Jhr low = longer Jhr low
  long_enough ends longer Jdt low = omega (arith, ap (λ (l : List Piece). length (flat_map bytes_of l)) none)
  long_enough ends longer Jdx low = longer Jdx low
  long_enough ends longer Jlr low = longer Jlr low
  long_enough ends longer Jnl low = longer Jnl low
  long_enough ends longer Ndt low = longer Ndt low

  -- over these files all of them are written anew
  pub laid_with_copies : IsLaidIn files (pieces ++ copies_of 0 runs) (written_bytes texts pieces)
  laid_with_copies = record {
    fronts = fronts;
    covers = covers;
    each = λ ends longer.
        All-append (IsLegalPiece Two (sizes_of files) ends) pieces (copies_of 0 runs)
        (λ k d low. bytes_legal (sizes_of files) (λ file. length (laid pieces file)) ends (slice_index_or pieces k d) (long_enough ends longer) (out.each k d low))
        (copies_legal files 0 runs ends inside below (omega (arith, longer Jdt (omega arith), length-in (files Ndt) runs inside)) (omega (arith, small)));
    few = many;
  }
    where
      fronts : (file : FileId) (old : List ℕ) → length (written_bytes texts pieces file) ≤ length old
          → patched (spans_in files (pieces ++ copies_of 0 runs) file) old ≡ written_bytes texts pieces file ++ drop (length (written_bytes texts pieces file)) old
      fronts Jhr old long = front_else Jhr old (λ same. absurd (omega (arith, same))) long
      fronts Jdt old long =
          ap (λ (l : List Span). patched l old) spans_texts
          ∙ copies_patched files 0 runs [] old refl inside
          ∙ ap (λ n. texts ++ drop n old) (sym (length-in (files Ndt) runs inside))
      fronts Jdx old long = front_else Jdx old (λ same. absurd (omega (arith, same))) long
      fronts Jlr old long = front_else Jlr old (λ same. absurd (omega (arith, same))) long
      fronts Jnl old long = front_else Jnl old (λ same. absurd (omega (arith, same))) long
      fronts Ndt old long = front_else Ndt old (λ same. absurd (omega (arith, same))) long

      covers : (file : FileId) (i : ℕ) → i < length (written_bytes texts pieces file) → IsCovered (spans_in files (pieces ++ copies_of 0 runs) file) i
      covers Jhr i low = cover_else Jhr i (λ same. absurd (omega (arith, same))) low
      covers Jdt i low =
          subst (λ (l : List Span). IsCovered l i) (sym spans_texts)
          (copies_cover files 0 runs i inside (omega arith) (omega (arith, low, length-in (files Ndt) runs inside)))
      covers Jdx i low = cover_else Jdx i (λ same. absurd (omega (arith, same))) low
      covers Jlr i low = cover_else Jlr i (λ same. absurd (omega (arith, same))) low
      covers Jnl i low = cover_else Jnl i (λ same. absurd (omega (arith, same))) low
      covers Ndt i low = cover_else Ndt i (λ same. absurd (omega (arith, same))) low

-- the record with the copies
copies_record : (two new : RedoView) (runs : List Run) → new.lengths ≡ two.lengths → new.pieces ≡ two.pieces ++ copies_of 0 runs
    → record_size new ≡ record_size two + 28 * length runs
copies_record two new runs lengths_are pieces_are =
    let all : length (flat_map (piece_bytes Two) new.pieces) ≡ length (flat_map (piece_bytes Two) two.pieces) + 28 * length runs =
    ap (λ (l : List Piece). length (flat_map (piece_bytes Two) l)) pieces_are
    ∙ ap length (flat_map-append (piece_bytes Two) two.pieces (copies_of 0 runs))
    ∙ length-append (flat_map (piece_bytes Two) two.pieces) (flat_map (piece_bytes Two) (copies_of 0 runs))
    ∙ ap (λ n. length (flat_map (piece_bytes Two) two.pieces) + n) (copies_size 0 runs) in
    omega (arith, length-record 0 new.lengths new.pieces, length-record 0 two.lengths two.pieces, ap (λ (l : List Length). length l) lengths_are)

-- all parts of a pack by copies, put one after another
pub copied_pack_of : (limit : ℕ) (loaded : Loaded) (shadow : Shadow) (two new : RedoView) → IsSound limit loaded → limit ≤ MOST_SLOTS
    → texts_size loaded.slots ≤ TEXTS_CEILING → PutsBase loaded two → PutsCopies shadow.texts loaded.slots two new → IsPackOfCopies loaded shadow new
copied_pack_of limit loaded shadow two new sound limited fits base copies =
    let no_texts : pieces_into two.pieces Jdt ≡ [] = base.others Jdt texts_apart.0 texts_apart.1 in
    let no_marks : laid two.pieces Jlr ≡ [] = ap (flat_map bytes_of) (base.others Jlr marks_apart.0 marks_apart.1) in
    let fits_kept : texts_size (kept_slots loaded) ≤ TEXTS_CEILING = omega (arith, sum_of_kept slot_text_size refl (λ at. refl) loaded) in
    let lengths_are : new.lengths ≡ lengths_with (headers_size (kept_slots loaded)) (texts_size (kept_slots loaded)) (length (kept_slots loaded)) = copies.lengths ∙ base.lengths in
    let small : runs_size copies.runs < 2 ^ 32 = omega (arith, copies.size) in
    let many : length (two.pieces ++ copies_of 0 copies.runs) < 2 ^ 32 = subst (λ (l : List Piece). length l < 2 ^ 32) copies.pieces copies.many in
    let whole : (files : Files) → HoldsWithCopies loaded shadow files → IsLaidIn files new.pieces (written_bytes (bytes_in (files Ndt) copies.runs) two.pieces) =
    λ files holds. subst (λ (l : List Piece). IsLaidIn files l (written_bytes (bytes_in (files Ndt) copies.runs) two.pieces)) (sym copies.pieces)
    (laid_with_copies files two.pieces copies.runs base.laid_out no_texts (copies.texts files holds.has.each).inside copies.below small many) in
    let size : (files : Files) → HoldsWithCopies loaded shadow files → length (bytes_in (files Ndt) copies.runs) ≡ texts_size (kept_slots loaded) =
    λ files holds. length-in (files Ndt) copies.runs (copies.texts files holds.has.each).inside ∙ copies.size ∙ sym (sum_of_kept slot_text_size refl (λ at. refl) loaded) in
    let headers_fit : 1024 + headers_size (kept_slots loaded) ≤ HEADERS_CEILING = headers_fit_kept limit loaded sound in
    let kept : length (kept_slots loaded) ≤ MOST_SLOTS = omega (arith, sound.few_slots, length-drop (new_base loaded - loaded.base) loaded.slots) in
    let slots_are : length (packed loaded).slots ≡ length (kept_slots loaded) =
    length-packed (linkables_from loaded.base loaded.slots) (new_base loaded) 1024 0 (kept_slots loaded) in
    let index_is : length (index_file (packed loaded)) ≡ 8 * length (kept_slots loaded) = length-index (packed loaded).slots ∙ ap (λ n. 8 * n) slots_are in
    let record_is = copies_record two new copies.runs copies.lengths copies.pieces in
    let few = copies.few in
    let live_is : live_slots (kept_slots loaded) ≡ live_slots loaded.slots = sum_of_kept (λ slot. cond (is_live_slot slot) 1 0) refl (λ at. refl) loaded in
    let live_few = headers_long (kept_slots loaded) in
    let base_size = base.size in
    let base_long = base.long in
    record {
      brings = record {
        legal = λ files holds. legal_there limit loaded new sound limited fits_kept lengths_are base.back files holds.loads (written_bytes (bytes_in (files Ndt) copies.runs) two.pieces)
            (whole files holds) base.headers base.long base.index (size files holds) no_marks;
        grown = λ files holds. grown_there limit loaded new sound limited fits_kept lengths_are base.back files holds.loads (written_bytes (bytes_in (files Ndt) copies.runs) two.pieces)
            (whole files holds) base.headers base.long base.index (size files holds) no_marks;
        made = λ files holds. subst (λ (l : List ℕ). StandPacked loaded l (changed new files))
            ((copies.texts files holds.has.each).bytes ∙ sym (texts_of_kept (files Jdt) loaded))
            (stand_there limit loaded new sound limited fits_kept lengths_are base.back files holds.loads (written_bytes (bytes_in (files Ndt) copies.runs) two.pieces)
            (whole files holds) base.headers base.long base.index (size files holds) no_marks);
      };
      no_text = subst (λ (l : List Piece). All BringsNoText l) (sym copies.pieces)
          (All-append BringsNoText two.pieces (copies_of 0 copies.runs) (bring_none two.pieces no_texts) (copies_bring_none 0 copies.runs));
      short = omega arith;
      writable = record {
        lengths_are =
            subst (AreLegalLengths Two) (sym lengths_are)
            (legal_lengths (headers_size (kept_slots loaded)) (texts_size (kept_slots loaded)) (length (kept_slots loaded)) headers_fit fits_kept kept);
        short = omega (arith, count_by-le-length is_live_slot (kept_slots loaded));
      };
    }
