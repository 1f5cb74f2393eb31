-- What other counts, another mark and nothing at all make of the area that a change makes.
use Rattle.std.proofs.Common.{◌≡◌, ◌≢◌, ◌⊎◌, inl, inr, ℕ, ◌+◌, ◌*◌, ◌<◌, ◌≤◌, List, [], ◌++◌, length, ap, ◌∙◌, sym, refl, subst, arith, length-set, length-take, append-nil}
use Rattle.jb_disk.specs.declared.version.Version.TheVariants.{Two}
use Rattle.std.specs.Prelude.{◌^◌, slice_index, slice_index_or, slice_set}
use Rattle.std.proofs.lemmas.Bool.{cases_eq, cases_lt}
use Rattle.std.proofs.lemmas.Grind.{same_number_lists}
use Rattle.std.proofs.lemmas.List.{get_or-set_same, get_or-set_other, take_all}
use Rattle.jb_limits.specs.declared.limits.TheConstants.{MOST_MARKS}
use Rattle.jb_bytes.specs.Number.{number_bytes}
use Rattle.jb_bytes.proofs.Numbers.{little_endian-back}
use Rattle.jb_disk.specs.RedoView.{RedoView}
use Rattle.jb_disk.specs.declared.file.FileId.{FileId}
use Rattle.jb_disk.specs.declared.file.FileId.TheVariants.{Jhr, Jdt, Jdx, Jlr}
use Rattle.jb_disk.specs.declared.piece.Length.{Length}
use Rattle.jb_disk.specs.Files.{Files, file_number, overwritten, written}
use Rattle.jb_disk.specs.FileLaws.{with_file-here, with_file-other, same_files, length-of_length, length-overwritten}
use Rattle.jb_disk.specs.ImageLaws.{get-of_length}
use Rattle.jb_disk.specs.Memory.{of_length}
use Rattle.jb_state.specs.Loaded.{with_counts, with_marks}
use Rattle.jb_state.specs.Sound.{Covers}
use Rattle.jb_state.specs.declared.loaded.Loaded.{Loaded}
use Rattle.jb_state.specs.declared.loaded.LoadedSlot.{LoadedSlot}
use Rattle.jb_state.specs.declared.loaded.LoadedSlot.TheVariants.{Empty, Killed, Live}
use Rattle.jb_state.specs.declared.mark.Mark.{Mark}
use Rattle.jb_record.specs.declared.index.IndexRecord.{IndexRecord}
use Rattle.jb_record.specs.Fixed.{IsFixedHeader, fixed_header_of}
use Rattle.jb_record.specs.Lastread.{lastread_record_of}
use Rattle.jb_redo.specs.Replay.{applied, IsGrowthCovered}
use Rattle.jb_redo.specs.Rules.{sizes_of, IsLegalRecord}
use Rattle.jb_image.specs.Places.{bytes_at, fixed_in, entry_in, mark_record_at}
use Rattle.jb_image.specs.Stands.{Loads, HasSlot, mark_record}
use Rattle.jb_change.specs.Changing.{ChangesArea, ChangesMark, MakesNothing, Puts, WritesOnly}
use Rattle.jb_redo.specs.Changes.{changed}
use Rattle.jb_change.proofs.ByteLemmas.{bytes_beside, bytes_inside, torn-overwritten}
use Rattle.jb_change.proofs.HeaderLemmas.{still_fixed, fixed_put}
use Rattle.jb_change.proofs.LoadsLemmas.{IsTornAt, torn-written, slot_same}
use Rattle.jb_change.proofs.PieceLemmas.{put_makes, put_only}

-- the bytes of a slot lie behind the fixed header
behind_fixed : (files : Files) (entry : IndexRecord) (slot : LoadedSlot) (i : ℕ) → HasSlot files entry slot → Covers slot i → 1024 ≤ i
behind_fixed files entry Empty i has covers = absurd covers
behind_fixed files entry (Killed header_at) i has covers =
    let behind = has.1.header.placed.after in
    omega (arith, covers.0)
behind_fixed files entry (Live message) i has covers =
    let behind = has.2.header.placed.after in
    omega (arith, covers.0)

-- the counts written into the fixed header of files
module _ (files : Files) (to : Loaded) (counter active : ℕ) (loads : Loads to files) (counter_fits : counter < 2 ^ 32) (active_fits : active < 2 ^ 32) where
  -- what is written
  abbrev counts : List ℕ
  counts = number_bytes 4 counter ++ number_bytes 4 active

  -- the files then
  abbrev after : Files
  after = written Jhr 8 counts files

  -- .JHR is long enough
  fixed_room : 1024 ≤ length (files Jhr)
  fixed_room =
      let size = loads.header.size in
      let taken = length-take 1024 (files Jhr) in
      omega arith

  -- .JHR then
  headers_then : after Jhr ≡ overwritten 8 counts (files Jhr)
  headers_then = with_file-here Jhr (overwritten 8 counts (files Jhr)) files

  -- .JLR then
  marks_then : after Jlr ≡ files Jlr
  marks_then = with_file-other Jhr Jlr (overwritten 8 counts (files Jhr)) files (λ is. absurd (omega (arith, ap file_number is)))

  -- only bytes of the fixed header are others
  torn_then : IsTornAt 8 8 files after
  torn_then =
      let room = fixed_room in
      torn-written 8 counts files (omega arith)

  -- the fixed header then
  fixed_then : fixed_in after ≡ record (fixed_in files) { counter = counter; active = active }
  fixed_then =
      let first = little_endian-back 4 counter counter_fits in
      let second = little_endian-back 4 active active_fits in
      ap (λ (l : List ℕ). fixed_header_of (bytes_at 0 1024 l)) headers_then ∙ fixed_put counts (files Jhr) refl fixed_room
      ∙ (λ i. record (fixed_in files) { counter = first i; active = second i })

  -- the files hold the area with those counts
  pub loads_counts : Loads (with_counts counter active to) after
  loads_counts = record {
    header = subst (λ (l : List ℕ). IsFixedHeader (bytes_at 0 1024 l)) (sym headers_then) (still_fixed counts (files Jhr) refl fixed_room loads.header);
    fixed = (λ i. record (loads.fixed i) { counter = counter; active = active }) ∙ sym fixed_then;
    base = loads.base;
    numbers = loads.numbers;
    index = ap length torn_then.index ∙ loads.index;
    slots = λ k d low. slot_same 8 8 files after torn_then k (slice_index_or to.slots k d)
        (λ i covers over under. omega (arith, under, behind_fixed files (entry_in files k) (slice_index_or to.slots k d) i (loads.slots k d low) covers)) (loads.slots k d low);
    apart = loads.apart;
    lastread = ap length marks_then ∙ loads.lastread;
    marks = λ k d low. loads.marks k d low ∙ ap (λ (l : List ℕ). lastread_record_of (bytes_at (16 * k) 16 l)) (sym marks_then);
    few_marks = loads.few_marks;
    headers_len = loads.headers_len ∙ sym torn_then.headers.size;
    texts_len = loads.texts_len ∙ ap length (sym torn_then.texts);
  }

-- what the change makes then
pub counts_make : (counter active : ℕ) (old new : RedoView) → counter < 2 ^ 32 → active < 2 ^ 32 → Puts Jhr 8 (number_bytes 4 counter ++ number_bytes 4 active) old new
    → ChangesArea old new (with_counts counter active)
counts_make counter active old new counter_fits active_fits puts from to text makes =
    put_makes Jhr 8 (number_bytes 4 counter ++ number_bytes 4 active) old new puts from to (with_counts counter active to) text makes
    (omega arith) (λ same. absurd (omega (arith, ap file_number same))) (omega arith) (omega arith)
    (λ files held. let room = fixed_room files to counter active held counter_fits active_fits in omega arith)
    (λ files held. loads_counts files to counter active held counter_fits active_fits)

-- no byte outside the counts is another
pub counts_only : (counter active : ℕ) (old new : RedoView) → Puts Jhr 8 (number_bytes 4 counter ++ number_bytes 4 active) old new → WritesOnly old new Jhr 8 8
counts_only counter active old new puts = put_only Jhr 8 (number_bytes 4 counter ++ number_bytes 4 active) old new puts 8 8 (omega arith) (omega arith)

-- a mark written into .JLR
module _ (files : Files) (to : Loaded) (place : ℕ) (mark : Mark) (bytes : List ℕ) (loads : Loads to files) (low : place < length to.marks) (sixteen : length bytes ≡ 16)
    (is : lastread_record_of bytes ≡ mark_record mark) where
  -- the files then
  abbrev marked : Files
  marked = written Jlr (16 * place) bytes files

  -- it lies within the file
  mark_room : 16 * place + length bytes ≤ length (files Jlr)
  mark_room =
      let size = loads.lastread in
      omega arith

  -- .JLR then
  lastread_then : marked Jlr ≡ overwritten (16 * place) bytes (files Jlr)
  lastread_then = with_file-here Jlr (overwritten (16 * place) bytes (files Jlr)) files

  -- the others are as they were
  others_then : (other : FileId) → other ≢ Jlr → marked other ≡ files other
  others_then other apart = with_file-other Jlr other (overwritten (16 * place) bytes (files Jlr)) files apart

  jhr_then : marked Jhr ≡ files Jhr
  jhr_then = others_then Jhr (λ same. absurd (omega (arith, ap file_number same)))

  jdx_then : marked Jdx ≡ files Jdx
  jdx_then = others_then Jdx (λ same. absurd (omega (arith, ap file_number same)))

  jdt_then : marked Jdt ≡ files Jdt
  jdt_then = others_then Jdt (λ same. absurd (omega (arith, ap file_number same)))

  -- nothing that slots are loaded from is another
  untorn : IsTornAt 0 0 files marked
  untorn = record {
    headers = record {
      size = ap length jhr_then;
      below = λ i under. ap (λ (l : List ℕ). slice_index l i) jhr_then;
      above = λ i past. ap (λ (l : List ℕ). slice_index l i) jhr_then;
    };
    index = jdx_then;
    texts = jdt_then;
  }

  -- the record there
  here_then : mark_record_at marked place ≡ mark_record mark
  here_then =
      ap (λ (l : List ℕ). lastread_record_of (bytes_at (16 * place) 16 l)) lastread_then
      ∙ ap lastread_record_of (bytes_inside (16 * place) bytes (files Jlr) (16 * place) 0 16 mark_room (omega arith) (omega arith) ∙ take_all 16 bytes (omega arith))
      ∙ is

  -- another
  other_then : (k : ℕ) → k ≢ place → mark_record_at marked k ≡ mark_record_at files k
  other_then k apart =
      let torn = torn-overwritten (16 * place) bytes (files Jlr) mark_room in
      let beside : (16 * k + 16 ≤ 16 * place) ⊎ (16 * place + length bytes ≤ 16 * k) = elim (cases_lt k place) [ inl before ↦ inl (omega arith) | inr behind ↦ inr (omega (arith, behind, apart)) ] in
      ap (λ (l : List ℕ). lastread_record_of (bytes_at (16 * k) 16 l)) lastread_then
      ∙ ap lastread_record_of (bytes_beside (16 * place) (length bytes) (16 * k) 16 (files Jlr) (overwritten (16 * place) bytes (files Jlr)) torn beside)

  -- each of them
  each_then : (k : ℕ) (d : Mark) → k < length (slice_set to.marks place mark) → mark_record (slice_index_or (slice_set to.marks place mark) k d) ≡ mark_record_at marked k
  each_then k d short = elim (cases_eq k place) [
    | inl same ↦ ap (λ (n : ℕ). mark_record (slice_index_or (slice_set to.marks place mark) n d)) same ∙ ap mark_record (get_or-set_same to.marks place mark d low) ∙ sym here_then ∙ ap (mark_record_at marked) (sym same)
    | inr apart ↦ ap mark_record (get_or-set_other to.marks place k mark d apart) ∙ loads.marks k d (omega (arith, short, length-set to.marks place mark)) ∙ sym (other_then k apart)
  ]

  -- the files hold the area with that mark
  pub loads_mark : Loads (with_marks (slice_set to.marks place mark) to) marked
  loads_mark =
      let count = length-set to.marks place mark in
      let few = loads.few_marks in
      record {
        header = subst (λ (l : List ℕ). IsFixedHeader (bytes_at 0 1024 l)) (sym jhr_then) loads.header;
        fixed = loads.fixed ∙ ap (λ (l : List ℕ). fixed_header_of (bytes_at 0 1024 l)) (sym jhr_then);
        base = loads.base;
        numbers = loads.numbers;
        index = ap length jdx_then ∙ loads.index;
        slots = λ k d within. slot_same 0 0 files marked untorn k (slice_index_or to.slots k d) (λ i covers over under. omega (arith, under)) (loads.slots k d within);
        apart = loads.apart;
        lastread = ap length lastread_then ∙ length-overwritten (16 * place) bytes (files Jlr) mark_room ∙ loads.lastread ∙ ap (λ (n : ℕ). 16 * n) (sym count);
        marks = each_then;
        few_marks = omega arith;
        headers_len = loads.headers_len ∙ ap length (sym jhr_then);
        texts_len = loads.texts_len ∙ ap length (sym jdt_then);
      }

-- what the change makes then
pub mark_makes : (place : ℕ) (mark : Mark) (bytes : List ℕ) (old new : RedoView) → place < MOST_MARKS → length bytes ≡ 16 → lastread_record_of bytes ≡ mark_record mark
    → Puts Jlr (16 * place) bytes old new → ChangesMark old new place mark
mark_makes place mark bytes old new few sixteen is puts from to text makes low =
    put_makes Jlr (16 * place) bytes old new puts from to (with_marks (slice_set to.marks place mark) to) text makes
    (omega arith) (λ same. absurd (omega (arith, ap file_number same))) (omega arith) (omega arith)
    (λ files held. mark_room files to place mark bytes held low sixteen is) (λ files held. loads_mark files to place mark bytes held low sixteen is)

-- no byte outside the mark is another
pub mark_only : (place : ℕ) (bytes : List ℕ) (old new : RedoView) → length bytes ≡ 16 → Puts Jlr (16 * place) bytes old new → WritesOnly old new Jlr (16 * place) 16
mark_only place bytes old new sixteen puts = put_only Jlr (16 * place) bytes old new puts (16 * place) 16 (omega arith) (omega arith)

-- files of their own lengths are themselves
same_length : (bytes : List ℕ) → of_length (length bytes) bytes ≡ bytes
same_length bytes =
    let size = length-of_length (length bytes) bytes in
    same_number_lists (of_length (length bytes) bytes) bytes size (λ k low. get-of_length (length bytes) bytes k (omega arith) (omega arith))

-- a change of nothing makes of each area the same one
pub makes_nothing : MakesNothing
makes_nothing change loaded no_lengths no_pieces =
    let nothing : (files : Files) → changed change files ≡ files = λ files.
    (λ i. applied (no_lengths i) (no_pieces i) files) ∙ same_files (applied [] [] files) files (λ file. same_length (files file)) in
    record {
      legal = λ files held. subst (λ (l : List Length). IsLegalRecord Two (sizes_of files) l change.pieces) (sym no_lengths) (subst (IsLegalRecord Two (sizes_of files) []) (sym no_pieces) (empty_legal files));
      grown = λ files held. subst (λ (l : List Length). IsGrowthCovered l change.pieces files) (sym no_lengths) (λ file i past low. absurd (omega (arith, past, low)));
      made = λ files held. record {
        loads = subst (λ (f : Files). Loads loaded f) (sym (nothing files)) held;
        texts = ap (λ (f : Files). f Jdt) (nothing files) ∙ sym (append-nil (files Jdt));
      };
    }
  where
    -- no length and no piece keep the rules
    empty_legal : (files : Files) → IsLegalRecord Two (sizes_of files) [] []
    empty_legal files = record {
      lengths_are = record { few = omega arith; each = λ k d low. absurd (omega (arith, low)); rising = λ i j d low high. absurd (omega (arith, high)) };
      pieces_are = record { many = omega arith; each = λ k d low. absurd (omega (arith, low)) };
    }
