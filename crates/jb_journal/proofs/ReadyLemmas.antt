-- A commit's change, from the files at its start.
use Rattle.std.proofs.Common.{◌≡◌, ◌≢◌, ◌⊎◌, inl, inr, ℕ, ◌+◌, ◌<◌, ◌≤◌, List, [], ◌∷◌, ◌++◌, length, take, drop, get_or, ap, sym, ◌∙◌, subst, arith, length-append, length-take}
use Rattle.jb_disk.specs.declared.version.Version.TheVariants.{Two}
use Rattle.std.specs.Prelude.{slice_index}
use Rattle.std.proofs.lemmas.Bool.{cases_eq, cases_lt}
use Rattle.std.proofs.lemmas.List.{same_lists, places, append-nil, get_or_default}
use Rattle.jb_disk.specs.declared.file.FileId.{FileId}
use Rattle.jb_disk.specs.declared.file.FileId.TheVariants.{Jnl, Ndt}
use Rattle.jb_disk.specs.declared.piece.Piece.{Piece}
use Rattle.jb_disk.specs.declared.piece.Piece.TheVariants.{Bytes, Copy}
use Rattle.jb_disk.specs.RedoView.{RedoView}
use Rattle.jb_disk.specs.Files.{Files, file_number, with_file, overwritten}
use Rattle.jb_disk.specs.FileLaws.{same_file, same_files, with_file-here, with_file-other, length-overwritten}
use Rattle.jb_disk.specs.ImageLaws.{get-behind}
use Rattle.jb_disk.specs.Memory.{of_length}
use Rattle.jb_disk.specs.Steps.{Span, IsCovered, patched}
use Rattle.jb_disk.specs.declared.version.Version.{Version}
use Rattle.jb_disk.specs.Gate.{IsGateOpen, IsShut, version_by, version_of, version_number}
use Rattle.jb_redo.specs.Record.{record_bytes}
use Rattle.jb_redo.specs.Reading.{BeginsWith, record_part}
use Rattle.jb_redo.specs.Replay.{spans_in, IsGrowthCovered}
use Rattle.jb_redo.specs.Rules.{sizes_of, new_sizes, IsChangeNumber, IsLegalPiece, IsLegalRecord}
use Rattle.jb_redo.proofs.SizeLemmas.{not_given}
use Rattle.jb_redo.proofs.SpanLemmas.{spans_same}
use Rattle.jb_redo.proofs.WayLemmas.{way_start}
use Rattle.jb_journal.specs.Commit.{AgreeButJournal, IsReady, ReplaysTo, IsBeforeOrAfter, journal_of, committed}
use Rattle.jb_redo.specs.Changes.{changed}
use Rattle.jb_journal.specs.Doubt.{IsEarly}
use Rattle.jb_journal.specs.Stages.{KeepsHead, IsAtGate, IsOpened, IsGoing, closed, with_record, opened}
use Rattle.jb_journal.proofs.SettingLemmas.{sizes_agree}
use Rattle.jb_journal.proofs.Patching.{first_written, written_over}
use Rattle.jb_journal.proofs.OpenedLemmas.{shut_replays, same_journal, going_replays, done_journal}
use Rattle.jb_redo.proofs.LengthLemmas.{length-record}

-- what follows the first bytes of a list
behind_first : (first rest : List ℕ) → drop (length first) (first ++ rest) ≡ rest
behind_first first rest = same_lists _ _ (grind (arith, places)) (λ k d h. grind (arith, places))

-- two lists that are the same from a place on
pub drop_same : (n : ℕ) (one other : List ℕ) → length one ≡ length other → ((i : ℕ) → n ≤ i → slice_index one i ≡ slice_index other i) → drop n one ≡ drop n other
drop_same n one other size same = same_lists _ _ (grind (arith, places, size)) (λ k d low.
    let inside : n + k < length one = grind (arith, places) in
    let a : get_or (drop n one) k d ≡ get_or one (n + k) d = grind (arith, places) in
    let b : get_or (drop n other) k d ≡ get_or other (n + k) d = grind (arith, places) in
    a ∙ get_or_default one (n + k) d 0 inside ∙ same (n + k) (omega arith) ∙ get_or_default other (n + k) 0 d (omega (arith, size)) ∙ sym b)

-- the journal is no file of the base, and not the shadow
shadow_apart : Ndt ≢ Jnl
shadow_apart is = let same : 5 ≡ 4 = ap file_number is in omega (arith, same)

-- files of the base are not the journal
base_apart : (file : FileId) → file_number file < 4 → file ≢ Jnl
base_apart file low is = let same : file_number file ≡ 4 = ap file_number is in omega (arith, same)

module _ (number : ℕ) (change : RedoView) (start : Files) (ready : IsReady number change start) where
  -- the journal with the record
  pub recorded-jnl : with_record number change start Jnl ≡ journal_of number change start
  recorded-jnl = with_file-here Jnl (journal_of number change start) start

  -- its head
  length-head : length (take 16 (start Jnl)) ≡ 16
  length-head = let long = ready.plain.long in omega (arith, length-take 16 (start Jnl))

  -- its length
  pub length-recorded : length (with_record number change start Jnl) ≡ 16 + length (record_bytes Two number change.lengths change.pieces)
  length-recorded = ap length recorded-jnl ∙ length-append (take 16 (start Jnl)) (record_bytes Two number change.lengths change.pieces) ∙ omega (arith, length-head)

  -- it has more than its head
  pub recorded-longer : 16 < length (with_record number change start Jnl)
  recorded-longer = omega (arith, length-recorded, length-record number change.lengths change.pieces)

  -- it has a first byte
  recorded-some : 0 + 1 ≤ length (with_record number change start Jnl)
  recorded-some = omega (arith, recorded-longer)

  -- the opened journal
  pub opened-jnl : opened number change start Jnl ≡ overwritten 0 (2 ∷ []) (with_record number change start Jnl)
  opened-jnl = with_file-here Jnl (overwritten 0 (2 ∷ []) (with_record number change start Jnl)) (with_record number change start)

  -- its length
  pub length-opened : length (opened number change start Jnl) ≡ length (with_record number change start Jnl)
  length-opened = ap length opened-jnl ∙ length-overwritten 0 (2 ∷ []) (with_record number change start Jnl) recorded-some

  -- its gate
  pub gate-opened : slice_index (opened number change start Jnl) 0 ≡ 2
  gate-opened = ap (λ (l : List ℕ). slice_index l 0) opened-jnl ∙ first_written 2 (with_record number change start Jnl) recorded-some

  -- what stands behind it
  pub behind-opened : (i : ℕ) → 1 ≤ i → slice_index (opened number change start Jnl) i ≡ slice_index (with_record number change start Jnl) i
  behind-opened i high = ap (λ (l : List ℕ). slice_index l i) opened-jnl ∙ get-behind 0 (2 ∷ []) (with_record number change start Jnl) recorded-some i high

  -- the second byte is as it was
  pub second-recorded : slice_index (with_record number change start Jnl) 1 ≡ slice_index (start Jnl) 1
  second-recorded =
      let long = ready.plain.long in
      ap (λ (l : List ℕ). slice_index l 1) recorded-jnl ∙ grind (arith, places)

  -- so the version is the second
  pub version-recorded : version_of (with_record number change start) ≡ Two
  version-recorded = ap version_by second-recorded ∙ ready.plain.two

  -- and with the gate open
  pub version-opened : version_of (opened number change start) ≡ Two
  version-opened = ap version_by (behind-opened 1 (omega arith)) ∙ version-recorded

  -- the other files are as at the start
  pub recorded-agrees : AgreeButJournal (with_record number change start) start
  recorded-agrees file ne = with_file-other Jnl file _ start ne

  -- so they are with the gate open
  pub opened-agrees : AgreeButJournal (opened number change start) start
  opened-agrees file ne = with_file-other Jnl file _ (with_record number change start) ne ∙ recorded-agrees file ne

  -- the record behind the head
  opened-record : record_part (opened number change start) ≡ record_bytes Two number change.lengths change.pieces
  opened-record =
      drop_same 16 (opened number change start Jnl) (with_record number change start Jnl) length-opened (λ i high. behind-opened i (omega arith))
      ∙ ap (drop 16) recorded-jnl
      ∙ ap (λ (n : ℕ). drop n (journal_of number change start)) (sym length-head)
      ∙ behind_first (take 16 (start Jnl)) (record_bytes Two number change.lengths change.pieces)

  -- a file of the base is to have the same length
  ends_agree : (file : FileId) → file ≢ Jnl → new_sizes change.lengths (sizes_of (opened number change start)) file ≡ new_sizes change.lengths (sizes_of start) file
  ends_agree file ne = sizes_agree change.lengths (sizes_of (opened number change start)) (sizes_of start) file (ap length (opened-agrees file ne))

  -- a piece keeps the rules
  piece_agrees : (piece : Piece) → IsLegalPiece Two (sizes_of start) (new_sizes change.lengths (sizes_of start)) piece
      → IsLegalPiece Two (sizes_of (opened number change start)) (new_sizes change.lengths (sizes_of (opened number change start))) piece
  piece_agrees (Bytes file at bytes) is =
      let within = is.within in
      record { of_base = is.of_base; place = is.place; size = is.size; within = omega (arith, ends_agree file (base_apart file is.of_base)) }
  piece_agrees (Copy from from_at to to_at len) is =
      let inside = is.inside in
      let within = is.within in
      let texts : to ≢ Jnl = base_apart to (omega (arith, ap file_number is.texts)) in
      let shadow : from ≢ Jnl = λ same. shadow_apart (sym is.shadow ∙ same) in
      record {
        shadow = is.shadow;
        texts = is.texts;
        place = is.place;
        source = is.source;
        size = is.size;
        inside = omega (arith, ap length (opened-agrees from shadow));
        within = omega (arith, ends_agree to texts);
      }

  -- so does the record
  opened_legal : IsLegalRecord Two (sizes_of (opened number change start)) change.lengths change.pieces
  opened_legal = record {
    lengths_are = ready.legal.lengths_are;
    pieces_are = record { many = ready.legal.pieces_are.many; each = λ k d low. piece_agrees _ (ready.legal.pieces_are.each k d low) };
  }

  -- the same is written into each file
  spans_agree : (file : FileId) → spans_in (opened number change start) change.pieces file ≡ spans_in start change.pieces file
  spans_agree file = spans_same Two (sizes_of start) (new_sizes change.lengths (sizes_of start)) (opened number change start) start change.pieces file ready.legal.pieces_are.each (opened-agrees Ndt shadow_apart)

  -- each byte past an old end is written
  opened_grown : IsGrowthCovered change.lengths change.pieces (opened number change start)
  opened_grown file i over under = elim (same_file file Jnl) [
    | inl same ↦
        let four : file_number file ≡ 4 = ap file_number same in
        let stays = not_given change.lengths (sizes_of (opened number change start)) file ready.legal.lengths_are.each (omega (arith, four)) in
        absurd (omega (arith, over, under, stays))
    | inr other ↦
        let size = ap length (opened-agrees file other) in
        subst (λ (l : List Span). IsCovered l i) (sym (spans_agree file)) (ready.grown file i (omega (arith, over, size)) (omega (arith, under, ends_agree file other)))
  ]

  -- the gate stands open before the record
  pub opened_is : IsOpened change (opened number change start)
  opened_is = record {
    gate = record { longer = omega (arith, length-opened, recorded-longer); gate = gate-opened ∙ sym (ap version_number version-opened) };
    has = record {
      change = number;
      numbered = subst (λ (v : Version). IsChangeNumber v number) (sym version-opened) ready.numbered;
      legal = subst (λ (v : Version). IsLegalRecord v (sizes_of (opened number change start)) change.lengths change.pieces) (sym version-opened) opened_legal;
      begins = subst (λ (v : Version). BeginsWith (record_part (opened number change start)) (record_bytes v number change.lengths change.pieces)) (sym version-opened)
          (record { behind = []; is = opened-record ∙ sym (append-nil (record_bytes Two number change.lengths change.pieces)) });
    };
    grown = opened_grown;
  }

  -- the change makes the same of both
  pub changed-agrees : AgreeButJournal (changed change (opened number change start)) (changed change start)
  changed-agrees file ne = λ i. patched (spans_agree file i) (of_length (ends_agree file ne i) (opened-agrees file ne i))

  -- what replays to the one replays to the other
  pub from_opened : (files : Files) → ReplaysTo (changed change (opened number change start)) files → ReplaysTo (changed change start) files
  from_opened files replays = record { after = replays.after; replays = replays.replays; same = λ file ne. replays.same file ne ∙ changed-agrees file ne }

  -- the end of a commit
  pub closed-committed : closed change (opened number change start) ≡ committed number change start
  closed-committed = same_files _ _ (λ file. elim (same_file file Jnl) [
    | inl same ↦ subst (λ (f : FileId). closed change (opened number change start) f ≡ committed number change start f) (sym same)
        (with_file-here Jnl (overwritten 0 (0 ∷ []) (changed change (opened number change start) Jnl)) (changed change (opened number change start))
        ∙ ap (overwritten 0 (0 ∷ [])) (done_journal change (opened number change start) opened_is ∙ opened-jnl)
        ∙ written_over 2 0 (with_record number change start Jnl) recorded-some
        ∙ ap (overwritten 0 (0 ∷ [])) (recorded-jnl ∙ sym (with_file-here Jnl (journal_of number change start) (changed change start)))
        ∙ sym (with_file-here Jnl (overwritten 0 (0 ∷ []) (with_file Jnl (journal_of number change start) (changed change start) Jnl)) (with_file Jnl (journal_of number change start) (changed change start))))
    | inr other ↦
        with_file-other Jnl file (overwritten 0 (0 ∷ []) (changed change (opened number change start) Jnl)) (changed change (opened number change start)) other
        ∙ changed-agrees file other
        ∙ sym (with_file-other Jnl file (journal_of number change start) (changed change start) other)
        ∙ sym (with_file-other Jnl file (overwritten 0 (0 ∷ []) (with_file Jnl (journal_of number change start) (changed change start) Jnl)) (with_file Jnl (journal_of number change start) (changed change start)) other)
  ])

  -- but for the journal it is the change
  pub committed-agrees : AgreeButJournal (committed number change start) (changed change start)
  committed-agrees file ne =
      with_file-other Jnl file _ (with_file Jnl (journal_of number change start) (changed change start)) ne ∙ with_file-other Jnl file (journal_of number change start) (changed change start) ne

  -- while the record is written the gate is closed
  pub untouched_shut : (files : Files) → KeepsHead start files → IsShut files
  untouched_shut files untouched one = ready.plain.shut (sym (untouched.head 0 (omega arith)) ∙ one ∙ ap (λ b. version_number (version_by b)) (untouched.head 1 (omega arith)))

  -- that is an early stop
  pub untouched_early : (files : Files) → KeepsHead start files → IsEarly number change start files
  untouched_early files untouched = record { same = untouched.same; gate = λ is_open. absurd (untouched_shut files untouched is_open.gate) }

  -- and so is the gate being opened
  pub at_gate_early : (files : Files) → IsAtGate (with_record number change start) files → IsEarly number change start files
  at_gate_early files at = record {
    same = λ file ne. at.same file ne ∙ recorded-agrees file ne;
    gate = λ is_open. same_journal (files Jnl) (opened number change start Jnl) (at.size ∙ sym length-opened) (is_open.gate ∙ ap version_number (ap version_by (at.behind 1 (omega arith)) ∙ version-recorded) ∙ sym gate-opened) (λ i high. at.behind i high ∙ sym (behind-opened i high));
  }

  -- an early stop with the gate open is the opened files
  pub early_opened : (files : Files) → IsEarly number change start files → IsGateOpen files → files ≡ opened number change start
  early_opened files early is_open = same_files files (opened number change start) (λ file. elim (same_file file Jnl) [
    | inl same ↦ subst (λ (f : FileId). files f ≡ opened number change start f) (sym same) (early.gate is_open)
    | inr other ↦ early.same file other ∙ sym (opened-agrees file other)
  ])

  -- which are on the way
  pub opened_going : IsGoing change (opened number change start) (opened number change start)
  opened_going = way_start change.lengths change.pieces (opened number change start)

  -- an early stop leaves files before the change or after it
  pub early_replays : (files : Files) (is_open : (IsGateOpen files) ⊎ (IsGateOpen files → ⊥)) → IsEarly number change start files → IsBeforeOrAfter change start files
  early_replays files (inl is_open) early = inr (from_opened files (going_replays change (opened number change start) opened_is files (subst (IsGoing change (opened number change start)) (sym (early_opened files early is_open)) opened_going)))
  early_replays files (inr shut) early = inl (shut_replays start files shut early.same)

-- the gate is open or not
pub gate_or_not : (files : Files) → IsGateOpen files ⊎ (IsGateOpen files → ⊥)
gate_or_not files = elim (cases_lt 16 (length (files Jnl))) [
  | inl longer ↦ elim (cases_eq (slice_index (files Jnl) 0) (version_number (version_of files))) [
    | inl one ↦ inl (record { longer = longer; gate = one })
    | inr other ↦ inr (λ is_open. other is_open.gate)
  ]
  | inr short ↦ inr (λ is_open. let longer = is_open.longer in omega arith)
]
