-- Files with the gate open before a change's record, and files on their way from them.
use Rattle.std.proofs.Common.{◌≡◌, inl, inr, zero, suc, ℕ, ◌≤◌, List, [], ◌∷◌, length, refl, ap, sym, ◌∙◌, subst, arith}
use Rattle.jb_disk.specs.declared.version.Version.TheVariants.{Two}
use Rattle.std.specs.Prelude.{slice_index}
use Rattle.std.proofs.lemmas.Bool.{cases_eq}
use Rattle.std.proofs.lemmas.List.{same_lists, get_or_default}
use Rattle.jb_disk.specs.declared.file.FileId.{FileId}
use Rattle.jb_disk.specs.declared.file.FileId.TheVariants.{Jnl}
use Rattle.jb_disk.specs.RedoView.{RedoView}
use Rattle.jb_disk.specs.Files.{Files, file_number, overwritten, written}
use Rattle.jb_disk.specs.FileLaws.{same_file, same_files, with_file-here, with_file-other, length-overwritten}
use Rattle.jb_disk.specs.ImageLaws.{get-behind}
use Rattle.jb_disk.specs.declared.version.Version.{Version}
use Rattle.jb_disk.specs.Gate.{IsGateOpen, IsShut, version_by, version_of, version_number}
use Rattle.jb_redo.specs.Replay.{spans_in}
use Rattle.jb_redo.specs.Rules.{sizes_of, new_sizes, IsLegalRecord}
use Rattle.jb_redo.proofs.SpanLemmas.{spans_within}
use Rattle.jb_redo.proofs.WayLemmas.{way_kept, way_legal, way_replays, replays_to_applied}
use Rattle.jb_journal.specs.Commit.{AgreeButJournal, ReplaysTo}
use Rattle.jb_redo.specs.Changes.{changed}
use Rattle.jb_journal.specs.Stages.{IsAtGate, IsOpened, IsGoing, IsClosing, closed}
use Rattle.jb_journal.proofs.Patching.{between_patched_end, first_written}

-- the journal is number 4
journal_high : 4 ≤ file_number Jnl
journal_high = omega arith

-- with a closed gate, files stand for themselves
pub shut_replays : (base files : Files) → (IsGateOpen files → ⊥) → AgreeButJournal files base → ReplaysTo base files
shut_replays base files shut same = record { after = files; replays = inl (shut, refl); same = same }

-- a gate byte that is not that of the version
pub not_one : (files : Files) → IsShut files → IsGateOpen files → ⊥
not_one files other is_open = other is_open.gate

-- two journals that agree behind the gate, and at it
pub same_journal : (one other : List ℕ) → length one ≡ length other → slice_index one 0 ≡ slice_index other 0 → ((i : ℕ) → 1 ≤ i → slice_index one i ≡ slice_index other i) → one ≡ other
same_journal one other size first behind = same_lists one other size (λ k d low. get_or_default one k d 0 low ∙ each k ∙ get_or_default other k 0 d (omega (arith, size)))
  where
    each : (k : ℕ) → slice_index one k ≡ slice_index other k
    each zero = first
    each (suc k) = behind (suc k) (omega arith)

-- all but the gate is the same
pub at_gate_refl : (files : Files) → IsAtGate files files
at_gate_refl files = record { same = λ file ne. refl; size = refl; behind = λ i high. refl }

-- a gate that is written
pub at_gate_written : (byte : ℕ) (base files : Files) → 1 ≤ length (base Jnl) → IsAtGate base files → IsAtGate (written Jnl 0 (byte ∷ []) base) files
at_gate_written byte base files some at =
    let is : written Jnl 0 (byte ∷ []) base Jnl ≡ overwritten 0 (byte ∷ []) (base Jnl) = with_file-here Jnl (overwritten 0 (byte ∷ []) (base Jnl)) base in
    record {
      same = λ file ne. at.same file ne ∙ sym (with_file-other Jnl file (overwritten 0 (byte ∷ []) (base Jnl)) base ne);
      size = at.size ∙ sym (ap length is ∙ length-overwritten 0 (byte ∷ []) (base Jnl) some);
      behind = λ i high. at.behind i high ∙ sym (ap (λ (l : List ℕ). slice_index l i) is ∙ get-behind 0 (byte ∷ []) (base Jnl) some i high);
    }

module _ (change : RedoView) (from : Files) (is : IsOpened change from) where
  -- the journal is as it was
  pub going_journal : (files : Files) → IsGoing change from files → files Jnl ≡ from Jnl
  going_journal files way = way_kept change.lengths change.pieces from is.has.legal files way Jnl journal_high

  -- files on their way replay to the change
  pub going_replays : (files : Files) → IsGoing change from files → ReplaysTo (changed change from) files
  going_replays files way = record {
    after = closed change from;
    replays = way_replays change.lengths change.pieces from files (closed change from) is.gate is.has is.grown way (replays_to_applied change.lengths change.pieces from is.gate is.has);
    same = λ file ne. with_file-other Jnl file _ (changed change from) ne;
  }

  -- the change done is on the way
  pub way_done : IsGoing change from (changed change from)
  way_done file = between_patched_end (new_sizes change.lengths (sizes_of from) file) (spans_in from change.pieces file) (from file)
      (spans_within (version_of from) from (new_sizes change.lengths (sizes_of from)) change.pieces file is.has.legal.pieces_are.each)

  -- so the journal is as it was
  pub done_journal : changed change from Jnl ≡ from Jnl
  done_journal = going_journal (changed change from) way_done

  -- and has a first byte
  pub done_some : 1 ≤ length (changed change from Jnl)
  done_some = let longer = is.gate.longer in omega (arith, ap length done_journal)

  -- its gate is still the one of its version
  done_gate : slice_index (changed change from Jnl) 0 ≡ version_number (version_of (changed change from))
  done_gate = subst (λ (l : List ℕ). slice_index l 0 ≡ version_number (version_by (slice_index l 1))) (sym done_journal) is.gate.gate

  -- the gate that is being closed, still open
  pub gate_still_open : (files : Files) → IsAtGate (changed change from) files → slice_index (files Jnl) 0 ≡ version_number (version_of files) → files ≡ changed change from
  gate_still_open files at one = same_files files (changed change from) (λ file. elim (same_file file Jnl) [
    | inl same ↦ subst (λ (f : FileId). files f ≡ changed change from f) (sym same)
        (same_journal (files Jnl) (changed change from Jnl) at.size (one ∙ ap (λ b. version_number (version_by b)) (at.behind 1 (omega arith)) ∙ sym done_gate) at.behind)
    | inr other ↦ at.same file other
  ])

  -- in either case they replay to the change
  pub closing_gate_replays : (files : Files) → IsAtGate (changed change from) files → ReplaysTo (changed change from) files
  closing_gate_replays files at = elim (cases_eq (slice_index (files Jnl) 0) (version_number (version_of files))) [
    | inl one ↦ subst (ReplaysTo (changed change from)) (sym (gate_still_open files at one)) (going_replays (changed change from) way_done)
    | inr other ↦ shut_replays (changed change from) files (not_one files other) at.same
  ]

  -- a gate being closed, as seen from the end
  pub at_gate_back : (files : Files) → IsAtGate (closed change from) files → IsAtGate (changed change from) files
  at_gate_back files at =
      let base = changed change from in
      let jnl : closed change from Jnl ≡ overwritten 0 (0 ∷ []) (base Jnl) = with_file-here Jnl (overwritten 0 (0 ∷ []) (base Jnl)) base in
      record {
        same = λ file ne. at.same file ne ∙ with_file-other Jnl file (overwritten 0 (0 ∷ []) (base Jnl)) base ne;
        size = at.size ∙ ap length jnl ∙ length-overwritten 0 (0 ∷ []) (base Jnl) done_some;
        behind = λ i high. at.behind i high ∙ ap (λ (l : List ℕ). slice_index l i) jnl ∙ get-behind 0 (0 ∷ []) (base Jnl) done_some i high;
      }

  -- files in the last stage replay to the change
  pub closing_replays : (files : Files) → IsClosing change from files → ReplaysTo (changed change from) files
  closing_replays files (inl way) = going_replays files way
  closing_replays files (inr at) = closing_gate_replays files (at_gate_back files at)

  -- with the gate open they are still on the way
  pub closing_going : (files : Files) → IsClosing change from files → slice_index (files Jnl) 0 ≡ version_number (version_of files) → IsGoing change from files
  closing_going files (inl way) one = way
  closing_going files (inr at) one = subst (IsGoing change from) (sym (gate_still_open files (at_gate_back files at) one)) way_done

  -- the length of the journal at the end
  pub length-closed : length (closed change from Jnl) ≡ length (from Jnl)
  length-closed =
      ap length (with_file-here Jnl (overwritten 0 (0 ∷ []) (changed change from Jnl)) (changed change from))
      ∙ length-overwritten 0 (0 ∷ []) (changed change from Jnl) done_some ∙ ap length done_journal

  -- its gate
  pub gate-closed : slice_index (closed change from Jnl) 0 ≡ 0
  gate-closed =
      ap (λ (l : List ℕ). slice_index l 0) (with_file-here Jnl (overwritten 0 (0 ∷ []) (changed change from Jnl)) (changed change from))
      ∙ first_written 0 (changed change from Jnl) done_some

  -- but for the journal the end is the change
  pub closed-agrees : AgreeButJournal (closed change from) (changed change from)
  closed-agrees file ne = with_file-other Jnl file _ (changed change from) ne

  -- files at the gate whose journal is that of the end
  pub closed_from : (files : Files) → IsAtGate (changed change from) files → files Jnl ≡ closed change from Jnl → files ≡ closed change from
  closed_from files at jnl = same_files files (closed change from) (λ file. elim (same_file file Jnl) [
    | inl same ↦ subst (λ (f : FileId). files f ≡ closed change from f) (sym same) jnl
    | inr other ↦ at.same file other ∙ sym (closed-agrees file other)
  ])

-- in a journal of the second version
module _ (change : RedoView) (from : Files) (is : IsOpened change from) (two : version_of from ≡ Two) where
  -- the record keeps the rules of the second version
  pub legal_two : IsLegalRecord Two (sizes_of from) change.lengths change.pieces
  legal_two = subst (λ (v : Version). IsLegalRecord v (sizes_of from) change.lengths change.pieces) two is.has.legal

  -- so it does over files on their way
  pub going_legal : (files : Files) → IsGoing change from files → IsLegalRecord Two (sizes_of files) change.lengths change.pieces
  going_legal files way = way_legal change.lengths change.pieces from legal_two files way

  -- the end has this version too
  pub version-closed : version_of (closed change from) ≡ Two
  version-closed =
      ap version_by (
      ap (λ (l : List ℕ). slice_index l 1) (with_file-here Jnl (overwritten 0 (0 ∷ []) (changed change from Jnl)) (changed change from))
      ∙ get-behind 0 (0 ∷ []) (changed change from Jnl) (done_some change from is) 1 (omega arith)
      ∙ ap (λ (l : List ℕ). slice_index l 1) (done_journal change from is)
      ) ∙ two
