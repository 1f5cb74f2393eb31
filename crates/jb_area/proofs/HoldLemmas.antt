-- From what the journal promises of files to what it means for the area.
use Rattle.std.proofs.Common.{◌≡◌, ◌≢◌, inl, inr, ℕ, ◌+◌, ◌^◌, ◌<◌, ◌≤◌, List, [], ◌∷◌, ◌++◌, length, take, drop, Option, ap, refl, sym, ◌∙◌, arith, length-append, length-drop, length-take}
use Rattle.std.proofs.lemmas.List.{places, same_lists}
use Rattle.std.specs.List.{flat_map}
use Rattle.jb_bytes.specs.Number.{number_bytes}
use Rattle.jb_disk.specs.RedoView.{RedoView}
use Rattle.jb_disk.specs.Files.{Files, file_number, overwritten, with_file}
use Rattle.jb_disk.specs.declared.file.FileId.{FileId}
use Rattle.jb_disk.specs.declared.file.FileId.TheVariants.{Jhr, Jdt, Jdx, Jlr, Jnl}
use Rattle.jb_journal.specs.Commit.{AgreeButJournal, IsReady, ReplaysTo, IsBeforeOrAfter, committed, journal_of}
use Rattle.jb_redo.specs.Changes.{changed, record_size}
use Rattle.jb_journal.specs.Doubt.{IsSettledAt}
use Rattle.jb_disk.specs.FileLaws.{with_file-here}
use Rattle.jb_disk.specs.declared.version.Version.TheVariants.{Two}
use Rattle.jb_state.specs.declared.loaded.Loaded.{Loaded}
use Rattle.jb_pack.specs.Shadow.{Shadow}
use Rattle.jb_redo.specs.Record.{length_bytes, piece_bytes, record_bytes, record_end}
use Rattle.jb_redo.proofs.LengthLemmas.{length-record}
use Rattle.jb_decide.specs.Coming.{BringsComing, Coming}
use Rattle.jb_decide.specs.Holds.{HoldsCopies, Holds, HoldsWith}
use Rattle.jb_decide.proofs.AgreeLemmas.{loads_agree}
use Rattle.jb_area.specs.Commits.{IsNumbered, IsRecorded}
use Rattle.jb_area.specs.Holds.{IsAtRest, Opens, OpensToEither}

-- a file with another number is another file
apart : (file : FileId) → file_number file < 4 → file ≢ Jnl
apart file low is = let same : file_number file ≡ 4 = ap file_number is in omega (arith, same)

-- the journal bears on nothing that the area holds
pub holds_agree : (files other : Files) (loaded : Loaded) (texts : List ℕ) → AgreeButJournal files other → Holds loaded texts other → Holds loaded texts files
holds_agree files other loaded texts same holds =
    let jdt = same Jdt (apart Jdt (omega arith)) in
    record {
      loads = loads_agree files other (same Jhr (apart Jhr (omega arith))) jdt (same Jdx (apart Jdx (omega arith))) (same Jlr (apart Jlr (omega arith))) loaded holds.loads;
      texts_are = jdt ∙ holds.texts_are;
    }

-- files that replay to the base open to what it holds
pub opens_to : (base files : Files) (loaded : Loaded) (texts : List ℕ) → Holds loaded texts base → ReplaysTo base files → Opens loaded texts files
opens_to base files loaded texts holds to = record {
  after = to.after;
  replays = to.replays;
  holds = holds_agree to.after base loaded texts to.same holds;
}

-- each file that a commit of the change may leave opens to one of the two
pub opens_either : (change : RedoView) (from : Loaded) (texts : List ℕ) (copies : Option Shadow) (coming : Coming) (start files : Files) → BringsComing change from texts copies coming → HoldsWith from texts copies start
    → IsBeforeOrAfter change start files → OpensToEither from texts coming files
opens_either change from texts copies coming start files brings holds (inl before) = inl (opens_to start files from texts holds.holds before)
opens_either change from texts copies coming start files brings holds (inr after) =
    inr (opens_to (changed change start) files coming.to coming.texts (brings.made start holds) after)

-- the change may be committed over files at rest
pub ready : (number : ℕ) (change : RedoView) (from : Loaded) (texts : List ℕ) (copies : Option Shadow) (coming : Coming) (files : Files) → number < 2 ^ 64 → BringsComing change from texts copies coming → IsAtRest from texts files
    → HoldsCopies copies files → IsReady number change files
ready number change from texts copies coming files numbered brings rest has = record {
  numbered = numbered;
  legal = brings.legal files (record { holds = rest.holds; has = has });
  grown = brings.grown files (record { holds = rest.holds; has = has });
  plain = rest.plain;
}

-- settled files are at rest
pub rests_settled : (base files : Files) (loaded : Loaded) (texts : List ℕ) → Holds loaded texts base → IsSettledAt base files → IsAtRest loaded texts files
rests_settled base files loaded texts holds settled = record { holds = holds_agree files base loaded texts settled.same holds; plain = settled.plain }

-- what follows the first bytes of a list
behind_first : (first rest : List ℕ) → drop (length first) (first ++ rest) ≡ rest
behind_first first rest = same_lists _ _ (grind (arith, places)) (λ k d h. grind (arith, places))

-- the first byte is none of those behind the sixteenth
behind_gate : (byte : ℕ) (bytes : List ℕ) → 16 ≤ length bytes → drop 16 (overwritten 0 (byte ∷ []) bytes) ≡ drop 16 bytes
unfolding overwritten
behind_gate byte bytes long = same_lists _ _ (grind (arith, places)) (λ k d h. grind (arith, places))

module _ (number : ℕ) (change : RedoView) (start : Files) where
  -- the files with the record behind the open gate
  abbrev recorded : Files
  recorded = with_file Jnl (journal_of number change start) (changed change start)

  -- the journal after a commit
  committed-jnl : committed number change start Jnl ≡ overwritten 0 (0 ∷ []) (journal_of number change start)
  committed-jnl = with_file-here Jnl (overwritten 0 (0 ∷ []) (recorded Jnl)) recorded
      ∙ ap (overwritten 0 (0 ∷ [])) (with_file-here Jnl (journal_of number change start) (changed change start))

  -- behind its head it is the record
  pub recorded_by : 16 ≤ length (start Jnl) → IsRecorded number change (committed number change start)
  recorded_by has =
      let bytes : List ℕ = record_bytes Two number change.lengths change.pieces in
      let head : length (take 16 (start Jnl)) ≡ 16 = omega (arith, length-take 16 (start Jnl)) in
      let long : 16 ≤ length (journal_of number change start) = omega (arith, head, length-append (take 16 (start Jnl)) bytes) in
      ap (drop 16) committed-jnl ∙ behind_gate 0 (journal_of number change start) long
      ∙ ap (λ (n : ℕ). drop n (journal_of number change start)) (sym head) ∙ behind_first (take 16 (start Jnl)) bytes

-- the record of a redo says its number
pub numbered_as : (number : ℕ) (redo : RedoView) (files : Files) → IsRecorded number redo files → IsNumbered number files
numbered_as number redo files is = record {
  behind = number_bytes 4 (length redo.lengths) ++ flat_map (length_bytes Two) redo.lengths
      ++ number_bytes 4 (length redo.pieces) ++ flat_map (piece_bytes Two) redo.pieces ++ record_end Two;
  is = is;
}

-- and with it the journal has so many bytes
pub recorded_size : (number : ℕ) (redo : RedoView) (files : Files) → 16 ≤ length (files Jnl) → IsRecorded number redo files → length (files Jnl) ≡ 16 + record_size redo
recorded_size number redo files long is =
    let behind : length (drop 16 (files Jnl)) ≡ record_size redo = ap length is ∙ length-record number redo.lengths redo.pieces ∙ sym (length-record 0 redo.lengths redo.pieces) in
    omega (arith, long, behind, length-drop 16 (files Jnl))

-- files at rest open as they are
pub rest_opens : (loaded : Loaded) (texts : List ℕ) (files : Files) → IsAtRest loaded texts files → Opens loaded texts files
rest_opens loaded texts files rest = record {
  after = files;
  replays = inl ((λ gate. rest.plain.shut gate.gate), refl);
  holds = rest.holds;
}
