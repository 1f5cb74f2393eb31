-- A record is done again, and what a crash leaves meanwhile.
use Rattle.std.proofs.Common.{◌≡◌, ◌⊎◌, inl, inr, ℕ, ◌<◌, ◌≤◌, List, [], ◌∷◌, length, refl, ap, sym, ◌∙◌, subst, arith, Option, Some, None}
use Rattle.std.specs.Prelude.{slice_index, IsSome}
use Rattle.std.specs.Option.{ForSome}
use Rattle.jb_disk.specs.declared.file.FileId.{FileId}
use Rattle.jb_disk.specs.declared.file.FileId.TheVariants.{Jhr, Jdt, Jdx, Jlr, Jnl, Ndt}
use Rattle.jb_disk.specs.declared.piece.Length.{Length}
use Rattle.jb_disk.specs.declared.piece.Piece.{Piece}
use Rattle.jb_disk.specs.RedoView.{RedoView}
use Rattle.jb_disk.specs.Files.{Files, file_number, overwritten}
use Rattle.jb_disk.specs.FileLaws.{same_file, same_files, with_file-here, with_file-other}
use Rattle.jb_disk.specs.Images.{Images}
use Rattle.jb_disk.specs.Device.{Device, TellsAnImage}
use Rattle.jb_disk.specs.Runs.{LeavesNow, Shows, Keeps, IsAllSynced}
use Rattle.jb_disk.specs.declared.version.Version.{Version}
use Rattle.jb_disk.specs.declared.version.Version.TheVariants.{One, Two}
use Rattle.jb_disk.specs.Gate.{IsGateOpen, version_by, version_of, version_number, with_gate_closed}
use Rattle.jb_redo.specs.OnTheWay.{IsOnTheWay}
use Rattle.jb_redo.specs.Reading.{IsRecordOf}
use Rattle.jb_redo.proofs.WayLemmas.{way_start, way_kept, way_replays, replays_to_applied, one_replay}
use Rattle.jb_journal.specs.Filing.{AgreeBelow}
use Rattle.jb_journal.specs.Commit.{ReplaysTo}
use Rattle.jb_redo.specs.Changes.{changed}
use Rattle.jb_journal.specs.Recover.{IsGrowthSafe, ReplaysAs, MightBe, ReplaysAsAtStart}
use Rattle.jb_journal.specs.Stages.{IsAtGate, IsOpened, closed}
use Rattle.jb_journal.proofs.SyncLemmas.{shows_map}
use Rattle.jb_journal.proofs.OpenedLemmas.{at_gate_refl, way_done, closed-agrees}
use Rattle.jb_journal.proofs.Patching.{first_written}
use Rattle.jb_disk.proofs.FileLemmas.{leaves_both, leaves_map, only_told}

-- all six files
pub six_files : (final left : Files) → AgreeBelow 4 final left → left Jnl ≡ final Jnl → left Ndt ≡ final Ndt → left ≡ final
six_files final left below journal shadow = same_files left final by_file
  where
    by_file : (file : FileId) → left file ≡ final file
    by_file Jhr = below Jhr (omega arith)
    by_file Jdt = below Jdt (omega arith)
    by_file Jdx = below Jdx (omega arith)
    by_file Jlr = below Jlr (omega arith)
    by_file Jnl = journal
    by_file Ndt = shadow

-- what is read and left at the start might be left then
pub shows_first : (device : Device) → TellsAnImage device → Shows (MightBe device.moments) device
shows_first device tells = by_moments device.moments refl
  where
    by_moments : (moments : List Images) → device.moments ≡ moments → Shows (MightBe moments) device
    by_moments [] none = record { read = λ files there. tt; left = subst (LeavesNow (MightBe [])) (sym none) tt }
    by_moments (now ∷ earlier) some = record {
      read = λ files there. tells.read files now earlier there some;
      left = subst (LeavesNow (MightBe (now ∷ earlier))) (sym some) (λ files image. image);
    }

-- files that might be left at the start replay as themselves
pub might_as : (first : List Images) (files : Files) → MightBe first files → ReplaysAsAtStart first files
might_as first files might = record { was = files; might = might; same = λ base. (λ replays. replays, λ replays. replays) }

-- the same files replay as themselves
pub same_as : (was files : Files) → files ≡ was → ReplaysAs was files
same_as was files same = subst (ReplaysAs was) (sym same) (λ base. (λ replays. replays, λ replays. replays))

-- what is told is there
pub told_there : (o : Option Files) (files : Files) → o ≡ Some files → IsSome o
told_there o files there = subst IsSome (sym there) refl

-- what is told is what is told
pub one_told : (o : Option Files) (one other : Files) → o ≡ Some one → o ≡ Some other → one ≡ other
one_told o one other first second = some_same (sym first ∙ second)
  where
    some_same : {a b : Files} → Some a ≡ Some b → a ≡ b
    some_same is = cc

-- a disk that told nothing, or one that told its files
pub silent_or_told : (contents : Option Files) → (contents ≡ None) ⊎ ((files : Files) × (contents ≡ Some files))
silent_or_told None = inl refl
silent_or_told (Some files) = inr (files, refl)

-- what is told still
pub told_now : (contents : Option Files) → IsSome contents → (files : Files) × (contents ≡ Some files)
told_now None some = absurd (cc)
told_now (Some files) some = (files, refl)

-- a disk that tells nothing shows no files
pub none_told : (P : Files → Type 0) (contents : Option Files) → contents ≡ None → ForSome contents P
none_told P contents none = λ files there. absurd (never files (sym none ∙ there))
  where
    never : (files : Files) → None ≡ Some files → ⊥
    never files is = cc

-- an open gate has a byte
open_some : (files : Files) → IsGateOpen files → 1 ≤ length (files Jnl)
open_some files gate = let longer = gate.longer in omega arith

-- a gate that was closed is so
pub gate_shut : (files : Files) → IsGateOpen files → IsGateOpen (with_gate_closed files) → ⊥
gate_shut files gate is_open =
    let zero : slice_index (with_gate_closed files Jnl) 0 ≡ 0 =
    ap (λ (l : List ℕ). slice_index l 0) (with_file-here Jnl (overwritten 0 (0 ∷ []) (files Jnl)) files) ∙ first_written 0 (files Jnl) (open_some files gate) in
    not_zero (version_of (with_gate_closed files)) (sym zero ∙ is_open.gate)
  where
    not_zero : (version : Version) → 0 ≡ version_number version → ⊥
    not_zero One is = omega (arith, is)
    not_zero Two is = omega (arith, is)

-- once the closed gate is synced, all is
pub gate_synced : (device : Device) (files : Files) → device.contents ≡ Some (with_gate_closed files) → Shows (IsAtGate files) device → LeavesNow (λ left. left Jnl ≡ with_gate_closed files Jnl) device.moments → IsAllSynced device
gate_synced device files there at durable = λ final is.
    let same : with_gate_closed files ≡ final = one_told device.contents (with_gate_closed files) final there is in
    leaves_both (IsAtGate files) (λ left. left Jnl ≡ with_gate_closed files Jnl) (λ left. left ≡ final) device.moments
    (λ left gate_is jnl. same_files left (with_gate_closed files) (each left gate_is jnl) ∙ same) at.left durable
  where
    each : (left : Files) → IsAtGate files left → left Jnl ≡ with_gate_closed files Jnl → (file : FileId) → left file ≡ with_gate_closed files file
    each left gate_is jnl file = elim (same_file file Jnl) [
      | inl is ↦ subst (λ (f : FileId). left f ≡ with_gate_closed files f) (sym is) jnl
      | inr other ↦ gate_is.same file other ∙ sym (with_file-other Jnl file (overwritten 0 (0 ∷ []) (files Jnl)) files other)
    ]

module _ (was : Files) (lengths : List Length) (pieces : List Piece) (has : IsRecordOf was lengths pieces) (gate : IsGateOpen was) where
  -- the files at the start are on their way
  pub shows_way : (device : Device) → device.contents ≡ Some was → IsAllSynced device → Shows (IsOnTheWay lengths pieces was) device
  shows_way device there synced = record {
    read = only_told device.contents was (IsOnTheWay lengths pieces was) there (way_start lengths pieces was);
    left = leaves_map (λ left. left ≡ was) (IsOnTheWay lengths pieces was) device.moments (λ left same. subst (IsOnTheWay lengths pieces was) (sym same) (way_start lengths pieces was)) (synced was there);
  }

  -- the journal and the shadow of the texts are as they were
  way_high : (files : Files) → IsOnTheWay lengths pieces was files → (file : FileId) → 4 ≤ file_number file → files file ≡ was file
  way_high files way file high = way_kept lengths pieces was has.legal files way file high

  -- so the gate is still open
  pub way_open : (files : Files) → IsOnTheWay lengths pieces was files → IsGateOpen files
  way_open files way =
      let same = way_high files way Jnl (omega arith) in
      record { longer = subst (λ (l : List ℕ). 16 < length l) (sym same) gate.longer; gate = subst (λ (l : List ℕ). slice_index l 0 ≡ version_number (version_by (slice_index l 1))) (sym same) gate.gate }

  -- the files of the base are synced, and the others were: a crash leaves what is read
  pub shows_now : (device : Device) (now : Files) → device.contents ≡ Some now → Shows (IsOnTheWay lengths pieces was) device → LeavesNow (AgreeBelow 4 now) device.moments → Shows (λ files. files ≡ now) device
  shows_now device now there way below = record {
    read = only_told device.contents now (λ files. files ≡ now) there refl;
    left = leaves_both (IsOnTheWay lengths pieces was) (AgreeBelow 4 now) (λ files. files ≡ now) device.moments
        (λ left on agree. six_files now left agree (high left on Jnl (omega arith)) (high left on Ndt (omega arith))) way.left below;
  }
    where
      high : (left : Files) → IsOnTheWay lengths pieces was left → (file : FileId) → 4 ≤ file_number file → left file ≡ now file
      high left on file above = way_high left on file above ∙ sym (way_high now (way.read now there) file above)

  -- where the record writes each byte past an old end
  module _ (safe : IsGrowthSafe was) where
    -- the record as a change
    abbrev pub change_of : RedoView
    change_of = record { lengths = lengths; pieces = pieces; spare_lengths = 0; spare_pieces = 0; spare_bytes = 0 }

    -- the gate stands open before it
    pub opened : IsOpened change_of was
    opened = record { gate = gate; has = has; grown = safe gate lengths pieces has }

    -- files on their way replay as the files do
    pub way_as : (files : Files) → IsOnTheWay lengths pieces was files → ReplaysAs was files
    way_as files way base =
        let end = replays_to_applied lengths pieces was gate has in (
          λ replays. record {
            after = replays.after;
            replays = way_replays lengths pieces was files replays.after gate has (safe gate lengths pieces has) way replays.replays;
            same = replays.same;
          },
          λ replays.
              let one : closed change_of was ≡ replays.after =
              one_replay files (closed change_of was) replays.after (way_replays lengths pieces was files (closed change_of was) gate has (safe gate lengths pieces has) way end) replays.replays in
              record { after = closed change_of was; replays = end; same = λ file ne. ap (λ (x : Files). x file) one ∙ replays.same file ne },
        )

    -- and so do files that replay to the change
    pub change_as : (files : Files) → ReplaysTo (changed change_of was) files → ReplaysAs was files
    change_as files there base =
        let end = replays_to_applied lengths pieces was gate has in (
          λ replays.
              let one : replays.after ≡ closed change_of was = one_replay was replays.after (closed change_of was) replays.replays end in
              record {
                after = there.after;
                replays = there.replays;
                same = λ file ne. there.same file ne ∙ sym (closed-agrees change_of was opened file ne) ∙ ap (λ (x : Files). x file) (sym one) ∙ replays.same file ne;
              },
          λ replays.
              let one : there.after ≡ replays.after = one_replay files there.after replays.after there.replays replays.replays in
              record {
                after = closed change_of was;
                replays = end;
                same = λ file ne. closed-agrees change_of was opened file ne ∙ sym (there.same file ne) ∙ ap (λ (x : Files). x file) one ∙ replays.same file ne;
              },
        )

    -- the change has the gate open
    pub done_open : IsGateOpen (changed change_of was)
    done_open = way_open (changed change_of was) (way_done change_of was opened)

-- a record done on a disk, the files of the base synced, and the gate closed
module _ (was : Files) (lengths : List Length) (pieces : List Piece) (has : IsRecordOf was lengths pieces) (gate : IsGateOpen was) (before applied synced shut : Device) (there : before.contents ≡ Some was)
    (settled : IsAllSynced before) (told : IsSome before.contents → IsSome applied.contents) (on_way : Keeps (IsOnTheWay lengths pieces was) before synced) (kept : synced.contents ≡ applied.contents)
    (base : ForSome applied.contents (λ final. LeavesNow (AgreeBelow 4 final) synced.moments)) (closes : ForSome synced.contents (λ files. IsGateOpen files → shut.contents ≡ Some (with_gate_closed files)))
    (for_good : ForSome synced.contents (λ files. IsGateOpen files → LeavesNow (λ left. left Jnl ≡ with_gate_closed files Jnl) shut.moments)) (at : (files : Files) → Keeps (IsAtGate files) synced shut) where
  -- the files between
  pub between : (files : Files) × (applied.contents ≡ Some files)
  between = told_now applied.contents (told (told_there before.contents was there))

  -- as they are once they are synced
  between_synced : synced.contents ≡ Some between.0
  between_synced = kept ∙ between.1

  -- they are on the way
  between_way : Shows (IsOnTheWay lengths pieces was) synced
  between_way = on_way.shows (shows_way was lengths pieces has gate before there settled)

  -- with the gate still open
  between_open : IsGateOpen between.0
  between_open = way_open was lengths pieces has gate between.0 (between_way.read between.0 between_synced)

  -- then it is closed
  pub redone_told : shut.contents ≡ Some (with_gate_closed between.0)
  redone_told = closes between.0 between_synced between_open

  -- for good
  pub redone_shut : ForSome shut.contents (λ now. IsGateOpen now → ⊥)
  redone_shut = only_told shut.contents (with_gate_closed between.0) (λ now. IsGateOpen now → ⊥) redone_told (gate_shut between.0 between_open)

  -- and nothing is unsynced
  pub redone_synced : IsAllSynced shut
  redone_synced =
      let shows = shows_now was lengths pieces has gate synced between.0 between_synced between_way (base between.0 between.1) in
      let at_gate = shows_map (λ files. files ≡ between.0) (IsAtGate between.0) synced (λ files same. subst (IsAtGate between.0) (sym same) (at_gate_refl between.0)) shows in
      gate_synced shut between.0 redone_told ((at between.0).shows at_gate) (for_good between.0 between_synced between_open)
