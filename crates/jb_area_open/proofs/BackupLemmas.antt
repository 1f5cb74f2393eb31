-- Backups are opened, and one that is not signed is refused.
use Rattle.std.proofs.Common.{◌≡◌, ◌≢◌, ◌⊎◌, inl, inr, ℕ, ◌≤◌, List, [], ◌∷◌, length, take, Some, ap, sym, ◌∙◌, subst, arith, length-take}
use Rattle.std.specs.Prelude.{slice_index}
use Rattle.std.proofs.lemmas.List.{length-map}
use Rattle.jb_area.specs.Holds.{Opens}
use Rattle.jb_area_open.specs.Backups.{BackupsAreOpened, BackupsHaveOneState, IsUnopened, UnsignedBasesAreRefused}
use Rattle.jb_area_open.specs.Opening.{Refuses}
use Rattle.jb_area_open.specs.declared.error.OpeningError.{OpeningError}
use Rattle.jb_area_open.specs.declared.error.OpeningError.TheVariants.{BadJournal, Base}
use Rattle.jb_backup.specs.Target.{IsRefusedBase}
use Rattle.jb_decide.specs.Holds.{Holds}
use Rattle.jb_disk.specs.Device.{Device}
use Rattle.jb_disk.specs.Files.{Files}
use Rattle.jb_disk.specs.Gate.{IsGateOpen}
use Rattle.jb_disk.specs.declared.file.FileId.TheVariants.{Jhr, Jnl}
use Rattle.jb_image.proofs.Theorems.{one_state}
use Rattle.jb_image.specs.Answers.{IsRefusedBy}
use Rattle.jb_image.specs.Places.{bytes_at}
use Rattle.jb_image.specs.Stands.{StandsFor}
use Rattle.jb_image.specs.Tests.{long_enough, signed, PassesAsFiles}
use Rattle.jb_image.specs.declared.error.OpenError.{OpenError}
use Rattle.jb_image.specs.declared.error.OpenError.TheVariants as refused
use Rattle.jb_journal.proofs.RecoverLemmas.{told_now}
use Rattle.jb_journal.specs.Recover.{IsGrowthSafe}
use Rattle.jb_record.specs.Fields.{signature}
use Rattle.jb_state.specs.State.{AreaState, slot_state, state_of}
use Rattle.jb_state.specs.declared.loaded.Loaded.{Loaded}

-- an empty journal has no open gate
shut_empty : (files : Files) → files Jnl ≡ [] → IsGateOpen files → ⊥
shut_empty files none gate = let size = ap length none in let longer = gate.longer in omega (arith, size, longer)

-- so no record stands behind one
safe_empty : (files : Files) → files Jnl ≡ [] → IsGrowthSafe files
safe_empty files none = λ gate. absurd (shut_empty files none gate)

-- signed headers begin with the first byte of the signature
signed_first : (bytes : List ℕ) → take 4 (bytes_at 0 1024 bytes) ≡ signature → slice_index bytes 0 ≡ 74
signed_first [] is = let none : 0 ≡ 4 = ap length is in absurd (omega (arith, none))
signed_first (byte ∷ rest) is = ap (λ (l : List ℕ). slice_index l 0) is

-- no headers are signed and not
not_signed : (bytes : List ℕ) → (length bytes ≤ 1) ⊎ (slice_index bytes 0 ≢ 74) → 1024 ≤ length bytes → take 4 (bytes_at 0 1024 bytes) ≡ signature → ⊥
not_signed bytes (inl short) long is = omega (arith, short, long)
not_signed bytes (inr other) long is = other (signed_first bytes is)

-- of files with such headers
module _ (limit : ℕ) (files : Files) (headers : (length (files Jhr) ≤ 1) ⊎ (slice_index (files Jhr) 0 ≢ 74)) where
  -- both tests are not passed
  not_behind : (long : PassesAsFiles limit files long_enough) → PassesAsFiles limit files signed → ⊥
  not_behind long is = not_signed (files Jhr) headers long is

  -- so nothing else is refused
  unopened : (error : OpenError) → IsRefusedBy limit files error → IsUnopened (Base error)
  unopened refused.ShortHeader is = tt
  unopened refused.BadSignature is = tt
  unopened refused.BaseZero is = absurd (not_behind (is.earlier long_enough (omega arith)) (is.earlier signed (omega arith)))
  unopened refused.IndexLength is = absurd (not_behind (is.earlier long_enough (omega arith)) (is.earlier signed (omega arith)))
  unopened refused.LastreadLength is = absurd (not_behind (is.earlier long_enough (omega arith)) (is.earlier signed (omega arith)))
  unopened refused.TooManySlots is = absurd (not_behind (is.earlier long_enough (omega arith)) (is.earlier signed (omega arith)))
  unopened refused.NumberRange is = absurd (not_behind (is.earlier long_enough (omega arith)) (is.earlier signed (omega arith)))
  unopened (refused.HeaderPlace number) is = absurd (not_behind (is.0 long_enough) (is.0 signed))
  unopened (refused.HeaderSignature number) is = absurd (not_behind (is.0 long_enough) (is.0 signed))
  unopened (refused.HeaderRevision number) is = absurd (not_behind (is.0 long_enough) (is.0 signed))
  unopened (refused.Subfields number at) is = absurd (not_behind (is.0 long_enough) (is.0 signed))
  unopened (refused.TextPlace number) is = absurd (not_behind (is.0 long_enough) (is.0 signed))
  unopened (refused.HeadersOverlap a b) is = absurd (not_behind (is.0 long_enough) (is.0 signed))
  unopened refused.StoreFault is = tt
  unopened refused.OutOfMemory is = tt

module _ (was : Files) (base : IsRefusedBase was) where
  -- what they replay to is unsigned too, so they open to nothing
  opens_nothing : (loaded : Loaded) (texts : List ℕ) → Opens loaded texts was → ⊥
  opens_nothing loaded texts opens = elim opens.replays [
    | inl closed ↦
        let header = opens.holds.loads.header in
        let size = header.size in
        let same : opens.after Jhr ≡ was Jhr = ap (λ (files : Files). files Jhr) closed.1 in
        not_signed (opens.after Jhr) (subst (λ (b : List ℕ). (length b ≤ 1) ⊎ (slice_index b 0 ≢ 74)) (sym same) base.headers)
        (omega (arith, size, length-take 1024 (opens.after Jhr))) header.signed
    | inr redone ↦ shut_empty was base.journal redone.opened
  ]

  -- recovered they have these headers still
  refused_unopened : (limit : ℕ) (before after : Device) (error : OpeningError) → before.contents ≡ Some was → Refuses limit before after error → IsUnopened error
  refused_unopened limit before after (BadJournal at) there is = absurd (shut_empty was base.journal (is was there).0)
  refused_unopened limit before after (Base refused.StoreFault) there is = tt
  refused_unopened limit before after (Base error) there is =
      let files = is (λ same. absurd (cc)) in
      let recovered = files.recovered was there in
      let now = told_now after.contents recovered.told in
      let to = recovered.replayed (safe_empty was base.journal) now.0 now.1 in
      let same : now.0 Jhr ≡ was Jhr = elim to.replays [
        | inl closed ↦ sym (to.same Jhr (λ other. absurd (cc))) ∙ ap (λ (f : Files). f Jhr) closed.1
        | inr redone ↦ absurd (shut_empty was base.journal redone.opened)
      ] in
      unopened limit now.0 (subst (λ (b : List ℕ). (length b ≤ 1) ⊎ (slice_index b 0 ≢ 74)) (sym same) base.headers) error (files.refused now.0 now.1)

-- a base that is not signed is no area
pub unsigned_refused : UnsignedBasesAreRefused
unsigned_refused was base = record { safe = safe_empty was base.journal; closed = opens_nothing was base; refused = refused_unopened was base }

-- and a backup is opened
pub backups_opened : BackupsAreOpened
backups_opened limit state files opens few = record {
  after = opens.opens.after;
  replays = opens.opens.replays;
  loaded = opens.loaded;
  opens = record {
    loads = opens.opens.holds.loads;
    few_slots =
        let size : length state.slots ≡ length opens.loaded.slots = ap (λ (s : AreaState). length s.slots) opens.same ∙ length-map opens.loaded.slots (slot_state opens.texts) in
        omega (arith, size, few);
  };
  safe = safe_empty files opens.journal;
}

-- files without a journal hold what they open to
holds_shut : (loaded : Loaded) (texts : List ℕ) (files : Files) → files Jnl ≡ [] → Opens loaded texts files → Holds loaded texts files
holds_shut loaded texts files none opens = elim opens.replays [
  | inl closed ↦ subst (Holds loaded texts) closed.1 opens.holds
  | inr redone ↦ absurd (shut_empty files none redone.opened)
]

-- and stand for its state
stands_shut : (limit : ℕ) (loaded : Loaded) (texts : List ℕ) (files : Files) → Holds loaded texts files → length loaded.slots ≤ limit → StandsFor limit files (state_of texts loaded)
stands_shut limit loaded texts files holds few =
    record { loaded = loaded; loads = holds.loads; few_slots = few; same = ap (λ (t : List ℕ). state_of t loaded) (sym holds.texts_are) }

-- which is the one of the backup
pub one_state_opens : BackupsHaveOneState
one_state_opens state files backup loaded texts opens =
    let own = holds_shut backup.loaded backup.texts files backup.journal backup.opens in
    let its = holds_shut loaded texts files backup.journal opens in
    let index = own.loads.index in
    let index' = its.loads.index in
    let few : length backup.loaded.slots ≤ length loaded.slots = omega (arith, index, index') in
    one_state (length loaded.slots) files (state_of texts loaded) (state_of backup.texts backup.loaded)
    (stands_shut (length loaded.slots) loaded texts files its (omega arith)) (stands_shut (length loaded.slots) backup.loaded backup.texts files own few)
    ∙ sym backup.same
