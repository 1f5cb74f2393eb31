-- A base that is made: recovered and found empty, prepared, and written by one change.
use Rattle.std.proofs.Common.{◌≡◌, ◌≢◌, inl, inr, ℕ, List, [], ◌∷◌, length, ap, refl, sym, ◌∙◌, subst, arith, Option, Some}
use Rattle.std.specs.Prelude.{IsSome, Bool, true, false, ◌&&◌, ◌==◌, ◌⊎◌, Result, Ok, Err, OnOk}
use Rattle.std.specs.Option.{ForSome, option_map}
use Rattle.std.proofs.lemmas.Bool.{cases_eq}
use Rattle.std.proofs.lemmas.Bool.Decides.{nat_tests}
use Rattle.jb_change.specs.NewBase.{AreEmpty, MakesBase}
use Rattle.jb_disk.proofs.RunLemmas.{runs-refl, runs-then, runs-weaken}
use Rattle.jb_disk.specs.RedoView.{RedoView}
use Rattle.jb_disk.specs.Device.{Device, Turns}
use Rattle.jb_disk.specs.Files.{Files}
use Rattle.jb_disk.specs.Images.{Images}
use Rattle.jb_disk.specs.Runs.{IsAllSynced, LeavesNow, LeavesOnly, Shows}
use Rattle.jb_disk.specs.declared.file.FileId.TheVariants.{Jhr, Jdt, Jdx, Jlr, Jnl, Ndt}
use Rattle.jb_journal.specs.Commit.{IsBeforeOrAfter, IsReady, committed}
use Rattle.jb_redo.specs.Changes.{changed}
use Rattle.jb_journal.specs.Doubt.{IsSettledAt}
use Rattle.jb_journal.specs.Prepare.{IsPrepared, IsPreparing}
use Rattle.jb_journal.specs.Recover.{IsGrowthSafe, IsRefusedOver, ReplaysAsAtStart}
use Rattle.jb_journal.specs.declared.error.JournalError.{JournalError}
use Rattle.jb_journal.specs.declared.error.JournalError.TheVariants.{BadRecord, StoreFault}
use Rattle.jb_redo.proofs.ApplyLemmas.{turns_from, turns_on}
use Rattle.jb_tool.proofs.NewBaseLemmas.{base_ready, empty_beside, new_beside}
use Rattle.jb_tool.specs.Making.{AreNoneOrNew, AreShutAndEmpty, HasNewBase, IsFoundEmpty, IsMade, KeepsOrMakes, RefusesMaking, ReplayInto}
use Rattle.jb_tool.specs.Recovered.{IsRecoveredTo, KeepsReplay, tool_of_journal}
use Rattle.jb_tool.proofs.Recovering.{is_told}
use Rattle.jb_area.proofs.HoldLemmas.{numbered_as, recorded_by}
use Rattle.jb_area_open.proofs.OpeningLemmas.{prepared_plain}
use Rattle.jb_journal.proofs.PrepareLemmas.{preparing_shut}
use Rattle.jb_disk.proofs.FileLemmas.{leaves_map}

-- a file without a length is empty
no_length : (l : List ℕ) → length l ≡ 0 → l ≡ []
no_length [] none = refl
no_length (first ∷ rest) none = absurd (omega (arith, none))

-- one that has one is not
some_length : (l : List ℕ) (n : ℕ) → n ≡ length l → n ≢ 0 → l ≢ []
some_length l n is some none = some (is ∙ ap length none)

-- a length tested against 0
zero_test : (n : ℕ) → n ≡ 0 → (n == 0) ≡ true
zero_test n is = grind (arith, nat_tests)

some_test : (n : ℕ) → n ≢ 0 → (n == 0) ≡ false
some_test n ne = grind (arith, nat_tests)

-- what four lengths tell
pub found_empty : (files : Files) (headers texts index marks : ℕ) → headers ≡ length (files Jhr) → texts ≡ length (files Jdt) → index ≡ length (files Jdx) → marks ≡ length (files Jlr)
    → IsFoundEmpty ((headers == 0) && ((texts == 0) && ((index == 0) && (marks == 0)))) files
found_empty files headers texts index marks h t x m = elim (cases_eq headers 0) [
  | inr some ↦ subst (λ (b : Bool). IsFoundEmpty (b && others) files) (sym (some_test headers some)) (record { file = Jhr; of_base = omega arith; some = some_length (files Jhr) headers h some })
  | inl h0 ↦ subst (λ (b : Bool). IsFoundEmpty (b && others) files) (sym (zero_test headers h0)) (elim (cases_eq texts 0) [
    | inr some ↦ subst (λ (b : Bool). IsFoundEmpty (b && last) files) (sym (some_test texts some)) (record { file = Jdt; of_base = omega arith; some = some_length (files Jdt) texts t some })
    | inl t0 ↦ subst (λ (b : Bool). IsFoundEmpty (b && last) files) (sym (zero_test texts t0)) (elim (cases_eq index 0) [
      | inr some ↦ subst (λ (b : Bool). IsFoundEmpty (b && (marks == 0)) files) (sym (some_test index some)) (record { file = Jdx; of_base = omega arith; some = some_length (files Jdx) index x some })
      | inl x0 ↦ subst (λ (b : Bool). IsFoundEmpty (b && (marks == 0)) files) (sym (zero_test index x0)) (elim (cases_eq marks 0) [
        | inr some ↦ subst (λ (b : Bool). IsFoundEmpty b files) (sym (some_test marks some)) (record { file = Jlr; of_base = omega arith; some = some_length (files Jlr) marks m some })
        | inl m0 ↦ subst (λ (b : Bool). IsFoundEmpty b files) (sym (zero_test marks m0)) (each (sym h ∙ h0) (sym t ∙ t0) (sym x ∙ x0) (sym m ∙ m0))
      ])
    ])
  ])
]
  where
    last : Bool
    last = (index == 0) && (marks == 0)

    others : Bool
    others = (texts == 0) && last

    each : length (files Jhr) ≡ 0 → length (files Jdt) ≡ 0 → length (files Jdx) ≡ 0 → length (files Jlr) ≡ 0 → AreEmpty files
    each h0 t0 x0 m0 Jhr low = no_length (files Jhr) h0
    each h0 t0 x0 m0 Jdt low = no_length (files Jdt) t0
    each h0 t0 x0 m0 Jdx low = no_length (files Jdx) x0
    each h0 t0 x0 m0 Jlr low = no_length (files Jlr) m0
    each h0 t0 x0 m0 Jnl low = absurd (omega (arith, low))
    each h0 t0 x0 m0 Ndt low = absurd (omega (arith, low))

-- what three facts of a call that is done come to
pub done_so : {T E : Type 0} (A B C D : Type 0) (result : Result T E) → (A → B → C → D) → OnOk result A → OnOk result B → OnOk result C → OnOk result D
done_so A B C D (Ok value) so a b c = so a b c
done_so A B C D (Err error) so a b c = tt

-- and the files replay to empty ones
preparing_none : (moment : ℕ) (start files : Files) → AreShutAndEmpty start → IsPreparing start files → AreNoneOrNew moment files
preparing_none moment start files none preparing = inl (record {
  after = files;
  replays = inl (preparing_shut start files none.shut preparing, refl);
  has = empty_beside start files none.empty preparing.same;
})

-- prepared files are ready for the change
pub ready_prepared : (moment : ℕ) (change : RedoView) (before after : Option Files) → MakesBase moment change → ForSome before AreShutAndEmpty → Turns IsPrepared before after → ForSome after (IsReady 1 change)
ready_prepared moment change before after makes none prepared = λ files is.
    let from = turns_from IsPrepared before after files prepared is in
    let was = none from.0 from.1 in
    base_ready moment change makes files (empty_beside from.0 files was.empty from.2.same) (prepared_plain from.0 files was.shut from.2)

-- files before the change or after it
before_or_after : (moment : ℕ) (change : RedoView) (start files : Files) → MakesBase moment change → AreEmpty start → IsBeforeOrAfter change start files → AreNoneOrNew moment files
before_or_after moment change start files makes empty either = elim either [
  | inl old ↦ inl (record { after = old.after; replays = old.replays; has = empty_beside start old.after empty old.same })
  | inr new ↦ inr (record {
    after = new.after;
    replays = new.replays;
    has = new_beside moment (changed change start) new.after (makes.brings.made start empty) new.same;
  })
]

module _ (moment : ℕ) (change : RedoView) (makes : MakesBase moment change) (before mid after : Device) (none : ForSome before.contents AreShutAndEmpty) where
  -- what a crash leaves while the journal is prepared
  pub left_preparing : IsAllSynced before → ForSome before.contents (λ start. IsAllSynced before → LeavesOnly before mid (IsPreparing start))
      → ForSome before.contents (λ _. LeavesOnly before mid (AreNoneOrNew moment))
  left_preparing synced crash = λ start there.
      let leaves = crash start there synced in
      let weaker : (files : Files) → IsPreparing start files → AreNoneOrNew moment files = λ files is. preparing_none moment start files (none start there) is in
      record {
        first = leaves_map (IsPreparing start) (AreNoneOrNew moment) before.moments weaker leaves.first;
        run = runs-weaken (IsPreparing start) (AreNoneOrNew moment) weaker before.moments mid.moments leaves.run;
      }

  -- and then while the change is committed
  pub left_committing : Turns IsPrepared before.contents mid.contents → ForSome before.contents (λ _. LeavesOnly before mid (AreNoneOrNew moment))
      → ForSome mid.contents (λ start. LeavesOnly mid after (IsBeforeOrAfter change start)) → ForSome before.contents (λ _. LeavesOnly before after (AreNoneOrNew moment))
  left_committing prepared first crash = λ start there.
      let on = turns_on IsPrepared before.contents mid.contents start prepared there in
      let empty = empty_beside start on.0 (none start there).empty on.2.same in
      let leaves = crash on.0 on.1 in
      let weaker : (files : Files) → IsBeforeOrAfter change on.0 files → AreNoneOrNew moment files = λ files is. before_or_after moment change on.0 files makes empty is in
      record {
        first = (first start there).first;
        run = runs-then (AreNoneOrNew moment) before.moments mid.moments after.moments (first start there).run
            (runs-weaken (IsBeforeOrAfter change on.0) (AreNoneOrNew moment) weaker mid.moments after.moments leaves.run);
      }

  -- the base is there
  pub base_there : Turns IsPrepared before.contents mid.contents → after.contents ≡ option_map (committed 1 change) mid.contents → IsAllSynced after
      → ForSome mid.contents (λ start. Shows (IsSettledAt (changed change start)) after) → ForSome before.contents (λ _. HasNewBase moment after)
  base_there prepared done synced settled = λ start there.
      let on = turns_on IsPrepared before.contents mid.contents start prepared there in
      let empty = empty_beside start on.0 (none start there).empty on.2.same in
      let files = committed 1 change on.0 in
      let told : after.contents ≡ Some files = done ∙ ap (option_map (committed 1 change)) on.1 in
      let at = (settled on.0 on.1).read files told in
      record {
        files = files;
        told = told;
        new = new_beside moment (changed change on.0) files (makes.brings.made on.0 empty) at.same;
        numbered = numbered_as 1 change files (recorded_by 1 change on.0 (prepared_plain start on.0 (none start there).shut on.2).long);
        shut = λ is_open. at.plain.shut is_open.gate;
        synced = synced files told;
      }

-- a refusal of recovery
pub refused_recovery : (before after : Device) (error : JournalError) → ForSome before.contents (IsRefusedOver error after) → RefusesMaking before after (tool_of_journal error)
refused_recovery before after (BadRecord at) is = is
refused_recovery before after StoreFault is = inr refl

-- what a crash leaves where nothing is done
pub nothing_kept : (device : Device) → KeepsReplay device device
nothing_kept device = λ was there safe. record {
  first = now_left device.moments;
  run = runs-refl (ReplaysAsAtStart device.moments) device.moments device.moments refl;
}
  where
    now_left : (moments : List Images) → LeavesNow (ReplaysAsAtStart moments) moments
    now_left [] = tt
    now_left (now ∷ earlier) = λ files image. record { was = files; might = image; same = λ base. (λ x. x, λ x. x) }

-- and where the base is recovered, and not made
pub kept_making : (moment : ℕ) (before after : Device) → KeepsReplay before after → KeepsOrMakes moment before after
kept_making moment before after keeps = λ was there safe.
    let leaves = keeps was there safe in
    let P : Files → Type 0 = λ files. ReplaysAsAtStart before.moments files ⊎ ReplayInto AreEmpty was × AreNoneOrNew moment files in
    let weaker : (files : Files) → ReplaysAsAtStart before.moments files → P files = λ files is. inl is in
    record {
      first = leaves_map (ReplaysAsAtStart before.moments) P before.moments weaker leaves.first;
      run = runs-weaken (ReplaysAsAtStart before.moments) P weaker before.moments after.moments leaves.run;
    }

module _ (moment : ℕ) (before mid after : Device) (recovered : ForSome before.contents (λ was. IsRecoveredTo AreShutAndEmpty was mid)) where
  -- the base replayed to empty files
  replayed_none : (was : Files) → before.contents ≡ Some was → IsGrowthSafe was → ReplayInto AreEmpty was
  replayed_none was there safe =
      let so = (recovered was there).replayed safe in
      record { after = so.files; replays = so.replays; has = so.has.empty }

  -- what a crash leaves where the base is recovered and then made
  pub made_left : KeepsReplay before mid → ForSome mid.contents (λ _. LeavesOnly mid after (AreNoneOrNew moment)) → KeepsOrMakes moment before after
  made_left keeps crash = λ was there safe.
      let so = (recovered was there).replayed safe in
      let none = replayed_none was there safe in
      let P : Files → Type 0 = λ files. ReplaysAsAtStart before.moments files ⊎ ReplayInto AreEmpty was × AreNoneOrNew moment files in
      let one = kept_making moment before mid keeps was there safe in
      let two = crash so.files so.told in
      let later : (files : Files) → AreNoneOrNew moment files → P files = λ files is. inr (none, is) in
      record {
        first = one.first;
        run = runs-then P before.moments mid.moments after.moments one.run (runs-weaken (AreNoneOrNew moment) P later mid.moments after.moments two.run);
      }

  -- the answer then
  pub made_so : (text : List ℕ) → text ≡ [] → (IsSome before.contents → IsSome mid.contents) → ForSome mid.contents (λ _. HasNewBase moment after)
      → ForSome before.contents (λ was. IsMade moment text was after)
  made_so text none told made = λ was there.
      let now = is_told mid.contents (told (subst IsSome (sym there) refl)) in
      record {
        outcome = λ found. (none, refl);
        record_found = (recovered was there).record_found;
        replayed = replayed_none was there;
        now = made now.files now.is;
      }
