-- Files that are recovered, read and prepared: what they hold, and what a crash meanwhile opens to.
use Rattle.std.proofs.Common.{◌≡◌, ◌⊎◌, inl, inr, ℕ, ◌<◌, ◌≤◌, List, [], ◌∷◌, length, ap, refl, sym, ◌∙◌, subst, arith, Option, Some}
use Rattle.std.specs.Prelude.{slice_index, IsSome}
use Rattle.std.specs.Option.{ForSome}
use Rattle.std.proofs.lemmas.Bool.{cases_lt}
use Rattle.jb_area.specs.Area.{IsResting, loaded_of}
use Rattle.jb_area.specs.Holds.{IsAtRest, Opens}
use Rattle.jb_decide.specs.Holds.{AreTexts, Holds}
use Rattle.jb_area.specs.declared.area.OpenArea.{OpenArea}
use Rattle.jb_area_open.specs.Opening.{IsOpenAt, IsRecovered, KeepsOpening, OpensAs, OpensAsAtStart, OpensFirmly}
use Rattle.jb_disk.proofs.RunLemmas.{runs-then, runs-weaken}
use Rattle.jb_disk.specs.Device.{Device, OnlyReads, TellsAnImage, Turns}
use Rattle.jb_disk.specs.FileLaws.{same_file, same_files, with_file-here, with_file-other}
use Rattle.jb_disk.specs.Files.{Files, with_file}
use Rattle.jb_disk.specs.Gate.{IsGateOpen, version_by, version_number, version_of}
use Rattle.jb_disk.specs.declared.version.Version.{Version}
use Rattle.jb_disk.specs.declared.version.Version.TheVariants.{One, Two}
use Rattle.jb_disk.specs.Images.{Images}
use Rattle.jb_disk.specs.Runs.{IsAllSynced, LeavesNow, LeavesOnly, Runs}
use Rattle.jb_disk.specs.declared.file.FileId.{FileId}
use Rattle.jb_disk.specs.declared.file.FileId.TheVariants.{Jdt, Jnl}
use Rattle.jb_image.specs.Stands.{HasHeader, HasSlot, IsLiveIn, Loads}
use Rattle.jb_journal.specs.Commit.{AgreeButJournal, IsPlain, ReplaysTo}
use Rattle.jb_journal.specs.Prepare.{IsPrepared, IsPreparing, WantsHead}
use Rattle.jb_journal.proofs.FirmLemmas.{firm_same, firm_then, firm_weaken}
use Rattle.jb_journal.proofs.PrepareLemmas.{preparing_shut}
use Rattle.jb_journal.specs.Recover.{FirmSince, IsFound, IsGrowthSafe, MightBe, ReplaysAs, ReplaysAsAtStart}
use Rattle.jb_journal.specs.declared.error.Recovered.{Recovered}
use Rattle.jb_journal.specs.declared.error.Recovered.TheVariants.{Closed, Replayed}
use Rattle.jb_state.specs.declared.loaded.Loaded.{Loaded}
use Rattle.jb_state.specs.declared.loaded.LoadedMessage.{LoadedMessage}
use Rattle.jb_state.specs.declared.loaded.LoadedSlot.{LoadedSlot}
use Rattle.jb_state.specs.declared.loaded.LoadedSlot.TheVariants.{Empty, Killed, Live}
use Rattle.jb_record.specs.declared.index.IndexRecord.{IndexRecord}
use Rattle.jb_redo.proofs.ApplyLemmas.{turns_from, turns_on}
use Rattle.jb_redo.proofs.WayLemmas.{one_replay}
use Rattle.jb_redo.specs.Reading.{HasRecord}
use Rattle.jb_redo.specs.Replay.{Replays}
use Rattle.jb_journal.proofs.RecoverLemmas.{told_now}
use Rattle.jb_disk.proofs.FileLemmas.{leaves_map}

-- another journal beside the files of the base
module _ (journal : List ℕ) (files : Files) where
  -- a header is there still
  header_kept : (at : ℕ) → HasHeader files at → HasHeader (with_file Jnl journal files) at
  header_kept at has = record { placed = has.placed; shaped = has.shaped }

  -- and a live message
  live_kept : (message : LoadedMessage) → IsLiveIn files message → IsLiveIn (with_file Jnl journal files) message
  live_kept message is = record {
    header = header_kept message.header_at is.header;
    live = is.live;
    subfields = is.subfields;
    head = is.head;
    text_at = is.text_at;
    text_len = is.text_len;
  }

  -- and each slot
  slot_kept : (entry : IndexRecord) (slot : LoadedSlot) → HasSlot files entry slot → HasSlot (with_file Jnl journal files) entry slot
  slot_kept entry Empty has = has
  slot_kept entry (Killed header_at) has = (has.0, record { header = header_kept header_at has.1.header; deleted = has.1.deleted })
  slot_kept entry (Live message) has = (has.0, has.1, live_kept message has.2)

  -- so the same is loaded
  loads_kept : (loaded : Loaded) → Loads loaded files → Loads loaded (with_file Jnl journal files)
  loads_kept loaded loads = record {
    header = loads.header;
    fixed = loads.fixed;
    base = loads.base;
    numbers = loads.numbers;
    index = loads.index;
    slots = λ k d low. slot_kept _ _ (loads.slots k d low);
    apart = loads.apart;
    lastread = loads.lastread;
    marks = loads.marks;
    few_marks = loads.few_marks;
    headers_len = loads.headers_len;
    texts_len = loads.texts_len;
  }

-- files that are others but for the journal are these with that journal
as_others : (now files : Files) → AgreeButJournal now files → now ≡ with_file Jnl (now Jnl) files
as_others now files same = same_files now (with_file Jnl (now Jnl) files) (λ file. elim (same_file file Jnl) [
  | inl is ↦ subst (λ (f : FileId). now f ≡ with_file Jnl (now Jnl) files f) (sym is) (sym (with_file-here Jnl (now Jnl) files))
  | inr other ↦ same file other ∙ sym (with_file-other Jnl file (now Jnl) files other)
])

-- the journal bears on nothing that is loaded
pub loads_beside : (now files : Files) (loaded : Loaded) → AgreeButJournal now files → Loads loaded files → Loads loaded now
loads_beside now files loaded same loads = subst (Loads loaded) (sym (as_others now files same)) (loads_kept (now Jnl) files loaded loads)

-- nor on what the area holds
holds_beside : (now files : Files) (loaded : Loaded) (texts : List ℕ) → AgreeButJournal now files → Holds loaded texts files → Holds loaded texts now
holds_beside now files loaded texts same holds =
    record { loads = loads_beside now files loaded same holds.loads; texts_are = same Jdt (λ is. absurd (cc)) ∙ holds.texts_are }

-- files that replay to the same open to the same
opens_along : (was files : Files) (loaded : Loaded) (texts : List ℕ) → ((base : Files) → ReplaysTo base was → ReplaysTo base files) → Opens loaded texts was → Opens loaded texts files
opens_along was files loaded texts along opens =
    let to = along opens.after (record { after = opens.after; replays = opens.replays; same = λ file ne. refl }) in
    record { after = to.after; replays = to.replays; holds = holds_beside to.after opens.after loaded texts to.same opens.holds }

-- either way
opens_alike : (was files : Files) → ReplaysAs was files → OpensAs was files
opens_alike was files alike = λ loaded texts. (opens_along was files loaded texts (λ base. (alike base).0), opens_along files was loaded texts (λ base. (alike base).1))

-- so do files that replay to what some at the start replay to
opens_as : (first : List Images) (was files : Files) → MightBe first was → ReplaysAs was files → OpensAsAtStart first files
opens_as first was files might alike = record { was = was; might = might; same = opens_alike was files alike }

-- behind a closed gate files replay to themselves
shut_to : (base files : Files) → (IsGateOpen files → ⊥) → AgreeButJournal files base → ReplaysTo base files
shut_to base files shut same = record { after = files; replays = inl (shut, refl); same = same }

-- and to nothing else
stands_so : (base files : Files) → (IsGateOpen files → ⊥) → ReplaysTo base files → AgreeButJournal files base
stands_so base files shut to = elim to.replays [
  | inl closed ↦ λ file ne. ap (λ (x : Files). x file) (sym closed.1) ∙ to.same file ne
  | inr redone ↦ absurd (shut redone.opened)
]

-- files behind a closed gate to which others replay replay as those do
replayed_as : (was start : Files) → Replays was start → (IsGateOpen start → ⊥) → ReplaysAs was start
replayed_as was start replays shut base = (
  λ to.
      let one : to.after ≡ start = one_replay was to.after start to.replays replays in
      shut_to base start shut (λ file ne. ap (λ (x : Files). x file) (sym one) ∙ to.same file ne),
  λ to. record { after = start; replays = replays; same = stands_so base start shut to },
)

-- a journal has one version or the other
one_or_two : (version : Version) → (version ≡ One) ⊎ (version ≡ Two)
one_or_two One = inl refl
one_or_two Two = inr refl

-- so it wants its head, or is longer than one of the second version
wants_or_has : (files : Files) → WantsHead files ⊎ (16 < length (files Jnl)) × (version_of files ≡ Two)
wants_or_has files = elim (cases_lt 16 (length (files Jnl))) [
  | inl longer ↦ elim (one_or_two (version_of files)) [ inl one ↦ inl (inl one) | inr two ↦ inr (longer, two) ]
  | inr short ↦ inl (inr short)
]

-- and then files replay as they did before
preparing_as : (start files : Files) → (IsGateOpen start → ⊥) → IsPreparing start files → ReplaysAs start files
preparing_as start files shut preparing base =
    let still = preparing_shut start files shut preparing in (
      λ to. shut_to base files still (λ file ne. preparing.same file ne ∙ stands_so base start shut to file ne),
      λ to. shut_to base start shut (λ file ne. sym (preparing.same file ne) ∙ stands_so base files still to file ne),
    )

-- a prepared journal is plain
pub prepared_plain : (before now : Files) → (IsGateOpen before → ⊥) → IsPrepared before now → IsPlain now
prepared_plain before now shut prepared = elim (wants_or_has before) [
  | inl wants ↦
      let made = prepared.made wants in
      let two : version_of now ≡ Two = ap (λ (l : List ℕ). version_by (slice_index l 1)) made in
      record {
        long = subst (λ (l : List ℕ). 16 ≤ length l) (sym made) (omega arith);
        two = two;
        shut = λ gate.
            let zero : slice_index (now Jnl) 0 ≡ 0 = ap (λ (l : List ℕ). slice_index l 0) made in
            let number : version_number (version_of now) ≡ 2 = ap version_number two in
            omega (arith, zero, number, gate);
      }
  | inr has ↦
      let kept = prepared.kept has.1 has.0 in
      let version : version_of now ≡ version_of before = ap (λ (l : List ℕ). version_by (slice_index l 1)) kept in
      record {
        long = let size = ap length kept in let longer = has.0 in omega (arith, longer, size);
        two = version ∙ has.1;
        shut = λ gate. shut (record { longer = has.0; gate = ap (λ (l : List ℕ). slice_index l 0) (sym kept) ∙ gate ∙ ap version_number version });
      }
]

-- and ready for a change
prepared_rests : (loaded : Loaded) (before now : Files) → (IsGateOpen before → ⊥) → Loads loaded before → IsPrepared before now → IsAtRest loaded (now Jdt) now
prepared_rests loaded before now shut loads prepared = record { holds = held; plain = prepared_plain before now shut prepared }
  where
    held : Holds loaded (now Jdt) now
    held = holds_beside now before loaded (now Jdt) prepared.same (record { loads = loads; texts_are = sym (prepared.same Jdt (λ is. cc)) })

-- files that were read, with their journal prepared, are at rest
pub rests_prepared : (loaded : Loaded) (read made : Option Files) → ForSome read (λ files. IsGateOpen files → ⊥) → ForSome read (Loads loaded) → Turns IsPrepared read made
    → ForSome made (λ files. IsAtRest loaded (files Jdt) files)
rests_prepared loaded read made shut loads prepared = λ now there.
    let from = turns_from IsPrepared read made now prepared there in
    prepared_rests loaded from.0 now (shut from.0 from.1) (loads from.0 from.1) from.2

-- behind an open gate a record was found
pub record_of : (found : Recovered) (was : Files) → IsFound found was → IsGateOpen was → HasRecord was
record_of Closed was shut opened = absurd (shut opened)
record_of (Replayed version change) was is opened = is.2.0

-- what recovery says
pub recovered_so : (before after : Device) (found : Recovered) → ForSome before.contents (IsFound found) → ForSome before.contents (λ was. IsGrowthSafe was → ForSome after.contents (Replays was))
    → ForSome after.contents (λ now. IsGateOpen now → ⊥) → IsAllSynced after → (IsSome before.contents → IsSome after.contents) → ForSome before.contents (λ was. IsRecovered was after)
recovered_so before after found is done shut synced told = λ was there. record {
  record_found = record_of found was (is was there);
  replayed = λ safe now now_is. record { after = now; replays = done was there safe now now_is; same = λ file ne. refl };
  told = told (subst IsSome (sym there) refl);
  shut = shut;
  synced = synced;
}

-- and the reading leaves
pub recovered_read : (before mid after : Device) → OnlyReads mid after → ForSome before.contents (λ was. IsRecovered was mid) → ForSome before.contents (λ was. IsRecovered was after)
recovered_read before mid after kept recovered = λ was there.
    let is = recovered was there in
    record {
      record_found = is.record_found;
      replayed = λ safe now now_is. is.replayed safe now (sym kept.contents ∙ now_is);
      told = subst IsSome (sym kept.contents) is.told;
      shut = λ now now_is. is.shut now (sym kept.contents ∙ now_is);
      synced = λ now now_is. subst (LeavesNow (λ left. left ≡ now)) (sym kept.moments) (is.synced now (sym kept.contents ∙ now_is));
    }

-- and the preparing of the journal
pub recovered_prepared : (before mid after : Device) → Turns IsPrepared mid.contents after.contents → (IsAllSynced mid → IsAllSynced after) → ForSome before.contents (λ was. IsRecovered was mid)
    → ForSome before.contents (λ was. IsRecovered was after)
recovered_prepared before mid after prepared synced recovered = λ was there.
    let is = recovered was there in
    let start = told_now mid.contents is.told in
    let on = turns_on IsPrepared mid.contents after.contents start.0 prepared start.1 in
    record {
      record_found = is.record_found;
      replayed = λ safe now now_is.
          let from = turns_from IsPrepared mid.contents after.contents now prepared now_is in
          let to = is.replayed safe from.0 from.1 in
          record { after = to.after; replays = to.replays; same = λ file ne. to.same file ne ∙ sym (from.2.same file ne) };
      told = subst IsSome (sym on.1) refl;
      shut = λ now now_is is_open.
          let from = turns_from IsPrepared mid.contents after.contents now prepared now_is in
          prepared_shut from.0 now (is.shut from.0 from.1) from.2 is_open;
      synced = synced is.synced;
    }
  where
    prepared_shut : (start now : Files) → (IsGateOpen start → ⊥) → IsPrepared start now → IsGateOpen now → ⊥
    prepared_shut start now shut is is_open = elim (wants_or_has start) [
      | inl wants ↦
          preparing_shut start now shut (record { same = is.same; journal = inr (wants, inl (subst (λ (l : List ℕ). length l ≤ 16) (sym (is.made wants)) (omega arith))) }) is_open
      | inr has ↦ preparing_shut start now shut (record { same = is.same; journal = inl (is.kept has.1 has.0) }) is_open
    ]

-- files that replay to others open to what those hold
replaying_opens : (was now : Files) (loaded : Loaded) (texts : List ℕ) → ReplaysTo now was → Holds loaded texts now → Opens loaded texts was
replaying_opens was now loaded texts to holds = record { after = to.after; replays = to.replays; holds = holds_beside to.after now loaded texts to.same holds }

-- an area at rest over recovered files is open at what the files opened to
pub open_at : {D : Type 0} (shown : D → Device) (before : Device) (area : OpenArea D) → ForSome before.contents (λ was. IsRecovered was (shown area.disk))
    → ForSome (shown area.disk).contents (λ files. (loaded_of area).texts_len ≡ length (files Jdt))
    → ((texts : List ℕ) → AreTexts (loaded_of area) texts (shown area.disk).contents → IsResting shown area texts) → ForSome before.contents (λ was. IsGrowthSafe was → IsOpenAt shown was area)
open_at shown before area recovered sized rests = λ was there safe.
    let is = recovered was there in
    let now = told_now (shown area.disk).contents is.told in
    let resting = rests (now.0 Jdt) (record { sized = sym (sized now.0 now.1); told = λ files same. ap (λ (x : Files). x Jdt) (one_told (sym same ∙ now.1)) }) in
    record { texts = now.0 Jdt; opens = replaying_opens was now.0 (loaded_of area) (now.0 Jdt) (is.replayed safe now.0 now.1) (resting.kept.settled.rests now.0 now.1).holds; rests = resting }
  where
    one_told : {a b : Files} → Some a ≡ Some b → a ≡ b
    one_told is = cc

-- what is read might be left
might_now : (device : Device) (files : Files) → TellsAnImage device → device.contents ≡ Some files → MightBe device.moments files
might_now device files tells there = by_moments device.moments refl
  where
    by_moments : (moments : List Images) → device.moments ≡ moments → MightBe moments files
    by_moments [] none = tt
    by_moments (now ∷ earlier) some = tells.read files now earlier there some

-- recovery opens what it replays
pub recovery_keeps : (before after : Device) → ForSome before.contents (λ was. IsGrowthSafe was → LeavesOnly before after (ReplaysAsAtStart before.moments)) → KeepsOpening before after
recovery_keeps before after crash = λ was there safe.
    let leaves = crash was there safe in
    let first = before.moments in
    let alike : (files : Files) → ReplaysAsAtStart first files → OpensAsAtStart first files = λ files is. opens_as first is.was files is.might is.same in
    record {
      first = leaves_map (ReplaysAsAtStart first) (OpensAsAtStart first) first alike leaves.first;
      run = runs-weaken (ReplaysAsAtStart first) (OpensAsAtStart first) alike first after.moments leaves.run;
    }

-- so do reads after it
pub reading_keeps : (before mid after : Device) → OnlyReads mid after → KeepsOpening before mid → KeepsOpening before after
reading_keeps before mid after kept keeps = λ was there safe.
    let leaves = keeps was there safe in
    record { first = leaves.first; run = subst (λ (m : List Images). Runs (OpensAsAtStart before.moments) before.moments m) (sym kept.moments) leaves.run }

-- once the first syncs are done
pub recovery_firm : (before after : Device) → ForSome before.contents (λ was. IsGrowthSafe was → FirmSince (ReplaysAs was) before.moments after.moments) → OpensFirmly before after
recovery_firm before after firm = λ was there safe. firm_weaken (ReplaysAs was) (OpensAs was) (opens_alike was) before.moments after.moments (firm was there safe)

-- and after reads
pub reading_firm : (before mid after : Device) → OnlyReads mid after → OpensFirmly before mid → OpensFirmly before after
reading_firm before mid after kept firm = λ was there safe. firm_same (OpensAs was) before.moments mid.moments after.moments kept.moments (firm was there safe)

-- while the journal is prepared files replay as those at the start
prepared_as : (was start files : Files) → Replays was start → (IsGateOpen start → ⊥) → IsPreparing start files → ReplaysAs was files
prepared_as was start files replays shut preparing base =
    let alike = replayed_as was start replays shut base in
    let still = preparing_as start files shut preparing base in
    (λ to. still.0 (alike.0 to), λ to. alike.1 (still.1 to))

-- and the preparing of the journal
pub preparing_keeps : (before mid after : Device) → TellsAnImage before → KeepsOpening before mid → ForSome before.contents (λ was. IsRecovered was mid)
    → ForSome before.contents (λ was. IsGrowthSafe was → ForSome mid.contents (Replays was)) → ForSome mid.contents (λ start. IsAllSynced mid → LeavesOnly mid after (IsPreparing start)) → KeepsOpening before after
preparing_keeps before mid after tells keeps recovered done crash = λ was there safe.
    let leaves = keeps was there safe in
    let is = recovered was there in
    let start = told_now mid.contents is.told in
    let shut = is.shut start.0 start.1 in
    let P = OpensAsAtStart before.moments in
    let each : (files : Files) → IsPreparing start.0 files → P files = λ files preparing.
    opens_as before.moments was files (might_now before was tells there) (prepared_as was start.0 files (done was there safe start.0 start.1) shut preparing) in
    record {
      first = leaves.first;
      run = runs-then P before.moments mid.moments after.moments leaves.run (runs-weaken (IsPreparing start.0) P each mid.moments after.moments (crash start.0 start.1 is.synced).run);
    }

-- and firmly so
pub preparing_firm : (before mid after : Device) → OpensFirmly before mid → ForSome before.contents (λ was. IsRecovered was mid)
    → ForSome before.contents (λ was. IsGrowthSafe was → ForSome mid.contents (Replays was)) → ForSome mid.contents (λ start. IsAllSynced mid → LeavesOnly mid after (IsPreparing start)) → OpensFirmly before after
preparing_firm before mid after firm recovered done crash = λ was there safe.
    let is = recovered was there in
    let start = told_now mid.contents is.told in
    let each : (files : Files) → IsPreparing start.0 files → OpensAs was files = λ files preparing.
    opens_alike was files (prepared_as was start.0 files (done was there safe start.0 start.1) (is.shut start.0 start.1) preparing) in
    firm_then (OpensAs was) before.moments mid.moments after.moments (firm was there safe)
    (runs-weaken (IsPreparing start.0) (OpensAs was) each mid.moments after.moments (crash start.0 start.1 is.synced).run)
