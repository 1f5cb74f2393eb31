-- What a copying of texts into .NDT leaves of an area, and what becomes of the copies.
use Rattle.std.proofs.Common.{◌≡◌, ◌≢◌, inl, inr, ℕ, ◌≤◌, ◌<◌, List, length, take, Option, None, Some, Result, Ok, Err, OnOk, ap, refl, sym, ◌∙◌, subst, arith}
use Rattle.std.specs.Option.{ForSome}
use Rattle.std.specs.Prelude.{slice_index}
use Rattle.jb_disk.specs.RedoView.{RedoView}
use Rattle.jb_disk.specs.Device.{Device, OnlyReads, Resizes, Syncs, TellsAlike, TellsAnImage}
use Rattle.jb_disk.specs.FileLaws.{same_file, same_files}
use Rattle.jb_disk.specs.Files.{Files, file_number}
use Rattle.jb_disk.specs.Memory.{of_length}
use Rattle.jb_disk.specs.Runs.{IsAllSynced, LeavesOnly, Shows}
use Rattle.jb_disk.specs.Steps.{Span, patched}
use Rattle.jb_disk.specs.declared.file.FileId.{FileId}
use Rattle.jb_disk.specs.declared.file.FileId.TheVariants.{Jhr, Jdt, Jdx, Jlr, Jnl, Ndt}
use Rattle.jb_disk.proofs.RunLemmas.{durable, leaves_only}
use Rattle.jb_disk.proofs.FileLemmas.{leaves_both, leaves_map, only_told}
use Rattle.jb_journal.specs.Commit.{AgreeButJournal}
use Rattle.jb_redo.specs.Changes.{changed}
use Rattle.jb_state.specs.declared.change.Change.{Change}
use Rattle.jb_state.specs.declared.change.Change.TheVariants.{Nothing, Posted, Headed, Edited, Killed, Relinked, Marked, Packed}
use Rattle.jb_model.specs.declared.command.Command.{Command}
use Rattle.jb_model.specs.declared.command.Command.TheVariants.{Post, Edit, Read, Peek, Kill, SetMark, Pack, Relink}
use Rattle.jb_state.specs.declared.loaded.Loaded.{Loaded}
use Rattle.jb_pack.proofs.CopiesLemmas.{stays_copied}
use Rattle.jb_pack.proofs.TouchLemmas.{touches-read, touches-resize, touches-sync, touches-then, turns-alike}
use Rattle.jb_pack.specs.Shadow.{Shadow}
use Rattle.jb_pack.specs.Touching.{AgreeButShadow, TouchesShadow}
use Rattle.jb_disk.specs.Gate.{version_by, version_number, version_of}
use Rattle.jb_disk.specs.declared.version.Version.TheVariants.{Two}
use Rattle.jb_journal.specs.Commit.{IsPlain}
use Rattle.jb_redo.proofs.ApplyLemmas.{turns_from}
use Rattle.jb_redo.proofs.SizeLemmas.{not_given}
use Rattle.jb_redo.proofs.SpanLemmas.{no_spans}
use Rattle.jb_redo.proofs.WayLemmas.{resized_same, resized_with_zeros}
use Rattle.jb_redo.specs.Rules.{IsLegalRecord, new_sizes, sizes_of}
use Rattle.jb_decide.proofs.AgreeLemmas.{loads_agree}
use Rattle.jb_decide.specs.Coming.{BringsComing, Coming}
use Rattle.jb_decide.specs.Holds.{HoldsCopies, Holds}
use Rattle.jb_decide.specs.StepOf.{IsNoPack}
use Rattle.jb_decide.specs.Telling.{IsPacking}
use Rattle.jb_area.specs.Area.{copied_after}
use Rattle.jb_area.specs.Calls.{OnlyReadsOrCopies}
use Rattle.jb_area.specs.Commits.{IsCopyingAs, IsSettledAs, IsSyncedButShadow}
use Rattle.jb_area.specs.Holds.{IsAtRest, Opens}
use Rattle.jb_area.proofs.CommitLemmas.{only_weaken}
use Rattle.jb_area.proofs.HoldLemmas.{rest_opens}

-- a file with another number is not the shadow of the texts
no_shadow : (file : FileId) → file_number file < 5 → file ≢ Ndt
no_shadow file low is = let same : file_number file ≡ 5 = ap file_number is in omega (arith, same)

-- a journal of the same bytes is plain too
plain_as : (files other : Files) → other Jnl ≡ files Jnl → IsPlain files → IsPlain other
plain_as files other same plain =
    let version : version_of other ≡ version_of files = ap (λ (l : List ℕ). version_by (slice_index l 1)) same in
    record {
      long = subst (λ (l : List ℕ). 16 ≤ length l) (sym same) plain.long;
      two = version ∙ plain.two;
      shut = λ gate. plain.shut (sym (ap (λ (l : List ℕ). slice_index l 0) same) ∙ gate ∙ ap version_number version);
    }

-- the shadow of the texts bears on nothing that is at rest
pub rest_agrees : (loaded : Loaded) (texts : List ℕ) (files other : Files) → AgreeButShadow files other → IsAtRest loaded texts files → IsAtRest loaded texts other
rest_agrees loaded texts files other same rest =
    let jdt = same Jdt (no_shadow Jdt (omega arith)) in
    let jnl = same Jnl (no_shadow Jnl (omega arith)) in
    record {
      holds = record {
        loads = loads_agree other files (same Jhr (no_shadow Jhr (omega arith))) jdt (same Jdx (no_shadow Jdx (omega arith))) (same Jlr (no_shadow Jlr (omega arith))) loaded rest.holds.loads;
        texts_are = jdt ∙ rest.holds.texts_are;
      };
      plain = plain_as files other jnl rest.plain;
    }

-- what is settled is so but for .NDT
pub settled_copying : (loaded : Loaded) (texts : List ℕ) (device : Device) → IsSettledAs loaded texts device → IsCopyingAs loaded texts device
settled_copying loaded texts device settled = record {
  rests = settled.rests;
  synced = λ files there. leaves_map (λ left. left ≡ files) (AgreeButShadow files) device.moments (λ left same file other. ap (λ (f : Files). f file) same) (settled.synced files there);
}

-- what is read and what a crash leaves is as it is read, but for .NDT
shows_own : (was : Files) (device : Device) → device.contents ≡ Some was → IsSyncedButShadow device → Shows (AgreeButShadow was) device
shows_own was device there synced = record {
  read = only_told device.contents was (AgreeButShadow was) there (λ file other. refl);
  left = synced was there;
}

-- calls that touch .NDT alone leave the area as it was
pub copying_by : (loaded : Loaded) (texts : List ℕ) (old new : Device) → TouchesShadow old new → IsCopyingAs loaded texts old → IsCopyingAs loaded texts new
copying_by loaded texts old new touches copying = record {
  rests = λ now there.
      let back = turns_from AgreeButShadow old.contents new.contents now touches.others there in
      rest_agrees loaded texts back.0 now back.2 (copying.rests back.0 back.1);
  synced = λ now there.
      let back = turns_from AgreeButShadow old.contents new.contents now touches.others there in
      let shows = (touches.keeps back.0).shows (shows_own back.0 old back.1 copying.synced) in
      leaves_map (AgreeButShadow back.0) (AgreeButShadow now) new.moments (λ left agree file other. agree file other ∙ sym (back.2 file other)) shows.left;
}

-- and settled, where all is synced then
pub settled_by : (loaded : Loaded) (texts : List ℕ) (old new : Device) → TouchesShadow old new → IsSettledAs loaded texts old → (IsAllSynced old → IsAllSynced new) → IsSettledAs loaded texts new
settled_by loaded texts old new touches settled synced = record {
  rests = (copying_by loaded texts old new touches (settled_copying loaded texts old settled)).rests;
  synced = synced settled.synced;
}

-- a crash meanwhile leaves what opens to it
pub crash_by : (loaded : Loaded) (texts : List ℕ) (old new : Device) → TouchesShadow old new → IsCopyingAs loaded texts old
    → ForSome old.contents (λ files. LeavesOnly old new (Opens loaded texts))
crash_by loaded texts old new touches copying was there =
    only_weaken (AgreeButShadow was) (Opens loaded texts) old new
    (λ files agree. rest_opens loaded texts files (rest_agrees loaded texts was files agree (copying.rests was there)))
    (leaves_only (AgreeButShadow was) old new (shows_own was old there copying.synced) (touches.keeps was))

-- what is read meanwhile opens to it
pub copying_opens : (loaded : Loaded) (texts : List ℕ) (device : Device) → IsCopyingAs loaded texts device → ForSome device.contents (Opens loaded texts)
copying_opens loaded texts device copying files there = rest_opens loaded texts files (copying.rests files there)

-- a disk goes on telling
pub alike_by : (old new : Device) → TouchesShadow old new → TellsAlike old new
alike_by old new touches = turns-alike AgreeButShadow old.contents new.contents touches.others

-- .NDT is cut to nothing and synced, done or not
pub clearing_touches : {T U E F : Type 0} (old mid new : Device) (cut : Result T E) (result : Result U F) → TellsAnImage old → TellsAnImage mid → TellsAnImage new → Resizes Ndt 0 old mid cut
    → Syncs Ndt mid new result → TouchesShadow old new
clearing_touches old mid new cut result tells_old tells_mid tells_new resizes syncs =
    touches-then old mid new (touches-resize 0 old mid cut tells_old tells_mid resizes) (touches-sync mid new result tells_mid tells_new syncs)

-- once .NDT is synced, behind a call that touched it alone, the area is settled
pub synced_copies : {T E : Type 0} (loaded : Loaded) (texts : List ℕ) (old mid new : Device) (result : Result T E) → TouchesShadow old mid → TellsAnImage mid → TellsAnImage new → Syncs Ndt mid new result
    → OnOk result (IsCopyingAs loaded texts old → IsSettledAs loaded texts new)
synced_copies loaded texts old mid new (Err error) touches tells_mid tells_new syncs = tt
synced_copies {T} {E} loaded texts old mid new (Ok value) before tells_mid tells_new syncs = λ was.
    let result : Result T E = Ok value in
    let copying = copying_by loaded texts old mid before was in
    let touches = touches-sync mid new result tells_mid tells_new syncs in
    record {
      rests = (copying_by loaded texts mid new touches copying).rests;
      synced = λ now there.
          let told : mid.contents ≡ Some now = sym syncs.kept ∙ there in
          let shows = (touches.keeps now).shows (shows_own now mid told copying.synced) in
          leaves_both (AgreeButShadow now) (λ left. left Ndt ≡ now Ndt) (λ left. left ≡ now) new.moments
          (λ left agree shadow. same_files left now (λ file. elim (same_file file Ndt) [
            | inl same ↦ subst (λ (f : FileId). left f ≡ now f) (sym same) shadow
            | inr other ↦ agree file other
          ]))
          shows.left
          (durable Ndt now mid new told syncs.done);
    }

-- what each command does to the device before its change, as what touches .NDT alone
pub touches_by : (command : Command) (old new : Device) → OnlyReadsOrCopies command old new → TouchesShadow old new
touches_by (Post to subject text reply_to private) old new reads = touches-read old new reads
touches_by (Edit number subject text) old new reads = touches-read old new reads
touches_by (Read number) old new reads = touches-read old new reads
touches_by (Peek number) old new reads = touches-read old new reads
touches_by (Kill number) old new reads = touches-read old new reads
touches_by (SetMark number) old new reads = touches-read old new reads
touches_by Relink old new reads = touches-read old new reads
touches_by Pack old new touches = touches

-- each but a pack only reads
pub reads_by : (command : Command) (old new : Device) → IsNoPack command → OnlyReadsOrCopies command old new → OnlyReads old new
reads_by (Post to subject text reply_to private) old new none reads = reads
reads_by (Edit number subject text) old new none reads = reads
reads_by (Read number) old new none reads = reads
reads_by (Peek number) old new none reads = reads
reads_by (Kill number) old new none reads = reads
reads_by (SetMark number) old new none reads = reads
reads_by Relink old new none reads = reads
reads_by Pack old new none touches = absurd none

-- what only reads does for each
pub by_reads : (command : Command) (old new : Device) → OnlyReads old new → OnlyReadsOrCopies command old new
by_reads (Post to subject text reply_to private) old new reads = reads
by_reads (Edit number subject text) old new reads = reads
by_reads (Read number) old new reads = reads
by_reads (Peek number) old new reads = reads
by_reads (Kill number) old new reads = reads
by_reads (SetMark number) old new reads = reads
by_reads Relink old new reads = reads
by_reads Pack old new reads = touches-read old new reads

-- a change leaves .NDT
pub kept_shadow : (change : RedoView) (files : Files) → IsLegalRecord Two (sizes_of files) change.lengths change.pieces → changed change files Ndt ≡ files Ndt
kept_shadow change files legal =
    let ends : FileId → ℕ = new_sizes change.lengths (sizes_of files) in
    ap (λ (spans : List Span). patched spans (of_length (ends Ndt) (files Ndt)))
    (no_spans Two (sizes_of files) ends files change.pieces Ndt legal.pieces_are.each (omega arith))
    ∙ resized_same (ends Ndt) (files Ndt) (of_length (ends Ndt) (files Ndt)) (not_given change.lengths (sizes_of files) Ndt legal.lengths_are.each (omega arith))
    (resized_with_zeros (ends Ndt) (files Ndt))

-- copies stay in the files that a change makes of which the texts begin with those before
stay_has : (redo : RedoView) (from : Loaded) (texts : List ℕ) (copies : Option Shadow) (coming : Coming) (was now : Files) → take (length texts) coming.texts ≡ texts → BringsComing redo from texts copies coming
    → Holds from texts was → HoldsCopies copies was → Holds coming.to coming.texts now → AgreeButJournal now (changed redo was) → HoldsCopies copies now
stay_has redo from texts None coming was now grows brings holds has after agree = tt
stay_has redo from texts (Some shadow) coming was now grows brings holds has after agree =
    stays_copied shadow was now has
    (agree Ndt (λ is. let same : file_number Ndt ≡ file_number Jnl = ap file_number is in omega (arith, same)) ∙ kept_shadow redo was (brings.legal was (record { holds = holds; has = has })))
    (ap (λ (l : List ℕ). take (length l) (now Jdt)) holds.texts_are ∙ ap (take (length texts)) after.texts_are ∙ grows ∙ sym holds.texts_are)

-- so do those that are kept once it is done
pub after_has : (change : Change) (redo : RedoView) (from : Loaded) (texts : List ℕ) (copies : Option Shadow) (coming : Coming) (was now : Files)
    → ((IsPacking change → ⊥) → take (length texts) coming.texts ≡ texts)
    → BringsComing redo from texts copies coming → Holds from texts was → HoldsCopies copies was → Holds coming.to coming.texts now → AgreeButJournal now (changed redo was)
    → HoldsCopies (copied_after change copies) now
after_has Nothing redo from texts copies coming was now grows brings holds has after agree = stay_has redo from texts copies coming was now (grows (λ no. no)) brings holds has after agree
after_has (Posted message neighbour) redo from texts copies coming was now grows brings holds has after agree = stay_has redo from texts copies coming was now (grows (λ no. no)) brings holds has after agree
after_has (Headed at) redo from texts copies coming was now grows brings holds has after agree = stay_has redo from texts copies coming was now (grows (λ no. no)) brings holds has after agree
after_has (Edited place message) redo from texts copies coming was now grows brings holds has after agree = stay_has redo from texts copies coming was now (grows (λ no. no)) brings holds has after agree
after_has (Killed place) redo from texts copies coming was now grows brings holds has after agree = stay_has redo from texts copies coming was now (grows (λ no. no)) brings holds has after agree
after_has (Relinked plan) redo from texts copies coming was now grows brings holds has after agree = stay_has redo from texts copies coming was now (grows (λ no. no)) brings holds has after agree
after_has (Marked place mark) redo from texts copies coming was now grows brings holds has after agree = stay_has redo from texts copies coming was now (grows (λ no. no)) brings holds has after agree
after_has (Packed plan base) redo from texts copies coming was now grows brings holds has after agree = tt
