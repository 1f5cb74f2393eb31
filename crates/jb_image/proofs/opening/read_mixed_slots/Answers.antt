use Rattle.std.proofs.Common.{List, IfOk, All, AllPairs, length, ap, ◌∙◌, subst, arith}
use Rattle.std.proofs.lemmas.Result.{IfOk-weaker, IfErr-weaker}
use Rattle.jb_disk.specs.Files.{Files}
use Rattle.jb_state.specs.declared.loaded.LoadedSlot.{LoadedSlot}
use Rattle.jb_state.specs.Sound.{AreApart, IsSlotWithin}
use Rattle.jb_image.specs.Answers.{IsDamaged}
use Rattle.jb_image.specs.Places.{entry_in}
use Rattle.jb_image.specs.declared.error.OpenError.{OpenError}
use Rattle.jb_image.specs.declared.seen.SeenSlot.{SeenSlot}
use Rattle.std.specs.Option.{ForSome}
use Rattle.jb_image.specs.Reading.{AreLoadedFrom, AreSlotsOf, IsRefusedAmongSlots}
use Rattle.jb_image.proofs.FileBytes.{reads_on}
use Rattle.jb_image.proofs.HeaderExtents.{all_apart, all_within, later_refused}
use Rattle.jb_image.proofs.Refusals.{from_if_none, if_some_told, refused_among_slots}
use Rattle.jb_image.proofs.opening.read_mixed_slots.Goals as goal

pub returns-in-Some-clause-refused : goal.returns-in-Some-clause-refused
returns-in-Some-clause-refused g c = λ files contents_is.
    let first = c.reach_all.ensures.kept.contents ∙ contents_is in
    let now = c.see_slots.ensures.kept.contents ∙ first in
    let later = rw c.in-Some.is at c.in_ok-later.ensures.found in
    let passed = c.in_ok-test_slots-in-Some.ensures.passed files now in
    let same = ap length c.as_slice-slots.ensures.value in
    let index_is = (c.requires.lengths files contents_is).index in
    later_refused files c.args.base c.args.count c.in_ok-seen.seen.slots.items c.in_ok-seen.seen.damage c.in-Some.later
    (c.requires.base files contents_is) (omega (arith, c.requires.all, index_is)) (c.in_ok-seen.ensures.found files first)
    (λ k low. passed k (omega (arith, low, same)))
    c.in_ok-seen.ensures.whole c.in_ok-seen.ensures.part
    (if_some_told c.in_ok-seen.seen.damage (g.D.Disk.device c.reach_all.new.disk).contents files (λ (told : Files) damage. IsDamaged told (entry_in told (length c.in_ok-seen.seen.slots.items)) damage) first c.in_ok-seen.ensures.damaged) later

pub returns-clause-within : goal.returns-clause-within
returns-clause-within g c =
    let found = subst (λ (l : List SeenSlot). IfOk c.load_slots.result (AreLoadedFrom c.args.lengths.now.texts l)) c.as_slice-slots.ensures.value c.load_slots.ensures.found in
    IfOk-weaker c.load_slots.result _ (All (IsSlotWithin c.args.lengths.now.headers c.args.lengths.now.texts))
    (λ made from. all_within c.args.lengths.now.headers c.args.lengths.now.texts c.in_ok-seen.seen.slots.items made c.in_ok-seen.ensures.within from) found

pub returns-clause-apart : goal.returns-clause-apart
returns-clause-apart g c =
    let found = subst (λ (l : List SeenSlot). IfOk c.load_slots.result (AreLoadedFrom c.args.lengths.now.texts l)) c.as_slice-slots.ensures.value c.load_slots.ensures.found in
    let none = rw c.in-None.is at c.in_ok-later.ensures.none in
    let whole = rw c.in-None.is at c.in_ok-later.ensures.whole in
    IfOk-weaker c.load_slots.result _ (AllPairs AreApart)
    (λ made from. all_apart c.args.lengths.now.texts c.in_ok-seen.seen.slots.items made (from_if_none c.in_ok-seen.seen.damage whole none) from) found

pub returns-clause-named : goal.returns-clause-named
returns-clause-named g c =
    IfOk-weaker c.load_slots.result _ (λ (slots : List LoadedSlot). ForSome (g.D.Disk.device c.args.disk.now).contents (λ files. AreSlotsOf files slots))
    (λ slots named files contents_is. named files (c.see_slots.ensures.kept.contents ∙ c.reach_all.ensures.kept.contents ∙ contents_is)) c.load_slots.ensures.named

pub returns-clause-refused : goal.returns-clause-refused
returns-clause-refused g c =
    IfErr-weaker c.load_slots.result _ (λ (error : OpenError). ForSome (g.D.Disk.device c.args.disk.now).contents (λ files. IsRefusedAmongSlots files error))
    (λ error refused files contents_is. refused_among_slots files error (refused files (c.see_slots.ensures.kept.contents ∙ c.reach_all.ensures.kept.contents ∙ contents_is))) c.load_slots.ensures.refused

pub returns-in_err-seen-clause-kept : goal.returns-in_err-seen-clause-kept
returns-in_err-seen-clause-kept g c = reads_on _ _ _ c.reach_all.ensures.kept c.see_slots.ensures.kept

pub returns-in_err-later-clause-kept : goal.returns-in_err-later-clause-kept
returns-in_err-later-clause-kept g c = reads_on _ _ _ c.reach_all.ensures.kept c.see_slots.ensures.kept

pub returns-in-Some-clause-kept : goal.returns-in-Some-clause-kept
returns-in-Some-clause-kept g c = reads_on _ _ _ (reads_on _ _ _ c.reach_all.ensures.kept c.see_slots.ensures.kept) c.test_slots.ensures.kept

pub returns-in_err-test_slots-in-Some-clause-kept : goal.returns-in_err-test_slots-in-Some-clause-kept
returns-in_err-test_slots-in-Some-clause-kept g c = reads_on _ _ _ (reads_on _ _ _ c.reach_all.ensures.kept c.see_slots.ensures.kept) c.test_slots.ensures.kept

pub returns-clause-kept : goal.returns-clause-kept
returns-clause-kept g c = reads_on _ _ _ (reads_on _ _ _ c.reach_all.ensures.kept c.see_slots.ensures.kept) c.load_slots.ensures.kept
