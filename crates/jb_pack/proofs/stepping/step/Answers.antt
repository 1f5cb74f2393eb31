use Rattle.std.proofs.Common.{◌∙◌, List, refl, subst, sym}
use Rattle.std.specs.Prelude.{Option}
use Rattle.std.specs.Option.{ForSome}
use Rattle.jb_disk.specs.Files.{Files}
use Rattle.jb_state.specs.declared.loaded.LoadedSlot.{LoadedSlot}
use Rattle.jb_pack.specs.Reaching.{Starts}
use Rattle.jb_pack.specs.Shadow.{HasCopies, Shadow}
use Rattle.jb_pack.proofs.PackerLemmas.{copies_below, copies_some, more_then, start_room, texts_kept}
use Rattle.jb_pack.proofs.RestLemmas.{start_bytes, start_none}
use Rattle.jb_pack.proofs.TouchLemmas.{fails-as, fails-then, synced-ok, touches-sync, touches-then}
use Rattle.jb_pack.proofs.stepping.step.Goals as goal

pub copy_texts-requires-clause-told : goal.copy_texts-requires-clause-told
copy_texts-requires-clause-told g c =
    texts_kept c.args.loaded.now.texts_len (g.D.Disk.device c.args.disk.now).contents (g.D.Disk.device c.start.new.disk).contents c.requires.told c.start.ensures.kept.others

pub copy_texts-requires-clause-some : goal.copy_texts-requires-clause-some
copy_texts-requires-clause-some g c =
    let slots = c.as_slice.ensures in
    let old : Shadow = record { texts = c.args.copies.now; len = c.args.first.behind } in
    let mid : Shadow = record { texts = c.start.new.copies; len = c.in_ok-reach.reach.behind } in
    let starts = subst (λ (l : List LoadedSlot). Starts c.args.budget l old mid c.in_ok-reach.reach) slots c.in_ok-reach.ensures.starts in
    (start_room c.args.budget c.args.loaded.now.slots old mid c.in_ok-reach.reach starts).0

pub copy_texts-requires-clause-room : goal.copy_texts-requires-clause-room
copy_texts-requires-clause-room g c =
    let slots = c.as_slice.ensures in
    let old : Shadow = record { texts = c.args.copies.now; len = c.args.first.behind } in
    let mid : Shadow = record { texts = c.start.new.copies; len = c.in_ok-reach.reach.behind } in
    let starts = subst (λ (l : List LoadedSlot). Starts c.args.budget l old mid c.in_ok-reach.reach) slots c.in_ok-reach.ensures.starts in
    (start_room c.args.budget c.args.loaded.now.slots old mid c.in_ok-reach.reach starts).1

pub returns-clause-copies : goal.returns-clause-copies
returns-clause-copies g c =
    let slots = c.as_slice.ensures in
    let old : Shadow = record { texts = c.args.copies.now; len = c.args.first.behind } in
    let mid : Shadow = record { texts = c.start.new.copies; len = c.in_ok-reach.reach.behind } in
    let starts = subst (λ (l : List LoadedSlot). Starts c.args.budget l old mid c.in_ok-reach.reach) slots c.in_ok-reach.ensures.starts in
    let new : Shadow = record { texts = c.copy_texts.new.copies; len = c.in_ok-end.end } in
    copies_some c.args.budget c.args.loaded.now.slots old old mid new c.in_ok-reach.reach refl refl c.requires.fits starts c.in_ok-end.ensures.copies

pub returns-clause-has : goal.returns-clause-has
returns-clause-has g c =
    subst (λ (o : Option Files). ForSome o (HasCopies (record { texts = c.copy_texts.new.copies; len = c.in_ok-end.end }))) (sym c.in_ok-sync.ensures.changed.kept) c.in_ok-end.ensures.has

pub returns-clause-more : goal.returns-clause-more
returns-clause-more g c =
    let slots = c.as_slice.ensures in
    let old : Shadow = record { texts = c.args.copies.now; len = c.args.first.behind } in
    let mid : Shadow = record { texts = c.start.new.copies; len = c.in_ok-reach.reach.behind } in
    let starts = subst (λ (l : List LoadedSlot). Starts c.args.budget l old mid c.in_ok-reach.reach) slots c.in_ok-reach.ensures.starts in
    let new : Shadow = record { texts = c.copy_texts.new.copies; len = c.in_ok-end.end } in
    c.leaves_more-2.ensures ∙ more_then c.args.budget c.args.loaded.now.slots old mid new c.in_ok-reach.reach starts c.in_ok-end.ensures.copies

pub returns-clause-below : goal.returns-clause-below
returns-clause-below g c =
    let slots = c.as_slice.ensures in
    let old : Shadow = record { texts = c.args.copies.now; len = c.args.first.behind } in
    let mid : Shadow = record { texts = c.start.new.copies; len = c.in_ok-reach.reach.behind } in
    let starts = subst (λ (l : List LoadedSlot). Starts c.args.budget l old mid c.in_ok-reach.reach) slots c.in_ok-reach.ensures.starts in
    let new : Shadow = record { texts = c.copy_texts.new.copies; len = c.in_ok-end.end } in
    copies_below c.args.budget c.args.loaded.now.slots old new
    (copies_some c.args.budget c.args.loaded.now.slots old old mid new c.in_ok-reach.reach refl refl c.requires.fits starts c.in_ok-end.ensures.copies)

pub returns-clause-durable : goal.returns-clause-durable
returns-clause-durable g c =
    synced-ok (g.D.Disk.device c.args.disk.now) (g.D.Disk.device c.copy_texts.new.disk) (g.D.Disk.device c.sync.new.self) c.sync.result tt c.in_ok-sync.was
    (touches-then (g.D.Disk.device c.args.disk.now) (g.D.Disk.device c.start.new.disk) (g.D.Disk.device c.copy_texts.new.disk) c.start.ensures.kept c.copy_texts.ensures.kept)
    (touches-sync (g.D.Disk.device c.copy_texts.new.disk) (g.D.Disk.device c.sync.new.self) c.sync.result
    (g.met.D.Disk.told c.copy_texts.new.disk) (g.met.D.Disk.told c.sync.new.self) c.sync.ensures.changed)
    c.sync.ensures.changed

pub returns-in_err-end-clause-kept : goal.returns-in_err-end-clause-kept
returns-in_err-end-clause-kept g c =
    touches-then (g.D.Disk.device c.args.disk.now) (g.D.Disk.device c.start.new.disk) (g.D.Disk.device c.copy_texts.new.disk) c.start.ensures.kept c.copy_texts.ensures.kept

pub returns-in_err-sync-clause-kept : goal.returns-in_err-sync-clause-kept
returns-in_err-sync-clause-kept g c =
    touches-then (g.D.Disk.device c.args.disk.now) (g.D.Disk.device c.copy_texts.new.disk) (g.D.Disk.device c.sync.new.self)
    (touches-then (g.D.Disk.device c.args.disk.now) (g.D.Disk.device c.start.new.disk) (g.D.Disk.device c.copy_texts.new.disk) c.start.ensures.kept c.copy_texts.ensures.kept)
    (touches-sync (g.D.Disk.device c.copy_texts.new.disk) (g.D.Disk.device c.sync.new.self) c.sync.result
    (g.met.D.Disk.told c.copy_texts.new.disk) (g.met.D.Disk.told c.sync.new.self) c.sync.ensures.changed)

pub returns-clause-kept : goal.returns-clause-kept
returns-clause-kept g c =
    touches-then (g.D.Disk.device c.args.disk.now) (g.D.Disk.device c.copy_texts.new.disk) (g.D.Disk.device c.sync.new.self)
    (touches-then (g.D.Disk.device c.args.disk.now) (g.D.Disk.device c.start.new.disk) (g.D.Disk.device c.copy_texts.new.disk) c.start.ensures.kept c.copy_texts.ensures.kept)
    (touches-sync (g.D.Disk.device c.copy_texts.new.disk) (g.D.Disk.device c.sync.new.self) c.sync.result
    (g.met.D.Disk.told c.copy_texts.new.disk) (g.met.D.Disk.told c.sync.new.self) c.sync.ensures.changed)

pub copy_texts-requires-clause-bytes : goal.copy_texts-requires-clause-bytes
copy_texts-requires-clause-bytes g c =
    let slots = c.as_slice.ensures in
    let old : Shadow = record { texts = c.args.copies.now; len = c.args.first.behind } in
    let mid : Shadow = record { texts = c.start.new.copies; len = c.in_ok-reach.reach.behind } in
    let starts = subst (λ (l : List LoadedSlot). Starts c.args.budget l old mid c.in_ok-reach.reach) slots c.in_ok-reach.ensures.starts in
    start_bytes c.args.budget c.args.loaded.now.slots old mid c.in_ok-reach.reach starts

pub returns-then-reach-eq0-clause-copies : goal.returns-then-reach-eq0-clause-copies
returns-then-reach-eq0-clause-copies g c =
    let slots = c.as_slice.ensures in
    let old : Shadow = record { texts = c.args.copies.now; len = c.args.first.behind } in
    let mid : Shadow = record { texts = c.start.new.copies; len = c.in_ok-reach.reach.behind } in
    let starts = subst (λ (l : List LoadedSlot). Starts c.args.budget l old mid c.in_ok-reach.reach) slots c.in_ok-reach.ensures.starts in
    let within = (start_room c.args.budget c.args.loaded.now.slots old mid c.in_ok-reach.reach starts).0 in
    let none = start_none c.args.budget c.args.loaded.now.slots old mid c.in_ok-reach.reach starts within c.if-reach-eq0.true in
    copies_some c.args.budget c.args.loaded.now.slots old old mid mid c.in_ok-reach.reach refl refl c.requires.fits starts none

pub returns-then-reach-eq0-clause-more : goal.returns-then-reach-eq0-clause-more
returns-then-reach-eq0-clause-more g c =
    let slots = c.as_slice.ensures in
    let old : Shadow = record { texts = c.args.copies.now; len = c.args.first.behind } in
    let mid : Shadow = record { texts = c.start.new.copies; len = c.in_ok-reach.reach.behind } in
    let starts = subst (λ (l : List LoadedSlot). Starts c.args.budget l old mid c.in_ok-reach.reach) slots c.in_ok-reach.ensures.starts in
    let within = (start_room c.args.budget c.args.loaded.now.slots old mid c.in_ok-reach.reach starts).0 in
    let none = start_none c.args.budget c.args.loaded.now.slots old mid c.in_ok-reach.reach starts within c.if-reach-eq0.true in
    c.leaves_more.ensures ∙ more_then c.args.budget c.args.loaded.now.slots old mid mid c.in_ok-reach.reach starts none

pub returns-in_err-reach-clause-cause : goal.returns-in_err-reach-clause-cause
returns-in_err-reach-clause-cause g c = fails-as _ _ _ _ refl c.from_residual.ensures.0 c.in_err-reach.ensures.cause

pub returns-then-reach-eq0-clause-cause : goal.returns-then-reach-eq0-clause-cause
returns-then-reach-eq0-clause-cause g c =
    let cause = c.in_ok-reach.ensures.cause in
    record { kept = cause.kept; later = cause.later; failed = tt; refused = λ none. absurd none; alike = cause.alike }

pub returns-in_err-end-clause-cause : goal.returns-in_err-end-clause-cause
returns-in_err-end-clause-cause g c =
    fails-then _ _ _ _ c.in_ok-reach.ensures.cause.kept c.start.ensures.kept (fails-as _ _ _ _ refl c.from_residual-in_err-end.ensures.0 c.in_err-end.ensures.cause)

pub returns-in_err-sync-clause-cause : goal.returns-in_err-sync-clause-cause
returns-in_err-sync-clause-cause g c =
    fails-then _ _ _ _ (c.in_ok-end.ensures.cause.kept ∙ c.in_ok-reach.ensures.cause.kept) (touches-then _ _ _ c.start.ensures.kept c.copy_texts.ensures.kept)
    (fails-as _ _ _ _ refl c.from_residual-in_err-sync.ensures.0 c.in_err-sync.ensures.cause)

pub returns-clause-cause : goal.returns-clause-cause
returns-clause-cause g c =
    let cause = c.in_ok-sync.ensures.cause in
    fails-then _ _ _ _ (c.in_ok-end.ensures.cause.kept ∙ c.in_ok-reach.ensures.cause.kept) (touches-then _ _ _ c.start.ensures.kept c.copy_texts.ensures.kept)
    (record { kept = cause.kept; later = cause.later; failed = tt; refused = λ none. absurd none; alike = cause.alike })
