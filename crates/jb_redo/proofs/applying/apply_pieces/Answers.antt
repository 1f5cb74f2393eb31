use Rattle.std.proofs.Common.{◌≡◌, ◌∙◌, ap, refl, sym, arith, rules}
use Rattle.std.specs.Prelude.{is_some}
use Rattle.jb_redo.proofs.ApplyLemmas.{nothing_keeps, keeps_after, keeps_before, keeps_part, told_start, told_done, told_fixed, told_none_back, told_part_room, told_next, told_covers}
use Rattle.jb_redo.proofs.OneReading.{record_or_bad_place}
use Rattle.jb_redo.proofs.WalkLemmas.{bad_piece_count, no_number}
use Rattle.jb_redo.proofs.applying.apply_pieces.Goals as goal

pub returns-in_default-clause-fault : goal.returns-in_default-clause-fault
returns-in_default-clause-fault g c = λ files is.
    let none = rw c.in_default.is at c.in_ok-count.ensures.none in
    record_or_bad_place files c.args.lengths.now.at
    (bad_piece_count files c.args.lengths.now.at c.args.lengths.now.ends (c.requires.lengths files is) (λ n low. no_number files c.args.lengths.now.at n (none files is))) (c.requires.record files is)

pub loop-init : goal.loop-init
loop-init g c =
    let found = rw c.in-Some.is at c.in_ok-count.ensures.found in
    let fits = rw c.in-Some.is at c.in_ok-count.ensures.fits in
    let kept = c.read_number.ensures.kept.contents in
    record {
      size = search rules;
      quiet = refl;
      alike = refl;
      told = told_start c.in-Some.count c.args.lengths.now.at c.args.lengths.now.ends (g.D.Disk.device c.read_number.new.disk).contents
          (λ files is. c.requires.lengths files (sym kept ∙ is)) fits (λ files is. found files (sym kept ∙ is));
      images = nothing_keeps (g.D.Disk.device c.read_number.new.disk);
    }

pub read_part-requires : goal.read_part-requires
read_part-requires g c =
    let kept = c.read_number.ensures.kept.contents in
    told_fixed c.in-Some.count c.loop.counter c.loop.at c.args.lengths.now.ends (g.D.Disk.device c.read_number.new.disk).contents (g.D.Disk.device c.loop.disk).contents
    (λ files is. c.requires.sized files (sym kept ∙ is)) c.loop.invariant.told

pub returns-in_err-part-clause-images : goal.returns-in_err-part-clause-images
returns-in_err-part-clause-images g c =
    let device = g.D.Disk.device in
    keeps_after (device c.args.disk.now) (device c.read_number.new.disk) (device c.read_part.new.disk) c.read_number.ensures.kept
    (keeps_before (device c.read_number.new.disk) (device c.loop.disk) (device c.read_part.new.disk) c.loop.invariant.images c.read_part.ensures.kept)

pub returns-in_default-2-clause-images : goal.returns-in_default-2-clause-images
returns-in_default-2-clause-images g c =
    let device = g.D.Disk.device in
    keeps_after (device c.args.disk.now) (device c.read_number.new.disk) (device c.read_part.new.disk) c.read_number.ensures.kept
    (keeps_before (device c.read_number.new.disk) (device c.loop.disk) (device c.read_part.new.disk) c.loop.invariant.images c.read_part.ensures.kept)

pub returns-in_default-2-clause-fault : goal.returns-in_default-2-clause-fault
returns-in_default-2-clause-fault g c =
    let kept = c.read_number.ensures.kept.contents in
    let none = rw c.in_default-2.is at c.in_ok-part.ensures.none in
    λ files is.
    told_none_back c.in-Some.count c.loop.counter c.loop.at c.args.lengths.now.ends (g.D.Disk.device c.read_number.new.disk).contents (g.D.Disk.device c.loop.disk).contents
    (λ f here. c.requires.sized f (sym kept ∙ here)) c.loop.invariant.told c.loop-test.true none (λ f here. c.requires.record f (sym kept ∙ here)) files (kept ∙ is)

pub copy_part-requires-clause-room : goal.copy_part-requires-clause-room
copy_part-requires-clause-room g c =
    let kept = c.read_number.ensures.kept.contents in
    let sound = rw c.in-Some-2.is at c.in_ok-part.ensures.sound in
    let found = rw c.in-Some-2.is at c.in_ok-part.ensures.found in
    λ files is.
    told_part_room c.in-Some.count c.loop.counter c.loop.at c.args.lengths.now.ends (g.D.Disk.device c.read_number.new.disk).contents (g.D.Disk.device c.loop.disk).contents
    (λ f here. c.requires.sized f (sym kept ∙ here)) c.loop.invariant.told c.in-Some-2.part sound found files (sym c.read_part.ensures.kept.contents ∙ is)

pub returns-in_err-copy_part-clause-images : goal.returns-in_err-copy_part-clause-images
returns-in_err-copy_part-clause-images g c =
    let device = g.D.Disk.device in
    let kept = c.read_number.ensures.kept.contents in
    let part = c.in-Some-2.part in
    let sound = rw c.in-Some-2.is at c.in_ok-part.ensures.sound in
    let found = rw c.in-Some-2.is at c.in_ok-part.ensures.found in
    keeps_after (device c.args.disk.now) (device c.read_number.new.disk) (device c.copy_part.new.disk) c.read_number.ensures.kept
    (keeps_part (device c.read_number.new.disk) (device c.read_part.new.disk) (device c.copy_part.new.disk) part.to part.to_at part.len
    (keeps_before (device c.read_number.new.disk) (device c.loop.disk) (device c.read_part.new.disk) c.loop.invariant.images c.read_part.ensures.kept) c.copy_part.ensures.images
    (told_covers c.in-Some.count c.loop.counter c.loop.at c.args.lengths.now.ends (device c.read_number.new.disk).contents (device c.loop.disk).contents
    (λ f here. c.requires.sized f (sym kept ∙ here)) c.loop.invariant.told part sound found c.loop-test.true))

pub loop-preserved : goal.loop-preserved
loop-preserved g c =
    let device = g.D.Disk.device in
    let kept = c.read_number.ensures.kept.contents in
    let part = c.in-Some-2.part in
    let sound = rw c.in-Some-2.is at c.in_ok-part.ensures.sound in
    let found = rw c.in-Some-2.is at c.in_ok-part.ensures.found in
    record {
      size = c.copy_part.ensures.size ∙ c.loop.invariant.size;
      quiet = c.in_ok-copy_part.ensures.faults.quiet ∙ c.in_ok-part.ensures.faults.quiet ∙ c.loop.invariant.quiet;
      alike = c.copy_part.ensures.alike ∙ ap is_some c.read_part.ensures.kept.contents ∙ c.loop.invariant.alike;
      told = told_next c.in-Some.count c.loop.counter c.loop.at c.args.lengths.now.ends (device c.read_number.new.disk).contents (device c.loop.disk).contents
          (λ f here. c.requires.sized f (sym kept ∙ here)) c.loop.invariant.told part sound found (device c.copy_part.new.disk).contents c.loop-test.true
          (rw c.read_part.ensures.kept.contents at c.in_ok-copy_part.ensures.ok);
      images = keeps_part (device c.read_number.new.disk) (device c.read_part.new.disk) (device c.copy_part.new.disk) part.to part.to_at part.len
          (keeps_before (device c.read_number.new.disk) (device c.loop.disk) (device c.read_part.new.disk) c.loop.invariant.images c.read_part.ensures.kept) c.copy_part.ensures.images
          (told_covers c.in-Some.count c.loop.counter c.loop.at c.args.lengths.now.ends (device c.read_number.new.disk).contents (device c.loop.disk).contents
          (λ f here. c.requires.sized f (sym kept ∙ here)) c.loop.invariant.told part sound found c.loop-test.true);
    }

pub returns-clause-ok : goal.returns-clause-ok
returns-clause-ok g c =
    let end = c.loop.auto.counter-end in
    let all = c.loop-test.false in
    let same : c.loop.counter ≡ c.in-Some.count = omega arith in
    rw c.read_number.ensures.kept.contents at
    (told_done c.in-Some.count c.loop.counter c.loop.at c.args.lengths.now.ends (g.D.Disk.device c.read_number.new.disk).contents (g.D.Disk.device c.loop.disk).contents same c.loop.invariant.told)

pub returns-clause-images : goal.returns-clause-images
returns-clause-images g c =
    let device = g.D.Disk.device in
    keeps_after (device c.args.disk.now) (device c.read_number.new.disk) (device c.loop.disk) c.read_number.ensures.kept c.loop.invariant.images
