use Rattle.std.proofs.Common.{◌≡◌, ◌∙◌, sym, rules}
use Rattle.std.specs.Prelude.{Some}
use Rattle.jb_disk.specs.Files.{Files}
use Rattle.jb_redo.specs.Applying.{AreResized, IsFault}
use Rattle.jb_redo.proofs.ApplyLemmas.{keeps_after, turns_from}
use Rattle.jb_redo.proofs.RecordLemmas.{fault_alone, mid_lengths, mid_record, set_keeps, set_then_keeps, applied_told, told_still}
use Rattle.jb_redo.proofs.applying.apply.Goals as goal

pub returns-in_err-lengths-clause-fault : goal.returns-in_err-lengths-clause-fault
returns-in_err-lengths-clause-fault g c =
    let fault : (files : Files) → (g.D.Disk.device c.args.disk.now).contents ≡ Some files → IsFault c.in_err-lengths.field-0.0 =
    λ files is. fault_alone files c.in_err-lengths.field-0.0 (c.in_err-lengths.ensures.refused files (c.of.ensures.kept.contents ∙ is)) (c.requires files is) in
    search rules

pub returns-in_err-set_lengths-clause-images : goal.returns-in_err-set_lengths-clause-images
returns-in_err-set_lengths-clause-images g c =
    let device = g.D.Disk.device in
    keeps_after (device c.args.disk.now) (device c.of.new.disk) (device c.set_lengths.new.disk) c.of.ensures.kept
    (set_keeps (device c.of.new.disk) (device c.read_lengths.new.disk) (device c.set_lengths.new.disk) c.in_ok-lengths.lengths.at c.in_ok-lengths.lengths.ends c.read_lengths.ensures.kept c.in_ok-lengths.ensures.found
    c.set_lengths.ensures.images)

pub write_pieces-requires-clause-lengths : goal.write_pieces-requires-clause-lengths
write_pieces-requires-clause-lengths g c = λ mid is.
    let lengths = c.in_ok-lengths.lengths in
    let device = g.D.Disk.device in
    let from = turns_from (AreResized lengths.ends) (device c.read_lengths.new.disk).contents (device c.set_lengths.new.disk).contents mid c.in_ok-set_lengths.ensures.ok is in
    let second = sym c.read_lengths.ensures.kept.contents ∙ from.1 in
    let has = c.requires from.0 (sym c.of.ensures.kept.contents ∙ second) in
    mid_lengths from.0 lengths.at lengths.ends (c.in_ok-lengths.ensures.found from.0 second) has.lengths has.pieces has.is mid from.2

pub write_pieces-requires-clause-record : goal.write_pieces-requires-clause-record
write_pieces-requires-clause-record g c = λ mid is.
    let lengths = c.in_ok-lengths.lengths in
    let device = g.D.Disk.device in
    let from = turns_from (AreResized lengths.ends) (device c.read_lengths.new.disk).contents (device c.set_lengths.new.disk).contents mid c.in_ok-set_lengths.ensures.ok is in
    let second = sym c.read_lengths.ensures.kept.contents ∙ from.1 in
    let has = c.requires from.0 (sym c.of.ensures.kept.contents ∙ second) in
    record {
      lengths = has.lengths;
      pieces = has.pieces;
      is = mid_record from.0 lengths.at lengths.ends (c.in_ok-lengths.ensures.found from.0 second) has.lengths has.pieces has.is mid from.2;
    }

pub returns-clause-ok : goal.returns-clause-ok
returns-clause-ok g c =
    let lengths = c.in_ok-lengths.lengths in
    let device = g.D.Disk.device in
    rw c.of.ensures.kept.contents at
    (rw c.read_lengths.ensures.kept.contents at
    (applied_told c.write_pieces.result (device c.read_lengths.new.disk).contents (device c.set_lengths.new.disk).contents (device c.write_pieces.new.disk).contents lengths.at lengths.ends
    (λ files is. c.in_ok-lengths.ensures.found files (sym c.read_lengths.ensures.kept.contents ∙ is)) c.in_ok-set_lengths.ensures.ok c.write_pieces.ensures.ok))

pub returns-clause-images : goal.returns-clause-images
returns-clause-images g c =
    let lengths = c.in_ok-lengths.lengths in
    let device = g.D.Disk.device in
    let resized = rw c.read_lengths.ensures.kept.contents at c.in_ok-set_lengths.ensures.ok in
    keeps_after (device c.args.disk.now) (device c.of.new.disk) (device c.write_pieces.new.disk) c.of.ensures.kept
    (set_then_keeps (device c.of.new.disk) (device c.set_lengths.new.disk) (device c.write_pieces.new.disk) lengths.at lengths.ends
    (set_keeps (device c.of.new.disk) (device c.read_lengths.new.disk) (device c.set_lengths.new.disk) lengths.at lengths.ends c.read_lengths.ensures.kept c.in_ok-lengths.ensures.found c.set_lengths.ensures.images)
    c.in_ok-lengths.ensures.found resized c.write_pieces.ensures.images)

pub returns-clause-told : goal.returns-clause-told
returns-clause-told g c =
    let device = g.D.Disk.device in
    rw c.of.ensures.kept.contents at
    (rw c.read_lengths.ensures.kept.contents at
    (told_still c.write_pieces.result (device c.read_lengths.new.disk).contents (device c.set_lengths.new.disk).contents (device c.write_pieces.new.disk).contents c.in_ok-lengths.lengths.ends
    c.in_ok-set_lengths.ensures.ok c.write_pieces.ensures.ok))
