use Rattle.std.proofs.Common.{◌≡◌, ◌∙◌, refl, ◌+◌, ◌≤◌, length, take, drop, arith}
use Rattle.std.proofs.lemmas.List.{length-take-le, length-append, length-drop}
use Rattle.jb_disk.proofs.RunLemmas.{keeps-refl}
use Rattle.jb_redo.specs.OnTheWay.{IsOnTheWay}
use Rattle.jb_redo.proofs.CopyLemmas.{told_none, told_more, told_room, range_keeps}
use Rattle.jb_redo.proofs.applying.copy_part.Goals as goal

pub loop-done-init : goal.loop-done-init
loop-done-init g c = record {
  size = refl;
  few = omega arith;
  quiet = refl;
  alike = refl;
  told = told_none c.args.part.now (g.D.Disk.device c.args.disk.now).contents;
  images = λ lengths pieces start covers. keeps-refl (IsOnTheWay lengths pieces start) (g.D.Disk.device c.args.disk.now);
}

pub copy_chunk-requires-clause-room : goal.copy_chunk-requires-clause-room
copy_chunk-requires-clause-room g c =
    told_room c.args.part.now c.loop-done.done (g.D.Disk.device c.args.disk.now).contents (g.D.Disk.device c.loop-done.disk).contents c.requires.sound c.requires.room c.loop-done.invariant.few
    c.loop-done.invariant.told

pub returns-in_err-copy_chunk-clause-images : goal.returns-in_err-copy_chunk-clause-images
returns-in_err-copy_chunk-clause-images g c =
    let part = c.args.part.now in
    let n = length (take c.min-count.result c.loop-done.buffer) in
    let buffer = c.loop-done.invariant.size in
    let count = c.min-count.ensures in
    let size : n ≡ c.min-count.result = length-take-le c.min-count.result c.loop-done.buffer (omega (arith, count)) in
    range_keeps part.to part.to_at part.len (part.to_at + c.loop-done.done) n (g.D.Disk.device c.args.disk.now) (g.D.Disk.device c.loop-done.disk) (g.D.Disk.device c.copy_chunk.new.disk)
    (omega arith) (let few = c.loop-done.invariant.few in omega (arith, size, count)) c.loop-done.invariant.images c.copy_chunk.ensures.images

pub loop-done-preserved : goal.loop-done-preserved
loop-done-preserved g c =
    let part = c.args.part.now in
    let n = length (take c.min-count.result c.loop-done.buffer) in
    let buffer = c.loop-done.invariant.size in
    let count = c.min-count.ensures in
    let few = c.loop-done.invariant.few in
    let size : n ≡ c.min-count.result = length-take-le c.min-count.result c.loop-done.buffer (omega (arith, count)) in
    let whole : c.loop-done.done + n ≤ part.len = omega (arith, size, count) in
    record {
      size = omega (arith, length-append c.copy_chunk.new.chunk (drop c.min-count.result c.loop-done.buffer), length-drop c.min-count.result c.loop-done.buffer, c.copy_chunk.ensures.size, size, count);
      few = omega (arith, count);
      quiet = c.in_ok-copy_chunk.ensures.faults.quiet ∙ c.loop-done.invariant.quiet;
      alike = c.copy_chunk.ensures.alike ∙ c.loop-done.invariant.alike;
      told = rw size at (told_more part c.loop-done.done n (g.D.Disk.device c.args.disk.now).contents (g.D.Disk.device c.loop-done.disk).contents (g.D.Disk.device c.copy_chunk.new.disk).contents
          c.requires.sound c.requires.room whole c.loop-done.invariant.told c.in_ok-copy_chunk.ensures.ok);
      images = range_keeps part.to part.to_at part.len (part.to_at + c.loop-done.done) n (g.D.Disk.device c.args.disk.now) (g.D.Disk.device c.loop-done.disk) (g.D.Disk.device c.copy_chunk.new.disk)
          (omega arith) (omega arith) c.loop-done.invariant.images c.copy_chunk.ensures.images;
    }
