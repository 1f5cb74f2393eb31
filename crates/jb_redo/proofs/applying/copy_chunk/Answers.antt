use Rattle.std.proofs.Common.{◌+◌, length}
use Rattle.jb_redo.proofs.CopyLemmas.{chunk_keeps, chunk_told}
use Rattle.jb_redo.proofs.applying.copy_chunk.Goals as goal

pub returns-clause-ok : goal.returns-clause-ok
returns-clause-ok g c =
    let kept = c.read_at.ensures.kept in
    chunk_told c.write_at.result (g.D.Disk.device c.args.disk.now).contents (g.D.Disk.device c.write_at.new.self).contents c.args.part.now c.args.done (length c.args.chunk.now) c.read_at.new.into
    (rw kept.contents at c.write_at.ensures.ok) c.in_ok-read_at.ensures.found

pub returns-clause-images : goal.returns-clause-images
returns-clause-images g c =
    let part = c.args.part.now in
    chunk_keeps part.to (part.to_at + c.args.done) (length c.args.chunk.now) c.read_at.new.into (g.D.Disk.device c.args.disk.now) (g.D.Disk.device c.read_at.new.self) (g.D.Disk.device c.write_at.new.self)
    c.write_at.result c.read_at.auto.into (g.met.D.Disk.told c.write_at.new.self) c.read_at.ensures.kept c.write_at.ensures.changed c.write_at.ensures.ok c.write_at.ensures.cause
