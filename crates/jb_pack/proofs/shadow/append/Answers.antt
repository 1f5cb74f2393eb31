use Rattle.std.proofs.Common.{◌≡◌, ◌+◌, ◌∙◌, ℕ, ap, arith, drop, length, length-take, subst, take}
use Rattle.std.specs.Prelude.{Option}
use Rattle.jb_disk.specs.Device.{Turns}
use Rattle.jb_disk.specs.Files.{Files, InFile, IsResized}
use Rattle.jb_disk.specs.declared.file.FileId.TheVariants.{Jdt, Ndt}
use Rattle.jb_pack.proofs.TouchLemmas.{appended, touches-read, touches-resize, touches-then, touches-write}
use Rattle.jb_pack.proofs.shadow.append.Goals as goal

pub returns-in_err-set_len-clause-kept : goal.returns-in_err-set_len-clause-kept
returns-in_err-set_len-clause-kept g c =
    touches-then (g.D.Disk.device c.args.disk.now) (g.D.Disk.device c.read_at.new.self) (g.D.Disk.device c.set_len.new.self)
    (touches-read (g.D.Disk.device c.args.disk.now) (g.D.Disk.device c.read_at.new.self) c.read_at.ensures.kept)
    (touches-resize _ (g.D.Disk.device c.read_at.new.self) (g.D.Disk.device c.set_len.new.self) c.set_len.result
    (g.met.D.Disk.told c.read_at.new.self) (g.met.D.Disk.told c.set_len.new.self) c.set_len.ensures.changed)

pub returns-in_err-write_at-clause-kept : goal.returns-in_err-write_at-clause-kept
returns-in_err-write_at-clause-kept g c =
    touches-then (g.D.Disk.device c.args.disk.now) (g.D.Disk.device c.set_len.new.self) (g.D.Disk.device c.write_at.new.self)
    (touches-then (g.D.Disk.device c.args.disk.now) (g.D.Disk.device c.read_at.new.self) (g.D.Disk.device c.set_len.new.self)
    (touches-read (g.D.Disk.device c.args.disk.now) (g.D.Disk.device c.read_at.new.self) c.read_at.ensures.kept)
    (touches-resize _ (g.D.Disk.device c.read_at.new.self) (g.D.Disk.device c.set_len.new.self) c.set_len.result
    (g.met.D.Disk.told c.read_at.new.self) (g.met.D.Disk.told c.set_len.new.self) c.set_len.ensures.changed))
    (touches-write _ _ (g.D.Disk.device c.set_len.new.self) (g.D.Disk.device c.write_at.new.self) c.write_at.result
    (g.met.D.Disk.told c.write_at.new.self) c.write_at.ensures.changed c.write_at.ensures.ok c.write_at.ensures.cause)

pub returns-clause-kept : goal.returns-clause-kept
returns-clause-kept g c =
    touches-then (g.D.Disk.device c.args.disk.now) (g.D.Disk.device c.set_len.new.self) (g.D.Disk.device c.write_at.new.self)
    (touches-then (g.D.Disk.device c.args.disk.now) (g.D.Disk.device c.read_at.new.self) (g.D.Disk.device c.set_len.new.self)
    (touches-read (g.D.Disk.device c.args.disk.now) (g.D.Disk.device c.read_at.new.self) c.read_at.ensures.kept)
    (touches-resize _ (g.D.Disk.device c.read_at.new.self) (g.D.Disk.device c.set_len.new.self) c.set_len.result
    (g.met.D.Disk.told c.read_at.new.self) (g.met.D.Disk.told c.set_len.new.self) c.set_len.ensures.changed))
    (touches-write _ _ (g.D.Disk.device c.set_len.new.self) (g.D.Disk.device c.write_at.new.self) c.write_at.result
    (g.met.D.Disk.told c.write_at.new.self) c.write_at.ensures.changed c.write_at.ensures.ok c.write_at.ensures.cause)

pub returns-clause-told : goal.returns-clause-told
returns-clause-told g c =
    let size : length (take c.args.run.len c.args.buffer.now) ≡ c.args.run.len = omega (arith, length-take c.args.run.len c.args.buffer.now) in
    let fills = c.read_at.auto.into in
    appended c.args.run c.args.end (c.args.end + c.args.run.len) c.read_at.new.into (g.D.Disk.device c.args.disk.now).contents (g.D.Disk.device c.set_len.new.self).contents
    (g.D.Disk.device c.write_at.new.self).contents c.requires.end
    (λ files is. c.in_ok-read_at.ensures.found files is ∙ ap (λ (n : ℕ). take n (drop c.args.run.at (files Jdt))) size)
    (omega arith)
    (subst (λ (o : Option Files). Turns (InFile Ndt (IsResized (c.args.end + c.args.run.len))) o (g.D.Disk.device c.set_len.new.self).contents)
    c.read_at.ensures.kept.contents c.in_ok-set_len.ensures.changed.done)
    c.in_ok-write_at.ensures.ok
