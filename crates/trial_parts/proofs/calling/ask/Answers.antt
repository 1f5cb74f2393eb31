use Rattle.trial_parts.proofs.LeavesLemmas.{leaves}
use Rattle.trial_parts.proofs.calling.ask.Goals as goal

pub returns-in-Post : goal.returns-in-Post
returns-in-Post g c = leaves g.D.Disk.device c.args.area.now c.post.new.self _ _ _ c.post.result c.requires c.post.ensures.meets

pub returns-in-Edit : goal.returns-in-Edit
returns-in-Edit g c = leaves g.D.Disk.device c.args.area.now c.edit.new.self _ _ _ c.edit.result c.requires (c.edit.ensures.meets 0)

pub returns-in-Read : goal.returns-in-Read
returns-in-Read g c = leaves g.D.Disk.device c.args.area.now c.read.new.self _ _ _ c.read.result c.requires c.read.ensures.meets

pub returns-in-Peek : goal.returns-in-Peek
returns-in-Peek g c = leaves g.D.Disk.device c.args.area.now c.peek.new.self _ _ _ c.peek.result c.requires (c.peek.ensures.meets 0)

pub returns-in-Kill : goal.returns-in-Kill
returns-in-Kill g c = leaves g.D.Disk.device c.args.area.now c.kill.new.self _ _ _ c.kill.result c.requires (c.kill.ensures.meets 0)

pub returns-in-SetMark : goal.returns-in-SetMark
returns-in-SetMark g c = leaves g.D.Disk.device c.args.area.now c.set_mark.new.self _ _ _ c.set_mark.result c.requires (c.set_mark.ensures.meets 0)

pub returns-in-Relink : goal.returns-in-Relink
returns-in-Relink g c = leaves g.D.Disk.device c.args.area.now c.relink.new.self _ _ _ c.relink.result c.requires (c.relink.ensures.meets 0)

pub returns-in-Pack : goal.returns-in-Pack
returns-in-Pack g c = leaves g.D.Disk.device c.args.area.now c.pack.new.self _ _ _ c.pack.result c.requires (c.pack.ensures.meets 0)
