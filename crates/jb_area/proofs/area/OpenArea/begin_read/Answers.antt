use Rattle.std.proofs.Common.{None}
use Rattle.jb_area.proofs.StartLemmas.{begins, holds_own}
use Rattle.jb_area.proofs.area.OpenArea.begin_read.Goals as goal

pub decide_read-decided-requires-clause-holds : goal.decide_read-decided-requires-clause-holds
decide_read-decided-requires-clause-holds g c =
    let has = c.requires.rests in
    holds_own c.args.self.now.held has.texts (g.D.Disk.device c.args.self.now.disk) has.rests.kept.settled

pub returns : goal.returns
returns g c =
    let has = c.requires.rests in
    begins g.D.Disk.device c.args.self.now c.start.new.self c.decide_read-decided.new.disk c.decide_read-decided.new.redo None c.start.ensures.disk c.start.ensures.rules c.start.ensures.held c.start.ensures.redo c.start.ensures.packer c.start.ensures.commits c.start.ensures.packs
    c.decide_read-decided.ensures.reads c.decide_read-decided.ensures.room c.decide_read-decided.result c.start.result c.args.user.now c.args.moment _ c.start.ensures.stage c.start.ensures.large c.start.ensures.answer
    c.decide_read-decided.ensures.decided c.decide_read-decided.ensures.faults has
