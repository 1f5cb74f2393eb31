use Rattle.std.proofs.Common.{None}
use Rattle.jb_area.proofs.Outcomes.{if_ok_then}
use Rattle.jb_area.proofs.StartLemmas.{begins, holds_own}
use Rattle.jb_area.proofs.area.OpenArea.begin_peek.Goals as goal

pub decide_peek-decided-requires-clause-holds : goal.decide_peek-decided-requires-clause-holds
decide_peek-decided-requires-clause-holds g c =
    let has = c.requires.rests in
    holds_own c.args.self.now.held has.texts (g.D.Disk.device c.args.self.now.disk) has.rests.kept.settled

pub returns : goal.returns
returns g c = λ moment.
    let has = c.requires.rests in
    begins g.D.Disk.device c.args.self.now c.start.new.self c.decide_peek-decided.new.disk c.args.self.now.redo None c.start.ensures.disk c.start.ensures.rules c.start.ensures.held c.start.ensures.redo c.start.ensures.packer c.start.ensures.commits c.start.ensures.packs
    c.decide_peek-decided.ensures.reads has.rests.kept.ruled.room c.decide_peek-decided.result c.start.result c.args.user.now moment _ c.start.ensures.stage c.start.ensures.large c.start.ensures.answer
    (if_ok_then c.decide_peek-decided.result _ _ c.decide_peek-decided.ensures.decided (λ decided is. is moment c.args.self.now.redo))
    c.decide_peek-decided.ensures.faults has
