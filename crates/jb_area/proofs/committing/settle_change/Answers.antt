use Rattle.jb_disk.proofs.RunLemmas.{stays_silent}
use Rattle.jb_area.proofs.CommitLemmas.{has_stopped, answer_as, again_as, settling_as, stands_firm}
use Rattle.jb_area.proofs.Outcomes.{if_err_then, if_err_then3, if_ok_then2}
use Rattle.jb_area.proofs.committing.settle_change.Goals as goal

pub settle-requires-clause-in_doubt : goal.settle-requires-clause-in_doubt
settle-requires-clause-in_doubt g c = λ was there.
    let may = c.requires.may in
    has_stopped c.args.redo.now c.args.stopped (g.D.Disk.device c.args.disk.now) may.from may.texts may.copies may.coming (may.doubt was there) (may.change.brings was there)

pub returns-clause-answer : goal.returns-clause-answer
returns-clause-answer g c = if_ok_then2 c.settle.result _ _ _ c.settle.ensures.answer c.settle.ensures.durable (λ stands answer durable from texts copies coming doubt is.
    answer_as c.args.redo.now stands c.args.stopped (g.D.Disk.device c.args.disk.now) (g.D.Disk.device c.settle.new.disk) from texts copies coming (stays_silent _ _ c.settle.ensures.alike) answer durable doubt is)

pub returns-clause-again : goal.returns-clause-again
returns-clause-again g c =
    if_err_then3 c.settle.result _ _ _ _ c.settle.ensures.late_stays c.settle.ensures.late_by c.settle.ensures.early_by (λ again stays by early. record { late_stays = stays; late_by = by; early_by = early })

pub returns-clause-still : goal.returns-clause-still
returns-clause-still g c = if_err_then c.settle.result _ _ c.settle.ensures.still (λ again still from texts copies coming doubt is.
    again_as c.args.redo.now c.args.stopped again (g.D.Disk.device c.args.disk.now) (g.D.Disk.device c.settle.new.disk) from texts copies coming (stays_silent _ _ c.settle.ensures.alike) still doubt is)

pub returns-clause-crash : goal.returns-clause-crash
returns-clause-crash g c = λ from texts copies coming doubt is was there.
    settling_as c.args.redo.now c.args.stopped (g.D.Disk.device c.args.disk.now) (g.D.Disk.device c.settle.new.disk) from texts copies coming (doubt was there) (is.brings was there) c.settle.ensures.crash

pub returns-clause-firm : goal.returns-clause-firm
returns-clause-firm g c = λ from texts copies coming doubt is.
    stands_firm c.args.redo.now c.args.stopped (g.D.Disk.device c.args.disk.now) (g.D.Disk.device c.settle.new.disk) from texts copies coming doubt is c.settle.ensures.crash
