use Rattle.std.proofs.Common.{inr}
use Rattle.jb_disk.specs.Memory.{files_of, files_of_list}
use Rattle.jb_disk.proofs.MemoryLemmas.{reads-quiet, present-quiet, done-fails-by, failed-fails-by}
use Rattle.jb_disk.proofs.memory.MemDiskDisk.len.Goals as goal

pub returns-clause-kept : goal.returns-clause-kept
returns-clause-kept c =
    reads-quiet c.args.self.now c.self.inside.first c.self.inside.failing.items c.self.inside.calls.items c.note.new.calls.items c.self.inside.faults c.note.new.faults c.self.view_is (inr c.in_ok-note.ensures.ok)

pub returns-clause-cause : goal.returns-clause-cause
returns-clause-cause c =
    done-fails-by _ _ c.args.self.now c.self.inside.first c.self.inside.failing.items c.self.inside.calls.items c.note.new.calls.items c.self.inside.faults c.note.new.faults c.self.view_is c.in_ok-note.ensures.quiet (λ never. never)

pub returns-in_err-note-clause-kept : goal.returns-in_err-note-clause-kept
returns-in_err-note-clause-kept c =
    reads-quiet c.args.self.now c.self.inside.first c.self.inside.failing.items c.self.inside.calls.items c.note.new.calls.items c.self.inside.faults c.note.new.faults c.self.view_is c.in_err-note.ensures.err

pub returns-in_err-note-clause-cause : goal.returns-in_err-note-clause-cause
returns-in_err-note-clause-cause c =
    failed-fails-by _ _ c.args.self.now c.self.inside.first c.self.inside.failing.items c.self.inside.calls.items c.note.new.calls.items c.self.inside.faults c.note.new.faults c.self.view_is c.from_residual.ensures.0 c.in_err-note.ensures.counted c.note.ensures.later (λ never. never)

pub invariant_of-self : goal.invariant_of-self
invariant_of-self c =
    present-quiet (files_of_list c.self.inside.first) c.self.inside.calls.items c.note.new.calls.items (files_of c.self.inside.present) c.self.invariant c.in_err-note.ensures.err

pub invariant_of-self-2 : goal.invariant_of-self-2
invariant_of-self-2 c =
    present-quiet (files_of_list c.self.inside.first) c.self.inside.calls.items c.note.new.calls.items (files_of c.self.inside.present) c.self.invariant (inr c.in_ok-note.ensures.ok)
