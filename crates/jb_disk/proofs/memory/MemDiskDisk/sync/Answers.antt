use Rattle.jb_disk.specs.Memory.{files_of, files_of_list}
use Rattle.jb_disk.proofs.MemoryLemmas.{counted-fails-by, present-synced, syncs}
use Rattle.jb_disk.proofs.memory.MemDiskDisk.sync.Goals as goal

pub returns-clause-changed : goal.returns-clause-changed
returns-clause-changed c =
    syncs c.note.result c.args.self.now c.self.inside.first c.self.inside.failing.items c.self.inside.calls.items c.note.new.calls.items c.self.inside.faults c.note.new.faults c.args.file c.self.view_is c.note.ensures.ok c.note.ensures.err

pub invariant_of-self : goal.invariant_of-self
invariant_of-self c =
    present-synced c.note.result (files_of_list c.self.inside.first) c.args.file c.self.inside.calls.items c.note.new.calls.items (files_of c.self.inside.present) c.self.invariant c.note.ensures.ok c.note.ensures.err

pub returns-clause-cause : goal.returns-clause-cause
returns-clause-cause c =
    counted-fails-by c.note.result c.args.self.now c.self.inside.first c.self.inside.failing.items c.self.inside.calls.items c.note.new.calls.items c.self.inside.faults c.note.new.faults c.self.view_is
    c.note.ensures.quiet c.note.ensures.counted c.note.ensures.later
