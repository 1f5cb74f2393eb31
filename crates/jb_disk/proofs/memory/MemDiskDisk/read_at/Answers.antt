use Rattle.std.proofs.Common.{◌+◌, ◌<◌, ◌≤◌, length, rules, inr}
use Rattle.jb_disk.specs.Memory.{files_of, files_of_list}
use Rattle.jb_disk.proofs.MemoryLemmas.{past-fails-by, within-not-past, reads-quiet, present-quiet, done-fails-by, failed-fails-by}
use Rattle.jb_disk.proofs.memory.MemDiskDisk.read_at.Goals as goal

pub returns-clause-kept : goal.returns-clause-kept
returns-clause-kept c =
    reads-quiet c.args.self.now c.self.inside.first c.self.inside.failing.items c.self.inside.calls.items c.note.new.calls.items c.self.inside.faults c.note.new.faults c.self.view_is (inr c.in_ok-note.ensures.ok)

pub returns-clause-cause : goal.returns-clause-cause
returns-clause-cause c =
    let within : c.args.at + length c.args.into.now ≤ length (files_of c.self.inside.present c.args.file) = search rules in
    done-fails-by _ _ c.args.self.now c.self.inside.first c.self.inside.failing.items c.self.inside.calls.items c.note.new.calls.items c.self.inside.faults c.note.new.faults c.self.view_is c.in_ok-note.ensures.quiet
    (within-not-past c.args.self.now c.self.inside.first c.self.inside.failing.items c.self.inside.calls.items c.self.inside.faults (files_of c.self.inside.present) c.args.file _ c.self.view_is c.self.invariant within)

pub returns-in_err-note-clause-kept : goal.returns-in_err-note-clause-kept
returns-in_err-note-clause-kept c =
    reads-quiet c.args.self.now c.self.inside.first c.self.inside.failing.items c.self.inside.calls.items c.note.new.calls.items c.self.inside.faults c.note.new.faults c.self.view_is c.in_err-note.ensures.err

pub returns-in_err-note-clause-cause : goal.returns-in_err-note-clause-cause
returns-in_err-note-clause-cause c =
    let within : c.args.at + length c.args.into.now ≤ length (files_of c.self.inside.present c.args.file) = search rules in
    failed-fails-by _ _ c.args.self.now c.self.inside.first c.self.inside.failing.items c.self.inside.calls.items c.note.new.calls.items c.self.inside.faults c.note.new.faults c.self.view_is c.from_residual.ensures.0 c.in_err-note.ensures.counted c.note.ensures.later
    (within-not-past c.args.self.now c.self.inside.first c.self.inside.failing.items c.self.inside.calls.items c.self.inside.faults (files_of c.self.inside.present) c.args.file _ c.self.view_is c.self.invariant within)

pub invariant_of-self : goal.invariant_of-self
invariant_of-self c =
    present-quiet (files_of_list c.self.inside.first) c.self.inside.calls.items c.refuse.new.calls.items (files_of c.self.inside.present) c.self.invariant c.refuse.ensures

pub invariant_of-self-in_err-note : goal.invariant_of-self-in_err-note
invariant_of-self-in_err-note c =
    present-quiet (files_of_list c.self.inside.first) c.self.inside.calls.items c.note.new.calls.items (files_of c.self.inside.present) c.self.invariant c.in_err-note.ensures.err

pub invariant_of-self-2 : goal.invariant_of-self-2
invariant_of-self-2 c =
    present-quiet (files_of_list c.self.inside.first) c.self.inside.calls.items c.note.new.calls.items (files_of c.self.inside.present) c.self.invariant (inr c.in_ok-note.ensures.ok)

pub returns-then-passes-clause-kept : goal.returns-then-passes-clause-kept
returns-then-passes-clause-kept c =
    reads-quiet c.args.self.now c.self.inside.first c.self.inside.failing.items c.self.inside.calls.items c.refuse.new.calls.items c.self.inside.faults c.self.inside.faults c.self.view_is c.refuse.ensures

pub returns-then-passes-clause-cause : goal.returns-then-passes-clause-cause
returns-then-passes-clause-cause c =
    let beyond : length (files_of c.self.inside.present c.args.file) < c.args.at + length c.args.into.now = search rules in
    past-fails-by _ c.args.self.now c.self.inside.first c.self.inside.failing.items c.self.inside.calls.items c.refuse.new.calls.items c.self.inside.faults (files_of c.self.inside.present) c.args.file _ c.self.view_is
    c.self.invariant beyond
