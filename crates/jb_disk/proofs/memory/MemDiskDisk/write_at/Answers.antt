use Rattle.std.proofs.Common.{◌≡◌, length, rules, sym, ap, subst, true, ◌+◌, ◌≤◌, List, ℕ, ◌∙◌, not, inl, refl, ◌<◌}
use Rattle.jb_disk.specs.Files.{overwritten}
use Rattle.jb_disk.specs.Memory.{files_of_list, files_of}
use Rattle.jb_disk.proofs.MemoryLemmas.{tears, tears-not, tears-unwritten, present-wrote, present-quiet, present-unwritten, reads-quiet, within-not-past, past-fails-by, done-fails-by, failed-fails-by, wrote-contents, wrote-moments}
use Rattle.jb_disk.proofs.memory.MemDiskDisk.write_at.Goals as goal

pub returns-clause-changed : goal.returns-clause-changed
returns-clause-changed c =
    let size : length c.in-Ok.copy.items ≡ length c.args.bytes.now = search rules in
    tears _ c.args.self.now c.self.inside.first c.self.inside.failing.items c.self.inside.calls.items c.keep.new.calls.items c.self.inside.faults c.keep.new.faults c.args.file c.args.at c.in-Ok.copy (length c.args.bytes.now) _ c.self.view_is size c.in_ok-keep.ensures.ok.1

pub invariant_of-self-2 : goal.invariant_of-self-2
invariant_of-self-2 c =
    let same : c.in-Ok.copy.items ≡ c.args.bytes.now = search rules in
    let size : length c.in-Ok.copy.items ≡ length c.args.bytes.now = search rules in
    let within : c.args.at + length c.args.bytes.now ≤ length (files_of c.self.inside.present c.args.file) = search rules in
    let so : not c.fails-fails.result ≡ true = search rules in
    let fits : c.args.at + length c.in-Ok.copy.items ≤ length (files_of c.self.inside.present c.args.file) = subst (λ (n : ℕ). c.args.at + n ≤ length (files_of c.self.inside.present c.args.file)) (sym size) within in
    let here : files_of c.overwrite.new.self c.args.file ≡ overwritten c.args.at c.in-Ok.copy.items (files_of c.self.inside.present c.args.file) = c.overwrite.ensures.here ∙ ap (λ (l : List ℕ). overwritten c.args.at l (files_of c.self.inside.present c.args.file)) (sym same) in
    present-wrote (files_of_list c.self.inside.first) c.args.file c.args.at c.in-Ok.copy _ c.self.inside.calls.items c.keep.new.calls.items (files_of c.self.inside.present) (files_of c.overwrite.new.self) c.in_ok-keep.ensures.ok.1 so c.self.invariant fits here c.overwrite.ensures.others

pub returns-clause-ok : goal.returns-clause-ok
returns-clause-ok c =
    let same : c.in-Ok.copy.items ≡ c.args.bytes.now = search rules in
    let within : c.args.at + length c.args.bytes.now ≤ length (files_of c.self.inside.present c.args.file) = search rules in
    let so : not c.fails-fails.result ≡ true = search rules in
    wrote-contents c.args.self.now c.self.inside.first c.self.inside.failing.items c.self.inside.calls.items c.keep.new.calls.items c.self.inside.faults c.keep.new.faults c.args.file c.args.at c.in-Ok.copy c.args.bytes.now _ (files_of c.self.inside.present) c.self.view_is c.in_ok-keep.ensures.ok.1 so same c.self.invariant within

pub returns-clause-crash : goal.returns-clause-crash
returns-clause-crash c =
    let size : length c.in-Ok.copy.items ≡ length c.args.bytes.now = search rules in
    wrote-moments c.args.self.now c.self.inside.first c.self.inside.failing.items c.self.inside.calls.items c.keep.new.calls.items c.self.inside.faults c.keep.new.faults c.args.file c.args.at c.in-Ok.copy _ _ c.self.view_is c.in_ok-keep.ensures.ok.1 size

pub returns-clause-past : goal.returns-clause-past
returns-clause-past c =
    let within : c.args.at + length c.args.bytes.now ≤ length (files_of c.self.inside.present c.args.file) = search rules in
    λ past. absurd (within-not-past c.args.self.now c.self.inside.first c.self.inside.failing.items c.self.inside.calls.items c.self.inside.faults (files_of c.self.inside.present) c.args.file _ c.self.view_is c.self.invariant within past)

pub returns-clause-cause : goal.returns-clause-cause
returns-clause-cause c =
    let within : c.args.at + length c.args.bytes.now ≤ length (files_of c.self.inside.present c.args.file) = search rules in
    done-fails-by _ _ c.args.self.now c.self.inside.first c.self.inside.failing.items c.self.inside.calls.items c.keep.new.calls.items c.self.inside.faults c.keep.new.faults c.self.view_is c.in_ok-keep.ensures.quiet
    (within-not-past c.args.self.now c.self.inside.first c.self.inside.failing.items c.self.inside.calls.items c.self.inside.faults (files_of c.self.inside.present) c.args.file _ c.self.view_is c.self.invariant within)

pub returns-in_err-keep-clause-cause : goal.returns-in_err-keep-clause-cause
returns-in_err-keep-clause-cause c =
    let within : c.args.at + length c.args.bytes.now ≤ length (files_of c.self.inside.present c.args.file) = search rules in
    failed-fails-by _ _ c.args.self.now c.self.inside.first c.self.inside.failing.items c.self.inside.calls.items c.keep.new.calls.items c.self.inside.faults c.keep.new.faults c.self.view_is c.from_residual.ensures.0 c.in_err-keep.ensures.counted c.keep.ensures.later
    (within-not-past c.args.self.now c.self.inside.first c.self.inside.failing.items c.self.inside.calls.items c.self.inside.faults (files_of c.self.inside.present) c.args.file _ c.self.view_is c.self.invariant within)

pub invariant_of-self : goal.invariant_of-self
invariant_of-self c = present-quiet (files_of_list c.self.inside.first) c.self.inside.calls.items c.refuse.new.calls.items (files_of c.self.inside.present) c.self.invariant c.refuse.ensures

pub returns-then-passes-clause-changed : goal.returns-then-passes-clause-changed
returns-then-passes-clause-changed c =
    tears-not _ c.args.file c.args.at (length c.args.bytes.now) _ _
    (reads-quiet c.args.self.now c.self.inside.first c.self.inside.failing.items c.self.inside.calls.items c.refuse.new.calls.items c.self.inside.faults c.self.inside.faults c.self.view_is c.refuse.ensures)

pub invariant_of-self-in_err-keep : goal.invariant_of-self-in_err-keep
invariant_of-self-in_err-keep c =
    present-unwritten c.self.inside.first c.args.file c.args.at c.in-Ok.copy c.fails-fails.result c.self.inside.calls.items c.keep.new.calls.items c.in_err-keep.ensures.err (files_of c.self.inside.present) c.self.invariant

pub returns-in_err-keep-clause-changed : goal.returns-in_err-keep-clause-changed
returns-in_err-keep-clause-changed c =
    let size : length c.in-Ok.copy.items ≡ length c.args.bytes.now = search rules in
    tears-unwritten c.self.inside.first c.args.file c.args.at c.in-Ok.copy c.fails-fails.result c.self.inside.calls.items c.keep.new.calls.items c.in_err-keep.ensures.err _ c.args.self.now
    c.self.inside.failing.items (length c.args.bytes.now) c.self.inside.faults c.keep.new.faults c.self.view_is size c.from_residual.ensures.0

pub returns-in_default-clause-changed : goal.returns-in_default-clause-changed
returns-in_default-clause-changed c =
    tears-not _ c.args.file c.args.at (length c.args.bytes.now) _ _
    (reads-quiet c.args.self.now c.self.inside.first c.self.inside.failing.items c.self.inside.calls.items c.self.inside.calls.items c.self.inside.faults c.fault.new.faults c.self.view_is (inl refl))

pub returns-then-passes-clause-past : goal.returns-then-passes-clause-past
returns-then-passes-clause-past c = λ past.
    reads-quiet c.args.self.now c.self.inside.first c.self.inside.failing.items c.self.inside.calls.items c.refuse.new.calls.items c.self.inside.faults c.self.inside.faults c.self.view_is c.refuse.ensures

pub returns-then-passes-clause-cause : goal.returns-then-passes-clause-cause
returns-then-passes-clause-cause c =
    let beyond : length (files_of c.self.inside.present c.args.file) < c.args.at + length c.args.bytes.now = search rules in
    past-fails-by _ c.args.self.now c.self.inside.first c.self.inside.failing.items c.self.inside.calls.items c.refuse.new.calls.items c.self.inside.faults (files_of c.self.inside.present) c.args.file _ c.self.view_is
    c.self.invariant beyond

pub returns-in_default-clause-past : goal.returns-in_default-clause-past
returns-in_default-clause-past c = λ past.
    reads-quiet c.args.self.now c.self.inside.first c.self.inside.failing.items c.self.inside.calls.items c.self.inside.calls.items c.self.inside.faults c.fault.new.faults c.self.view_is (inl refl)

pub returns-in_default-clause-cause : goal.returns-in_default-clause-cause
returns-in_default-clause-cause c =
    let within : c.args.at + length c.args.bytes.now ≤ length (files_of c.self.inside.present c.args.file) = search rules in
    failed-fails-by _ _ c.args.self.now c.self.inside.first c.self.inside.failing.items c.self.inside.calls.items c.self.inside.calls.items c.self.inside.faults c.fault.new.faults c.self.view_is refl c.fault.ensures.rose c.fault.ensures.later
    (within-not-past c.args.self.now c.self.inside.first c.self.inside.failing.items c.self.inside.calls.items c.self.inside.faults (files_of c.self.inside.present) c.args.file _ c.self.view_is c.self.invariant within)

pub returns-in_err-keep-clause-past : goal.returns-in_err-keep-clause-past
returns-in_err-keep-clause-past c =
    let within : c.args.at + length c.args.bytes.now ≤ length (files_of c.self.inside.present c.args.file) = search rules in
    λ past. absurd (within-not-past c.args.self.now c.self.inside.first c.self.inside.failing.items c.self.inside.calls.items c.self.inside.faults (files_of c.self.inside.present) c.args.file _ c.self.view_is c.self.invariant within past)
