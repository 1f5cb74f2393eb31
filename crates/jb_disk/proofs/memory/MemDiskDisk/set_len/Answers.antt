use Rattle.std.proofs.Common.{◌≡◌, length, rules, ap, true, take, ◌∙◌, not, inl, refl, subst, ℕ, ◌≤◌}
use Rattle.std.proofs.lemmas.List.{take_at}
use Rattle.jb_bytes.specs.Fault.{Rose}
use Rattle.jb_disk.specs.Memory.{files_of_list, files_of, of_length}
use Rattle.jb_disk.proofs.MemoryLemmas.{resizes, resizes-not, present-resized, present-unresized, present-kept, resized-moments, done-fails-by, failed-fails-by}
use Rattle.jb_disk.proofs.memory.MemDiskDisk.set_len.Goals as goal

pub invariant_of-self-then-is_err : goal.invariant_of-self-then-is_err
invariant_of-self-then-is_err c =
    let size : length c.self.inside.calls.items ≡ c.len-before.result = search rules in
    let back : c.truncate.new.self.items ≡ c.self.inside.calls.items = c.truncate.ensures.items ∙ ap (take c.len-before.result) c.in_ok-keep.ensures.ok.1 ∙ take_at c.self.inside.calls.items _ _ size in
    let here : files_of c.resize.new.self c.args.file ≡ files_of c.self.inside.present c.args.file = search rules in
    present-kept (files_of_list c.self.inside.first) c.args.file c.self.inside.calls.items c.truncate.new.self.items (files_of c.self.inside.present) (files_of c.resize.new.self) back c.self.invariant here c.resize.ensures.kept

pub invariant_of-self-else-is_err : goal.invariant_of-self-else-is_err
invariant_of-self-else-is_err c =
    let so : not c.fails-fails.result ≡ true = search rules in
    let here : files_of c.resize.new.self c.args.file ≡ of_length c.args.len (files_of c.self.inside.present c.args.file) = search rules in
    present-resized (files_of_list c.self.inside.first) c.args.file c.args.len _ c.self.inside.calls.items c.keep.new.calls.items (files_of c.self.inside.present) (files_of c.resize.new.self) c.in_ok-keep.ensures.ok.1 so c.self.invariant here c.resize.ensures.kept

pub returns-clause-changed : goal.returns-clause-changed
returns-clause-changed c =
    let so : not c.fails-fails.result ≡ true = search rules in
    resizes _ c.args.self.now c.self.inside.first c.self.inside.failing.items c.self.inside.calls.items c.keep.new.calls.items c.self.inside.faults c.keep.new.faults c.args.file c.args.len _ c.self.view_is so c.in_ok-keep.ensures.ok.1

pub returns-clause-crash : goal.returns-clause-crash
returns-clause-crash c =
    resized-moments c.args.self.now c.self.inside.first c.self.inside.failing.items c.self.inside.calls.items c.keep.new.calls.items c.self.inside.faults c.keep.new.faults c.args.file c.args.len _ c.self.view_is c.in_ok-keep.ensures.ok.1

pub returns-clause-cause : goal.returns-clause-cause
returns-clause-cause c =
    done-fails-by _ _ c.args.self.now c.self.inside.first c.self.inside.failing.items c.self.inside.calls.items c.keep.new.calls.items c.self.inside.faults c.keep.new.faults c.self.view_is c.in_ok-keep.ensures.quiet (λ never. never)

pub returns-in_err-keep-clause-cause : goal.returns-in_err-keep-clause-cause
returns-in_err-keep-clause-cause c =
    failed-fails-by _ _ c.args.self.now c.self.inside.first c.self.inside.failing.items c.self.inside.calls.items c.keep.new.calls.items c.self.inside.faults c.keep.new.faults c.self.view_is c.from_residual.ensures.0 c.in_err-keep.ensures.counted c.keep.ensures.later (λ never. never)

pub invariant_of-self : goal.invariant_of-self
invariant_of-self c =
    present-unresized c.self.inside.first c.args.file c.args.len c.fails-fails.result c.self.inside.calls.items c.keep.new.calls.items c.in_err-keep.ensures.err (files_of c.self.inside.present) c.self.invariant

pub returns-in_err-keep-clause-changed : goal.returns-in_err-keep-clause-changed
returns-in_err-keep-clause-changed c =
    resizes-not c.self.inside.first c.args.file c.args.len c.fails-fails.result c.self.inside.calls.items c.keep.new.calls.items c.in_err-keep.ensures.err _ c.args.self.now c.self.inside.failing.items
    c.self.inside.faults c.keep.new.faults c.self.view_is c.from_residual.ensures.0

pub returns-then-is_err-clause-changed : goal.returns-then-is_err-clause-changed
returns-then-is_err-clause-changed c =
    let size : length c.self.inside.calls.items ≡ c.len-before.result = search rules in
    let back : c.truncate.new.self.items ≡ c.self.inside.calls.items = c.truncate.ensures.items ∙ ap (take c.len-before.result) c.in_ok-keep.ensures.ok.1 ∙ take_at c.self.inside.calls.items _ _ size in
    resizes-not c.self.inside.first c.args.file c.args.len c.fails-fails.result c.self.inside.calls.items c.truncate.new.self.items (inl back) _ c.args.self.now c.self.inside.failing.items
    c.self.inside.faults c.fault.new.faults c.self.view_is refl

pub returns-then-is_err-clause-cause : goal.returns-then-is_err-clause-cause
returns-then-is_err-clause-cause c =
    failed-fails-by _ _ c.args.self.now c.self.inside.first c.self.inside.failing.items c.self.inside.calls.items c.truncate.new.self.items c.self.inside.faults c.fault.new.faults c.self.view_is refl
    (subst (λ (n : ℕ). Rose n c.fault.new.faults) c.in_ok-keep.ensures.quiet c.fault.ensures.rose) (subst (λ (n : ℕ). n ≤ c.fault.new.faults) c.in_ok-keep.ensures.quiet c.fault.ensures.later) (λ never. never)
