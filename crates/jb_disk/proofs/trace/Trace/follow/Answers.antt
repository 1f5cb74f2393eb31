use Rattle.std.proofs.Common.{◌≡◌, ◌≢◌, rules, sym, subst}
use Rattle.jb_disk.specs.declared.call.Call.{Call}
use Rattle.jb_disk.specs.Files.{file_number}
use Rattle.jb_disk.specs.Trace.{FollowsCall}
use Rattle.jb_disk.proofs.TraceLemmas.{follows-wrote, follows-other, follows-resized}
use Rattle.jb_disk.proofs.trace.Trace.follow.Goals as goal

pub returns-then-number : goal.returns-then-number
returns-then-number c =
    let same : file_number c.args.file ≡ file_number c.in-Wrote.other = search rules in
    subst (λ (call : Call). FollowsCall c.args.file call c.args.self.now c.write.new.self) (sym c.in-Wrote.is)
    (follows-wrote c.args.file c.in-Wrote.other c.in-Wrote.at c.in-Wrote.bytes c.in-Wrote.done c.args.self.now c.write.new.self same (rw c.as_slice.ensures.value at c.write.ensures))

pub returns-else-number : goal.returns-else-number
returns-else-number c =
    let apart : file_number c.args.file ≢ file_number c.in-Wrote.other = search rules in
    subst (λ (call : Call). FollowsCall c.args.file call c.args.self.now c.args.self.now) (sym c.in-Wrote.is)
    (follows-other c.args.file c.in-Wrote.other c.in-Wrote.at c.in-Wrote.bytes c.in-Wrote.done c.args.self.now apart)

pub returns-in_ok-resize-in-Resized : goal.returns-in_ok-resize-in-Resized
returns-in_ok-resize-in-Resized c =
    let same : file_number c.args.file ≡ file_number c.in-Resized.other = search rules in
    subst (λ (call : Call). FollowsCall c.args.file call c.args.self.now c.resize.new.self) (sym c.in-Resized.is)
    (follows-resized c.args.file c.in-Resized.other c.in-Resized.len c.in-Resized.done c.args.self.now c.resize.new.self same c.in_ok-resize-in-Resized.ensures)
