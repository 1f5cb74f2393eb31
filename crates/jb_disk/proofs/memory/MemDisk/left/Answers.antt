use Rattle.std.proofs.Common.{◌≡◌, List, rules, subst, take}
use Rattle.std.specs.Prelude.{IfOk}
use Rattle.std.proofs.lemmas.Grind.{common_steps}
use Rattle.std.proofs.lemmas.Result.{IfOk-weaker}
use Rattle.jb_disk.specs.declared.call.Call.{Call}
use Rattle.jb_disk.specs.Memory.{Recording, files_of_list}
use Rattle.jb_disk.specs.Crash.{IsPicked, images_at, contents_at, first_calls}
use Rattle.jb_disk.specs.Trace.{HasFollowed}
use Rattle.jb_disk.proofs.CrashLemmas.{between, least-greatest}
use Rattle.jb_disk.proofs.memory.MemDisk.left.Goals as goal

pub returns : goal.returns
returns c =
    let disk : Recording = record { first = c.self.inside.first; calls = c.self.inside.calls.items; faults = c.self.inside.faults; failing = c.self.inside.failing.items } in
    let which : files_of_list disk.first c.args.file ≡ c.as_slice-first.result.now = search (rules, common_steps) in
    let followed : HasFollowed c.args.file c.as_slice-first.result.now (take c.args.after disk.calls) c.in_ok-trace.trace =
    subst (λ (l : List Call). HasFollowed c.args.file c.as_slice-first.result.now (take c.args.after l) c.in_ok-trace.trace) c.deref.ensures.value c.in_ok-trace.ensures in
    let least = least-greatest (images_at c.args.after disk c.args.file) (between (files_of_list disk.first) (first_calls c.args.after disk) c.args.file) in
    subst (λ (d : Recording). IfOk c.picked.result (λ bytes. IsPicked c.args.pick (images_at c.args.after d c.args.file) (contents_at c.args.after d c.args.file) bytes)) c.self.view_is
    (IfOk-weaker c.picked.result _ _
    (λ bytes picked. picked (images_at c.args.after disk c.args.file) (contents_at c.args.after disk c.args.file) least (followed (files_of_list disk.first) which))
    c.picked.ensures)
