use Rattle.std.proofs.Common.{◌∙◌, ap, sym, subst}
use Rattle.std.specs.Prelude.{Bool, Err, IfErr}
use Rattle.std.proofs.lemmas.Result.{err_from_is_err_and}
use Rattle.jb_tool.proofs.MakingLemmas.{refused_recovery}
use Rattle.jb_tool.proofs.Recovering.{crash_then, recovered}
use Rattle.jb_tool.specs.Making.{AreShutAndEmpty, HoldSomething, IsFoundEmpty, RefusesMaking}
use Rattle.jb_tool.specs.declared.error.ToolError.{ToolError}
use Rattle.jb_tool.proofs.making.recover_none.Goals as goal

pub returns-in_err-recover-clause-refused : goal.returns-in_err-recover-clause-refused
returns-in_err-recover-clause-refused g c =
    let before = g.D.Disk.device c.args.disk.now in
    let after = g.D.Disk.device c.recover.new.disk in
    let p = err_from_is_err_and c.from_residual.result c.from_residual.ensures.1 in
    let is = p.1 ∙ ap (λ (f : ToolError). Err f) p.2 in
    subst (λ r. IfErr r (RefusesMaking before after)) (sym is) (refused_recovery before after c.in_err-recover.field-0.0 c.in_err-recover.ensures.refused)

pub returns-in_err-is_empty-clause-crash : goal.returns-in_err-is_empty-clause-crash
returns-in_err-is_empty-clause-crash g c =
    crash_then (g.D.Disk.device c.args.disk.now) (g.D.Disk.device c.recover.new.disk) (g.D.Disk.device c.is_empty.new.disk) c.recover.ensures.crash c.is_empty.ensures.kept

pub returns-then-branch-clause-empty : goal.returns-then-branch-clause-empty
returns-then-branch-clause-empty g c =
    recovered AreShutAndEmpty (g.D.Disk.device c.args.disk.now) (g.D.Disk.device c.recover.new.disk) (g.D.Disk.device c.is_empty.new.disk) c.in_ok-recover.field-0
    c.in_ok-recover.ensures.found c.in_ok-recover.ensures.done c.in_ok-recover.ensures.durable c.in_ok-recover.ensures.told c.is_empty.ensures.kept
    (λ files is. record { empty = subst (λ (b : Bool). IsFoundEmpty b files) c.if-branch.true (c.in_ok-is_empty.ensures.found files is); shut = c.in_ok-recover.ensures.closed files is })

pub returns-then-branch-clause-now : goal.returns-then-branch-clause-now
returns-then-branch-clause-now g c = λ files now.
    let is = sym c.is_empty.ensures.kept.contents ∙ now in
    record { empty = subst (λ (b : Bool). IsFoundEmpty b files) c.if-branch.true (c.in_ok-is_empty.ensures.found files is); shut = c.in_ok-recover.ensures.closed files is }

pub returns-then-branch-clause-crash : goal.returns-then-branch-clause-crash
returns-then-branch-clause-crash g c =
    crash_then (g.D.Disk.device c.args.disk.now) (g.D.Disk.device c.recover.new.disk) (g.D.Disk.device c.is_empty.new.disk) c.recover.ensures.crash c.is_empty.ensures.kept

pub returns-else-branch-clause-refused : goal.returns-else-branch-clause-refused
returns-else-branch-clause-refused g c =
    recovered HoldSomething (g.D.Disk.device c.args.disk.now) (g.D.Disk.device c.recover.new.disk) (g.D.Disk.device c.is_empty.new.disk) c.in_ok-recover.field-0
    c.in_ok-recover.ensures.found c.in_ok-recover.ensures.done c.in_ok-recover.ensures.durable c.in_ok-recover.ensures.told c.is_empty.ensures.kept
    (λ files is. subst (λ (b : Bool). IsFoundEmpty b files) c.if-branch.false (c.in_ok-is_empty.ensures.found files is))

pub returns-else-branch-clause-crash : goal.returns-else-branch-clause-crash
returns-else-branch-clause-crash g c =
    crash_then (g.D.Disk.device c.args.disk.now) (g.D.Disk.device c.recover.new.disk) (g.D.Disk.device c.is_empty.new.disk) c.recover.ensures.crash c.is_empty.ensures.kept
