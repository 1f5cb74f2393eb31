use Rattle.std.proofs.Common.{◌∙◌, ap, sym, subst}
use Rattle.std.specs.Prelude.{Err, IfErr, Result}
use Rattle.std.proofs.lemmas.Result.{err_from_is_err_and}
use Rattle.jb_limits.specs.declared.limits.TheConstants.{MOST_SLOTS}
use Rattle.jb_image.specs.Answers.{IsRefusedBy, OpensTo}
use Rattle.jb_tool.specs.declared.reading.ReadBase.{ReadBase}
use Rattle.jb_tool.proofs.Recovering.{crash_then, recovered, refused}
use Rattle.jb_tool.specs.Recovered.{RefusesReading}
use Rattle.jb_tool.specs.declared.error.ToolError.{ToolError}
use Rattle.jb_tool.proofs.reading.read_base.Goals as goal

pub returns-in_err-found-clause-refused : goal.returns-in_err-found-clause-refused
returns-in_err-found-clause-refused g c =
    let before = g.D.Disk.device c.args.disk.now in
    let after = g.D.Disk.device c.recover.new.disk in
    let p = err_from_is_err_and c.from_residual.result c.from_residual.ensures.1 in
    let is = p.1 ∙ ap (λ (f : ToolError). Err f) p.2 in
    subst (λ (r : Result ReadBase ToolError). IfErr r (RefusesReading before after)) (sym is) (refused before after c.in_err-found.field-0.0 c.in_err-found.ensures.refused)

pub returns-in_err-loaded-clause-refused : goal.returns-in_err-loaded-clause-refused
returns-in_err-loaded-clause-refused g c =
    let before = g.D.Disk.device c.args.disk.now in
    let mid = g.D.Disk.device c.recover.new.disk in
    let after = g.D.Disk.device c.decode.new.disk in
    let p = err_from_is_err_and c.from_residual-in_err-loaded.result c.from_residual-in_err-loaded.ensures.1 in
    let is = p.1 ∙ ap (λ (f : ToolError). Err f) p.2 in
    subst (λ (r : Result ReadBase ToolError). IfErr r (RefusesReading before after)) (sym is)
    (λ other. recovered (λ files. IsRefusedBy MOST_SLOTS files c.in_err-loaded.field-0.0) before mid after _ c.in_ok-found.ensures.found c.in_ok-found.ensures.done
    c.in_ok-found.ensures.durable c.in_ok-found.ensures.told c.decode.ensures.kept c.in_err-loaded.ensures.answer)

pub returns-in_err-loaded-clause-crash : goal.returns-in_err-loaded-clause-crash
returns-in_err-loaded-clause-crash g c =
    crash_then (g.D.Disk.device c.args.disk.now) (g.D.Disk.device c.recover.new.disk) (g.D.Disk.device c.decode.new.disk) c.recover.ensures.crash c.decode.ensures.kept

pub returns-clause-opened : goal.returns-clause-opened
returns-clause-opened g c =
    recovered (λ files. OpensTo MOST_SLOTS files c.in_ok-loaded.loaded) (g.D.Disk.device c.args.disk.now) (g.D.Disk.device c.recover.new.disk) (g.D.Disk.device c.decode.new.disk) _
    c.in_ok-found.ensures.found c.in_ok-found.ensures.done c.in_ok-found.ensures.durable c.in_ok-found.ensures.told c.decode.ensures.kept c.in_ok-loaded.ensures.answer

pub returns-clause-crash : goal.returns-clause-crash
returns-clause-crash g c =
    crash_then (g.D.Disk.device c.args.disk.now) (g.D.Disk.device c.recover.new.disk) (g.D.Disk.device c.decode.new.disk) c.recover.ensures.crash c.decode.ensures.kept
