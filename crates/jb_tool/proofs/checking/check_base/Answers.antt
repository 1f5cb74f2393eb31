use Rattle.std.proofs.Common.{◌∙◌, ap, sym, subst, refl}
use Rattle.std.specs.Prelude.{Err}
use Rattle.std.proofs.lemmas.Result.{err_from_is_err_and}
use Rattle.jb_limits.specs.declared.limits.TheConstants.{MOST_SLOTS}
use Rattle.jb_disk.specs.declared.file.FileId.TheVariants.{Jdt}
use Rattle.jb_image.specs.Answers.{OpensTo}
use Rattle.jb_state.specs.State.{state_of}
use Rattle.jb_tool.proofs.Recovering.{opens_stands, recovered_has, unlisted}
use Rattle.jb_tool.specs.Answers.{IsShown, LooksAt}
use Rattle.jb_tool.specs.Tending.{ToolAnswer}
use Rattle.jb_tool.specs.declared.error.ToolError.{ToolError}
use Rattle.jb_tool.specs.declared.tool.Tool.TheVariants.{Check as Checking}
use Rattle.jb_tool.proofs.checking.check_base.Goals as goal

pub returns-in_err-checked-clause-answer : goal.returns-in_err-checked-clause-answer
returns-in_err-checked-clause-answer g c =
    let before = g.D.Disk.device c.args.disk.now in
    let after = g.D.Disk.device c.read_base.new.disk in
    let p = err_from_is_err_and c.from_residual-in_err-checked.result c.from_residual-in_err-checked.ensures.1 in
    let is = p.1 ∙ ap (λ (f : ToolError). Err f) p.2 in
    subst (λ (a : ToolAnswer). LooksAt Checking before after a) (sym is)
    (unlisted (λ files. OpensTo MOST_SLOTS files c.in_ok-base.base.loaded) before after c.in_ok-base.ensures.opened)

pub returns-clause-answer : goal.returns-clause-answer
returns-clause-answer g c = λ was there.
    let found = c.in_ok-base.base.found in
    let loaded = c.in_ok-base.base.loaded in (
      found,
      c.in_ok-base.ensures.found was there,
      recovered_has (λ files. OpensTo MOST_SLOTS files loaded) (IsShown Checking found c.in_ok-checked.field-0) was (g.D.Disk.device c.read_base.new.disk)
          (λ files opens. record { area = state_of (files Jdt) loaded; stands = opens_stands files loaded opens; outcome = λ moment. (c.in_ok-checked.ensures (files Jdt), refl) })
          (c.in_ok-base.ensures.opened was there),
    )
