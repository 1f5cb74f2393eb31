use Rattle.std.proofs.Common.{refl, ◌∙◌, ap, Some}
use Rattle.std.proofs.lemmas.Result.{err_from_is_err_and}
use Rattle.toml.specs.View.{table_view, view}
use Rattle.jb_conf.specs.Rows.{given_number, news_port_fault}
use Rattle.jb_conf.specs.declared.field.Field.TheVariants.{Board}
use Rattle.jb_conf.specs.declared.field.BoardKey.TheVariants.{NewsPort}
use Rattle.jb_conf.proofs.NumberFields.{number_given}
use Rattle.jb_conf.proofs.reading.news_port.Goals as goal

pub returns-in_err-port : goal.returns-in_err-port
unfolding news_port_fault
returns-in_err-port c =
    let p = err_from_is_err_and c.from_residual.result c.from_residual.ensures.1 in
    rw (p.1, p.2) (rw c.in_err-port.ensures.row refl)

pub returns-in-None : goal.returns-in-None
unfolding news_port_fault given_number
returns-in-None c = (rw (c.in_ok-port.ensures.row.0, ← c.in-None.ensures) refl, rw (← c.in-None.ensures) refl)

pub returns-in_err-within-in-Some : goal.returns-in_err-within-in-Some
unfolding news_port_fault
returns-in_err-within-in-Some c =
    let entries = table_view c.args.table.now in
    let p = err_from_is_err_and c.from_residual-in_err-within-in-Some.result c.from_residual-in_err-within-in-Some.ensures.1 in
    let given = number_given (Board NewsPort) 0 65535 entries (view c.in-Some.field-0.now) c.in-Some.ensures c.in_ok-port.ensures.row.0 in
    rw (p.1, p.2) (rw (c.in_ok-port.ensures.row.0, ← given, c.in_err-within-in-Some.ensures) refl)

pub returns-in_err-unrepeated-in-Some : goal.returns-in_err-unrepeated-in-Some
unfolding news_port_fault
returns-in_err-unrepeated-in-Some c =
    let entries = table_view c.args.table.now in
    let p = err_from_is_err_and c.from_residual-in_err-unrepeated-in-Some.result c.from_residual-in_err-unrepeated-in-Some.ensures.1 in
    let given = number_given (Board NewsPort) 0 65535 entries (view c.in-Some.field-0.now) c.in-Some.ensures c.in_ok-port.ensures.row.0 in
    rw (p.1, p.2) (rw (c.in_ok-port.ensures.row.0, ← given, c.in_ok-within-in-Some.ensures.0, ← c.in_ok-port.ensures.row.1, c.in_err-unrepeated-in-Some.ensures) refl)

pub returns-in_ok-unrepeated-in-Some : goal.returns-in_ok-unrepeated-in-Some
unfolding news_port_fault
returns-in_ok-unrepeated-in-Some c =
    let entries = table_view c.args.table.now in
    let given = number_given (Board NewsPort) 0 65535 entries (view c.in-Some.field-0.now) c.in-Some.ensures c.in_ok-port.ensures.row.0 in
    (rw (c.in_ok-port.ensures.row.0, ← given, c.in_ok-within-in-Some.ensures.0, ← c.in_ok-port.ensures.row.1, c.in_ok-unrepeated-in-Some.ensures.0) refl, ap Some c.in_ok-port.ensures.row.1 ∙ given)
