use Rattle.std.proofs.Common.{false, codes, ap, ◌∙◌}
use Rattle.std.proofs.lemmas.Result.{err_from_is_err_and}
use Rattle.toml.specs.View.{table_view}
use Rattle.jb_conf.specs.Faults.{is_text, text_at}
use Rattle.jb_conf.specs.Rows.{area_kind_fault, is_area_kind, kind_of}
use Rattle.jb_conf.proofs.FieldFaults.{field_passes, kind_refused, range_refused}
use Rattle.jb_conf.proofs.rows.area_kind.Goals as goal

pub returns-in_err-text : goal.returns-in_err-text
unfolding area_kind_fault
returns-in_err-text c =
    let entries = table_view c.args.table.now in
    let p = err_from_is_err_and c.from_residual.result c.from_residual.ensures.1 in
    rw (p.1, p.2) (kind_refused c.args.field false is_text (is_area_kind (text_at c.args.field (codes "local") entries)) entries c.in_err-text.field-0.0 c.in_err-text.ensures)

pub returns-in_err-within : goal.returns-in_err-within
unfolding area_kind_fault
returns-in_err-within c =
    let entries = table_view c.args.table.now in
    let p = err_from_is_err_and c.from_residual-in_err-within.result c.from_residual-in_err-within.ensures.1 in
    rw (p.1, p.2) (range_refused c.args.field false is_text is_area_kind c.in_ok-text.text.now (text_at c.args.field (codes "local") entries) entries c.in_err-within.field-0.0
    c.in_ok-text.ensures.0 c.in_ok-text.ensures.1 (rw (← c.is_kind.ensures) c.in_err-within.ensures))

pub returns : goal.returns
unfolding area_kind_fault
returns c =
    let entries = table_view c.args.table.now in (
      field_passes c.args.field false is_text is_area_kind c.in_ok-text.text.now (text_at c.args.field (codes "local") entries) entries
          c.in_ok-text.ensures.0 c.in_ok-text.ensures.1 (rw (← c.is_kind.ensures) c.in_ok-within.ensures.0),
      c.kind_of.ensures ∙ ap kind_of c.in_ok-text.ensures.1,
    )
