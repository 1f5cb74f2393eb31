use Rattle.std.proofs.Common.{◌≡◌, true, false, sym, ap, ◌∙◌}
use Rattle.std.proofs.lemmas.Result.{err_from_is_err_and}
use Rattle.toml.specs.View.{table_view, view}
use Rattle.jb_conf.specs.Faults.{is_tables, tables_at}
use Rattle.jb_conf.specs.Ranges.{is_sized}
use Rattle.jb_conf.specs.Rows.{tables_fault}
use Rattle.jb_conf.specs.Tables.{are_all_tables, tables_view}
use Rattle.jb_conf.specs.declared.error.ConfError.TheVariants.{Missing, WrongKind}
use Rattle.jb_conf.proofs.FieldFaults.{field_passes, kind_refused, range_refused}
use Rattle.jb_conf.proofs.FoundFields.{absent_fault, found_fault}
use Rattle.jb_conf.proofs.TableLists.{is_sized-tables, tables_found, tables_other, tables_test}
use Rattle.jb_conf.proofs.tables.tables.Goals as goal

pub returns-in_default-clause-row : goal.returns-in_default-clause-row
unfolding tables_fault
returns-in_default-clause-row c =
    let entries = table_view c.args.table.now in
    kind_refused c.args.field true is_tables (is_sized 1 c.args.most (tables_at c.args.field entries)) entries (Missing c.args.field) (absent_fault c.args.field true is_tables entries c.in_default.ensures)

pub returns-in_default-as_array-clause-row : goal.returns-in_default-as_array-clause-row
unfolding tables_fault
returns-in_default-as_array-clause-row c =
    let entries = table_view c.args.table.now in
    let found = view c.in-Some.value.now in
    kind_refused c.args.field true is_tables (is_sized 1 c.args.most (tables_at c.args.field entries)) entries (WrongKind c.args.field)
    (found_fault c.args.field true is_tables entries found c.in-Some.ensures false (tables_other found c.in_default-as_array.ensures))

pub returns-then-not-are_all_tables-clause-row : goal.returns-then-not-are_all_tables-clause-row
unfolding tables_fault
returns-then-not-are_all_tables-clause-row c =
    let entries = table_view c.args.table.now in
    let found = view c.in-Some.value.now in
    let values = c.in-Some-as_array.array.now.items in
    let is : are_all_tables values ≡ c.are_all_tables.result = ap are_all_tables (sym c.as_slice-values.ensures.value) ∙ sym c.are_all_tables.ensures in
    let no = c.if-not-are_all_tables.true in
    kind_refused c.args.field true is_tables (is_sized 1 c.args.most (tables_at c.args.field entries)) entries (WrongKind c.args.field)
    (found_fault c.args.field true is_tables entries found c.in-Some.ensures false (tables_test found values c.in-Some-as_array.ensures ∙ is ∙ no))

pub returns-in_err-within-clause-row : goal.returns-in_err-within-clause-row
unfolding tables_fault
returns-in_err-within-clause-row c =
    let entries = table_view c.args.table.now in
    let found = view c.in-Some.value.now in
    let values = c.in-Some-as_array.array.now.items in
    let is : are_all_tables values ≡ c.are_all_tables.result = ap are_all_tables (sym c.as_slice-values.ensures.value) ∙ sym c.are_all_tables.ensures in
    let kind = found_fault c.args.field true is_tables entries found c.in-Some.ensures true (tables_test found values c.in-Some-as_array.ensures ∙ is ∙ c.if-not-are_all_tables.false) in
    let p = err_from_is_err_and c.from_residual.result c.from_residual.ensures.1 in
    let out = c.in_err-within.ensures in
    let few = c.is_some_of.ensures in
    let size = c.as_slice-values.ensures.value in
    rw (p.1, p.2) (range_refused c.args.field true is_tables (is_sized 1 c.args.most) (tables_view values) (tables_at c.args.field entries) entries c.in_err-within.field-0.0 kind (tables_found c.args.field entries found values c.in-Some.ensures c.in-Some-as_array.ensures)
    (rw (← is_sized-tables c.args.most values, ← size, ← few) out))

pub returns-clause-row : goal.returns-clause-row
unfolding tables_fault
returns-clause-row c =
    let entries = table_view c.args.table.now in
    let found = view c.in-Some.value.now in
    let values = c.in-Some-as_array.array.now.items in
    let is : are_all_tables values ≡ c.are_all_tables.result = ap are_all_tables (sym c.as_slice-values.ensures.value) ∙ sym c.are_all_tables.ensures in
    let kind = found_fault c.args.field true is_tables entries found c.in-Some.ensures true (tables_test found values c.in-Some-as_array.ensures ∙ is ∙ c.if-not-are_all_tables.false) in
    let few = c.is_some_of.ensures in
    let size = c.as_slice-values.ensures.value in
    let there = tables_found c.args.field entries found values c.in-Some.ensures c.in-Some-as_array.ensures in (
      field_passes c.args.field true is_tables (is_sized 1 c.args.most) (tables_view values) (tables_at c.args.field entries) entries kind there
          (rw (← is_sized-tables c.args.most values, ← size, ← few) c.in_ok-within.ensures.0),
      ap tables_view size ∙ there,
    )
