use Rattle.std.proofs.Common.{pos, is_none, w64, FitsSigned, rules, ap, ◌∙◌}
use Rattle.std.specs.Prelude.{nat_abs, unwrap_or}
use Rattle.std.proofs.lemmas.Int.{to_z-of_z}
use Rattle.toml.specs.View.{table_view, view}
use Rattle.jb_conf.specs.Rows.{number_at, number_fault}
use Rattle.jb_conf.proofs.FoundFields.{whole_absent}
use Rattle.jb_conf.proofs.NumberFields.{between, number_absent, number_inside, number_missing, number_other, number_outside}
use Rattle.jb_conf.proofs.rows.number.Goals as goal

pub returns-in-Some-absent-clause-row : goal.returns-in-Some-absent-clause-row
unfolding number_fault number_at
returns-in-Some-absent-clause-row c =
    let entries = table_view c.args.table.now in
    let n = c.in-Some-absent.number in
    let inside = c.requires n c.in-Some-absent.is in
    rw c.in-Some-absent.is (
      number_absent c.args.field (pos n) (pos c.args.least) (pos c.args.most) entries c.in_default.ensures (between c.args.least c.args.most n inside.0 inside.1),
      ap nat_abs (whole_absent c.args.field (pos n) entries c.in_default.ensures),
    )

pub returns-in-None-clause-row : goal.returns-in-None-clause-row
unfolding number_fault
returns-in-None-clause-row c =
    rw c.in-None.is (number_missing c.args.field (pos 0) (pos c.args.least) (pos c.args.most) (table_view c.args.table.now) c.in_default.ensures)

pub returns-in_default-as_integer-clause-row : goal.returns-in_default-as_integer-clause-row
unfolding number_fault
returns-in_default-as_integer-clause-row c =
    number_other c.args.field (is_none c.args.absent) (pos (unwrap_or c.args.absent 0)) (pos c.args.least) (pos c.args.most) (table_view c.args.table.now) (view c.in-Some.value.now) c.in-Some.ensures c.in_default-as_integer.ensures

pub returns-in-Some-number_between-clause-row : goal.returns-in-Some-number_between-clause-row
unfolding number_fault number_at
returns-in-Some-number_between-clause-row c =
    let whole = c.in-Some-as_integer.whole in
    let fits : FitsSigned w64 whole = search rules in
    let inside = simp to_z-of_z at c.in-Some-number_between.ensures in
    let found = number_inside c.args.field (is_none c.args.absent) (pos (unwrap_or c.args.absent 0)) (pos c.args.least) (pos c.args.most) whole (table_view c.args.table.now) (view c.in-Some.value.now) c.in-Some.ensures c.in-Some-as_integer.ensures inside.0 in
    (found.0, ap nat_abs (inside.1 ∙ found.1))

pub returns-in-None-number_between-clause-row : goal.returns-in-None-number_between-clause-row
unfolding number_fault
returns-in-None-number_between-clause-row c =
    let whole = c.in-Some-as_integer.whole in
    let fits : FitsSigned w64 whole = search rules in
    let outside = simp to_z-of_z at c.in-None-number_between.ensures in
    number_outside c.args.field (is_none c.args.absent) (pos (unwrap_or c.args.absent 0)) (pos c.args.least) (pos c.args.most) whole (table_view c.args.table.now) (view c.in-Some.value.now) c.in-Some.ensures c.in-Some-as_integer.ensures outside
