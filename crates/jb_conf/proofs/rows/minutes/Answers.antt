use Rattle.std.proofs.Common.{pos, negsuc, false, refl, w64, w32, FitsSigned, rules, ◌∙◌}
use Rattle.std.proofs.lemmas.Int.{to_z-of_z}
use Rattle.toml.specs.View.{table_view, view}
use Rattle.jb_conf.proofs.FoundFields.{whole_absent}
use Rattle.jb_conf.proofs.NumberFields.{number_absent, number_inside, number_other, number_outside}
use Rattle.jb_conf.proofs.rows.minutes.Goals as goal

pub returns-in_default : goal.returns-in_default
returns-in_default c =
    let entries = table_view c.args.table.now in
    (number_absent c.args.field (pos 0) (negsuc 839) (pos 840) entries c.in_default.ensures refl, whole_absent c.args.field (pos 0) entries c.in_default.ensures)

pub returns-in_default-as_integer : goal.returns-in_default-as_integer
returns-in_default-as_integer c =
    number_other c.args.field false (pos 0) (negsuc 839) (pos 840) (table_view c.args.table.now) (view c.in-Some.value.now) c.in-Some.ensures c.in_default-as_integer.ensures

pub returns-in-Some-minutes_of : goal.returns-in-Some-minutes_of
returns-in-Some-minutes_of c =
    let whole = c.in-Some-as_integer.whole in
    let fits : FitsSigned w64 whole = search rules in
    let small : FitsSigned w32 c.in-Some-minutes_of.minutes = search rules in
    let inside = simp to_z-of_z at c.in-Some-minutes_of.ensures in
    let found = number_inside c.args.field false (pos 0) (negsuc 839) (pos 840) whole (table_view c.args.table.now) (view c.in-Some.value.now) c.in-Some.ensures c.in-Some-as_integer.ensures inside.0 in
    (found.0, to_z-of_z w32 _ small ∙ inside.1 ∙ found.1)

pub returns-in-None : goal.returns-in-None
returns-in-None c =
    let whole = c.in-Some-as_integer.whole in
    let fits : FitsSigned w64 whole = search rules in
    let outside = simp to_z-of_z at c.in-None.ensures in
    number_outside c.args.field false (pos 0) (negsuc 839) (pos 840) whole (table_view c.args.table.now) (view c.in-Some.value.now) c.in-Some.ensures c.in-Some-as_integer.ensures outside
