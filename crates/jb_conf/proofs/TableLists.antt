-- The values of an array beside the tables that it stands for.
use Rattle.std.proofs.Common.{◌≡◌, ◌&&◌, ℕ, suc, false, List, [], ◌∷◌, Some, None, length, refl, ap, sym, ◌∙◌}
use Rattle.std.specs.Prelude.{nat_le}
use Rattle.toml.specs.Data.{Data, string, integer, float, boolean, datetime, array, table, Items, Members, as_array}
use Rattle.toml.specs.View.{items_view, view}
use Rattle.toml.specs.declared.value.Value.{Value}
use Rattle.jb_conf.specs.Faults.{are_tables, at_field, is_tables, table_of, tables_at, tables_in, tables_of}
use Rattle.jb_conf.specs.Ranges.{is_sized}
use Rattle.jb_conf.specs.Tables.{are_all_tables, is_table, tables_view}
use Rattle.jb_conf.specs.declared.field.Field.{Field}

-- whether all values are tables
pub are_tables-view : (values : List Value) → are_tables (items_view values) ≡ are_all_tables values
are_tables-view [] = refl
are_tables-view (value ∷ values) = ap (λ rest. is_table value && rest) (are_tables-view values)

-- the tables of the values
pub tables_of-view : (values : List Value) → tables_of (items_view values) ≡ tables_view values
tables_of-view [] = refl
tables_of-view (value ∷ values) = ap (λ rest. table_of (view value) ∷ rest) (tables_of-view values)

-- as many tables as values
pub length-tables_view : (values : List Value) → length (tables_view values) ≡ length values
length-tables_view [] = refl
length-tables_view (value ∷ values) = ap suc (length-tables_view values)

-- an array is what its items say
array_is : (found : Data) (items : Items) → Some items ≡ as_array found → found ≡ array items
array_is (array other) items e = cc
array_is (string s) items e = cc
array_is (integer z) items e = cc
array_is (float x) items e = cc
array_is (boolean b) items e = cc
array_is (datetime d) items e = cc
array_is (table t) items e = cc

-- the test of an array of tables
pub tables_test : (found : Data) (values : List Value) → Some (items_view values) ≡ as_array found → is_tables found ≡ are_all_tables values
tables_test found values e = ap is_tables (array_is found (items_view values) e) ∙ are_tables-view values

-- something else than an array
pub tables_other : (found : Data) → None ≡ as_array found → is_tables found ≡ false
tables_other (array other) e = cc
tables_other (string s) e = refl
tables_other (integer z) e = refl
tables_other (float x) e = refl
tables_other (boolean b) e = refl
tables_other (datetime d) e = refl
tables_other (table t) e = refl

-- the tables at a field where this array stands
pub tables_found : (field : Field) (entries : Members) (found : Data) (values : List Value) → Some found ≡ at_field field entries → Some (items_view values) ≡ as_array found
    → tables_view values ≡ tables_at field entries
tables_found field entries found values there e =
    sym (tables_of-view values) ∙ ap (λ (d : Data). tables_in (Some d)) (sym (array_is found (items_view values) e)) ∙ ap tables_in there

-- the test of their number
pub is_sized-tables : (most : ℕ) (values : List Value) → (nat_le 1 (length values) && nat_le (length values) most) ≡ is_sized 1 most (tables_view values)
is_sized-tables most values = ap (λ n. nat_le 1 n && nat_le n most) (sym (length-tables_view values))
