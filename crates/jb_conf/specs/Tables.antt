-- The values in an array, seen as tables.
use Rattle.std.specs.Prelude.{Bool, List, map, is_some}
use Rattle.std.specs.List.{list_all}
use Rattle.toml.specs.Data.{Members, as_table}
use Rattle.toml.specs.View.{view}
use Rattle.toml.specs.declared.value.Value.{Value}
use Rattle.jb_conf.specs.Faults.{table_of}

-- whether a value is a table
abbrev pub is_table : Value → Bool
is_table value = is_some (as_table (view value))

-- whether each of these values is one
abbrev pub are_all_tables : List Value → Bool
are_all_tables values = list_all is_table values

-- the members of each of these values
abbrev pub tables_view : List Value → List Members
tables_view values = map (λ value. table_of (view value)) values
