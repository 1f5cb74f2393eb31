-- What a field of the settings file is refused for: it is missing, of another kind, or out of its range.
use Rattle.std.specs.Prelude.{◌≡◌, ◌⊎◌, ℕ, ℤ, Bool, true, false, not, ◌&&◌, List, [], ◌∷◌, Option, Some, None, Result, Ok, Err, is_some, unwrap_or, option_and_then, if◌then◌else◌}
use Rattle.std.specs.Option.{option_or}
use Rattle.toml.specs.Data.{Data, array, Items, no_items, item, Members, no_members, get_member, as_str, as_integer, as_table}
use Rattle.jb_conf.specs.Names.{field_key}
use Rattle.jb_conf.specs.declared.field.Field.{Field}
use Rattle.jb_conf.specs.declared.error.ConfError.{ConfError}
use Rattle.jb_conf.specs.declared.error.ConfError.TheVariants.{Missing, WrongKind, OutOfRange, OutOfMemory}

-- this fault where a test fails
abbrev pub fault_if : Bool → ConfError → Option ConfError
fault_if fails error = if fails then Some error else None

-- the first of several faults
abbrev pub first_fault : List (Option ConfError) → Option ConfError
first_fault [] = None
first_fault (fault ∷ faults) = option_or fault (first_fault faults)

-- the value where nothing is at fault, else the fault
abbrev pub ValueOrFault : {V : Type 0} → Option ConfError → (V → Type 0) → Result V ConfError → Type 0
ValueOrFault fault IsValue (Ok value) = (fault ≡ None) × IsValue value
ValueOrFault fault IsValue (Err error) = fault ≡ Some error

-- the same, or want of memory
abbrev pub AnswersOrMemory : {V : Type 0} → Option ConfError → (V → Type 0) → Result V ConfError → Type 0
AnswersOrMemory fault IsValue (Ok value) = (fault ≡ None) × IsValue value
AnswersOrMemory fault IsValue (Err error) = (fault ≡ Some error) ⊎ (error ≡ OutOfMemory)

-- what stands at a field
abbrev pub at_field : Field → Members → Option Data
at_field field entries = get_member (field_key field) entries

-- the text at a field, and what stands for one that is absent
abbrev pub text_at : Field → List ℕ → Members → List ℕ
text_at field absent entries = unwrap_or (option_and_then as_str (at_field field entries)) absent

-- the whole number at a field, and what stands for one that is absent
abbrev pub whole_at : Field → ℤ → Members → ℤ
whole_at field absent entries = unwrap_or (option_and_then as_integer (at_field field entries)) absent

-- the table of a table, and none of anything else
abbrev pub table_of : Data → Members
table_of data' = unwrap_or (as_table data') no_members

-- the tables in an array
abbrev pub tables_of : Items → List Members
tables_of no_items = []
tables_of (item first rest) = table_of first ∷ tables_of rest

-- whether all that an array holds are tables
abbrev pub are_tables : Items → Bool
are_tables no_items = true
are_tables (item first rest) = is_some (as_table first) && are_tables rest

-- the tables of the array at a field
abbrev pub tables_in : Option Data → List Members
tables_in (Some (array items)) = tables_of items
tables_in _ = []

abbrev pub tables_at : Field → Members → List Members
tables_at field entries = tables_in (at_field field entries)

-- the kinds that a field may have to have: a text, a whole number, an array of tables
abbrev pub is_text : Data → Bool
is_text data' = is_some (as_str data')

abbrev pub is_whole : Data → Bool
is_whole data' = is_some (as_integer data')

abbrev pub is_tables : Data → Bool
is_tables (array items) = are_tables items
is_tables _ = false

-- whether something of another kind stands there
abbrev pub is_other : (Data → Bool) → Option Data → Bool
is_other kind None = false
is_other kind (Some data') = not (kind data')

-- whether a field that has to be there is not
abbrev pub is_lacking : Bool → Option Data → Bool
is_lacking must None = must
is_lacking must (Some data') = false

-- a field without its range: it is there where it has to be, and it is of its kind
unfoldable pub kind_fault : Field → Bool → (Data → Bool) → Members → Option ConfError
kind_fault field must kind entries = first_fault (
    fault_if (is_lacking must (at_field field entries)) (Missing field)
    ∷ fault_if (is_other kind (at_field field entries)) (WrongKind field)
    ∷ [])

-- the tests of one field in their order: it is there where it has to be, it is of its kind, it lies in its range
unfoldable pub field_fault : Field → Bool → (Data → Bool) → Bool → Members → Option ConfError
field_fault field must kind fits entries = first_fault (
    kind_fault field must kind entries
    ∷ fault_if (not fits) (OutOfRange field)
    ∷ [])
