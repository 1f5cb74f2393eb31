-- What a field that is not refused tells of its value.
use Rattle.std.proofs.Common.{◌≡◌, ◌≤◌, ◌<◌, ◌≤ℤ◌, ◌&&◌, ◌||◌, ◌==◌, ℕ, ℤ, pos, negsuc, suc, zero, Bool, true, false, not, List, [], ◌∷◌, Option, Some, None, length, get_or, is_some, ap, refl, sym, ◌∙◌, arith}
use Rattle.std.specs.Prelude.{bytes_eq, int_le, nat_abs, nat_lt, option_and_then, unwrap_or}
use Rattle.std.specs.List.{list_all, list_any}
use Rattle.std.specs.Option.{ForSome, option_map, option_or}
use Rattle.std.proofs.lemmas.Bool.{and_parts, false≢true}
use Rattle.std.proofs.lemmas.Bool.Decides.{nat_tests}
use Rattle.std.proofs.lemmas.Int.{ints}
use Rattle.std.proofs.lemmas.Slice.Eq.{bytes_eq-Decides}
use Rattle.toml.specs.Data.{Data, Members, as_integer}
use Rattle.jb_bytes.specs.Name.{SameName, same_name}
use Rattle.jb_base.proofs.Access.{same_name-decides}
use Rattle.jb_limits.specs.declared.limits.TheConstants.{MOST_NODES}
use Rattle.jb_conf.specs.Faults.{at_field, fault_if, field_fault, text_at, whole_at, tables_at}
use Rattle.jb_conf.specs.InRange.{HasCount}
use Rattle.jb_conf.specs.Ranges.{is_address_byte, is_between, is_printed, is_sized}
use Rattle.jb_conf.specs.Rows.{address_fault, given_number, news_port_fault, number_at, number_fault, printable_fault, short_fault, sized_fault, tables_fault, whole_fault}
use Rattle.jb_conf.specs.declared.field.Field.{Field}
use Rattle.jb_conf.specs.declared.field.Field.TheVariants.{Board}
use Rattle.jb_conf.specs.declared.field.BoardKey.TheVariants.{NewsPort}
use Rattle.jb_conf.specs.declared.error.ConfError.{ConfError}
use Rattle.jb_conf.specs.declared.error.ConfError.TheVariants.{OutOfRange}

-- where two faults are none, each is none
pub none_each : (one other : Option ConfError) → option_or one other ≡ None → (one ≡ None) × (other ≡ None)
none_each None other e = (refl, e)
none_each (Some error) other e = (cc, cc)

-- a test that gives no fault does not fail
pub none_if : (fails : Bool) (error : ConfError) → fault_if fails error ≡ None → fails ≡ false
none_if true error e = cc
none_if false error e = refl

-- what is not false is true
pub from_not : (b : Bool) → not b ≡ false → b ≡ true
from_not true e = refl
from_not false e = cc

-- a field that is not refused fits its range
fits : (field : Field) (must : Bool) (kind : Data → Bool) (in_range : Bool) (entries : Members) → field_fault field must kind in_range entries ≡ None → in_range ≡ true
unfolding field_fault
fits field must kind in_range entries e =
    from_not in_range (none_if (not in_range) (OutOfRange field) (none_each _ _ (none_each _ _ e).1).0)

-- a count in its range
sized : {X : Type 0} (least most : ℕ) (items : List X) → is_sized least most items ≡ true → HasCount least most items
sized least most items e = (grind (arith, nat_tests), grind (arith, nat_tests))

-- a printable text that is not refused
pub printable_bounds : (field : Field) (most : ℕ) (entries : Members) → printable_fault field most entries ≡ None
    → HasCount 1 most (text_at field [] entries) × (list_all is_printed (text_at field [] entries) ≡ true)
unfolding printable_fault
printable_bounds field most entries e =
    let parts = and_parts (is_sized 1 most (text_at field [] entries)) (list_all is_printed (text_at field [] entries)) (fits field _ _ _ entries e) in
    (sized 1 most (text_at field [] entries) parts.0, parts.1)

-- an address that is not refused
pub address_bounds : (field : Field) (most : ℕ) (entries : Members) → address_fault field most entries ≡ None
    → HasCount 1 most (text_at field [] entries) × (list_all is_address_byte (text_at field [] entries) ≡ true)
unfolding address_fault
address_bounds field most entries e =
    let parts = and_parts (is_sized 1 most (text_at field [] entries)) (list_all is_address_byte (text_at field [] entries)) (fits field _ _ _ entries e) in
    (sized 1 most (text_at field [] entries) parts.0, parts.1)

-- a text of so many bytes that is not refused
pub sized_bounds : (field : Field) (most : ℕ) (entries : Members) → sized_fault field most entries ≡ None → HasCount 1 most (text_at field [] entries)
unfolding sized_fault
sized_bounds field most entries e = sized 1 most (text_at field [] entries) (fits field _ _ _ entries e)

-- a short text that is not refused
pub short_bounds : (field : Field) (most : ℕ) (entries : Members) → short_fault field most entries ≡ None → length (text_at field [] entries) ≤ most
unfolding short_fault
short_bounds field most entries e = (sized 0 most (text_at field [] entries) (fits field _ _ _ entries e)).1

-- an array of tables that is not refused
pub tables_bounds : (field : Field) (most : ℕ) (entries : Members) → tables_fault field most entries ≡ None → HasCount 1 most (tables_at field entries)
unfolding tables_fault
tables_bounds field most entries e = sized 1 most (tables_at field entries) (fits field _ _ _ entries e)

-- a number between two others that are not negative
between_bounds : (least most : ℕ) (value : ℤ) → is_between (pos least) (pos most) value ≡ true → (least ≤ nat_abs value) × (nat_abs value ≤ most)
between_bounds least most (pos n) e = (grind (arith, nat_tests), grind (arith, nat_tests))
between_bounds least most (negsuc n) e = absurd (false≢true e)

-- a number that is not refused
pub number_bounds : (field : Field) (absent : Option ℕ) (least most : ℕ) (entries : Members) → number_fault field absent least most entries ≡ None
    → (least ≤ number_at field absent entries) × (number_at field absent entries ≤ most)
unfolding number_fault whole_fault number_at
number_bounds field absent least most entries e =
    between_bounds least most (whole_at field (pos (unwrap_or absent 0)) entries) (fits field _ _ _ entries e)

-- a port of news in its range, beside nodes that leave it a pass
news_between : (port : Option ℤ) (nodes : ℕ) → nat_abs (unwrap_or port (pos 0)) ≤ 65535 → (is_some (option_map nat_abs port) && not (nat_lt nodes MOST_NODES)) ≡ false
    → ForSome (option_map nat_abs port) (λ number. (number ≤ 65535) × (nodes < MOST_NODES))
news_between None nodes few room number e = absurd cc
news_between (Some port) nodes few room number e = (omega (arith, ap (λ o. unwrap_or o 0) e, few), grind (arith, nat_tests))

-- a port of news that is not refused
pub news_bounds : (port nodes : ℕ) (entries : Members) → news_port_fault port nodes entries ≡ None
    → ForSome (given_number (Board NewsPort) entries) (λ port. (port ≤ 65535) × (nodes < MOST_NODES))
unfolding news_port_fault given_number number_at
news_bounds port nodes entries e =
    let parts = none_each _ _ e in
    let fits = number_bounds (Board NewsPort) (Some 0) 0 65535 entries parts.0 in
    news_between (option_and_then as_integer (at_field (Board NewsPort) entries)) nodes fits.1 (none_if _ _ (none_each _ _ parts.1).0)

-- minutes from -840 to 840
minutes_between : (value : ℤ) → is_between (negsuc 839) (pos 840) value ≡ true → (negsuc 839 ≤ℤ value) × (value ≤ℤ pos 840)
minutes_between value e =
    let parts = and_parts (int_le (negsuc 839) value) (int_le value (pos 840)) e in
    (grind (arith, ints, nat_tests), grind (arith, ints, nat_tests))

-- minutes that are not refused
pub minutes_bounds : (field : Field) (entries : Members) → whole_fault field false (pos 0) (negsuc 839) (pos 840) entries ≡ None
    → (negsuc 839 ≤ℤ whole_at field (pos 0) entries) × (whole_at field (pos 0) entries ≤ℤ pos 840)
unfolding whole_fault
minutes_bounds field entries e = minutes_between (whole_at field (pos 0) entries) (fits field _ _ _ entries e)

-- neither of two tests holds
neither : (one other : Bool) → (one || other) ≡ false → (one ≡ false) × (other ≡ false)
neither true other e = (cc, cc)
neither false other e = (refl, e)

-- none of the elements passes
pub none_of : {X : Type 0} (test : X → Bool) (items : List X) → list_any test items ≡ false → (k : ℕ) (d : X) → k < length items → test (get_or items k d) ≡ false
none_of test [] e k d within = absurd (omega arith)
none_of test (item ∷ items) e zero d within = (neither _ _ e).0
none_of test (item ∷ items) e (suc k) d within = none_of test items (neither _ _ e).1 k d (omega arith)

-- two names that are not one
pub other_name : (one other : List ℕ) → same_name one other ≡ false → SameName one other → ⊥
other_name one other e same = false≢true (sym e ∙ (same_name-decides one other).1 same)

-- two places that are not one
pub other_place : (dir base dir' base' : List ℕ) → (bytes_eq dir dir' && bytes_eq base base') ≡ false → (dir ≡ dir') × (base ≡ base') → ⊥
other_place dir base dir' base' e same =
    false≢true (sym e ∙ (let one = (bytes_eq-Decides dir dir').1 same.0 in let other = (bytes_eq-Decides base base').1 same.1 in rw (one, other) refl))

-- two numbers that are not one
pub other_number : (one other : ℕ) → (one == other) ≡ false → one ≡ other → ⊥
other_number one other e same = grind (arith, nat_tests)
