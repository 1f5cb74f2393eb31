-- What the tests of a whole number tell.
use Rattle.std.proofs.Common.{◌≡◌, ◌≤◌, ℕ, ℤ, pos, Bool, true, false, Option, Some, None, refl, arith}
use Rattle.std.proofs.lemmas.Bool.Decides.{nat_tests}
use Rattle.toml.specs.Data.{Data, Members, as_integer}
use Rattle.jb_conf.specs.Faults.{at_field, is_whole, whole_at}
use Rattle.jb_conf.specs.Ranges.{is_between}
use Rattle.jb_conf.specs.Rows.{given_number, number_at, number_fault, whole_fault}
use Rattle.jb_conf.specs.declared.field.Field.{Field}
use Rattle.jb_conf.specs.declared.error.ConfError.TheVariants.{Missing, OutOfRange, WrongKind}
use Rattle.jb_conf.proofs.FieldFaults.{field_passes, kind_refused, range_refused}
use Rattle.jb_conf.proofs.FoundFields.{absent_fault, whole_absent, whole_found, whole_other}

-- a number that has to be there and is not
pub number_missing : (field : Field) (absent least most : ℤ) (entries : Members) → None ≡ at_field field entries → whole_fault field true absent least most entries ≡ Some (Missing field)
unfolding whole_fault
number_missing field absent least most entries e =
    kind_refused field true is_whole (is_between least most (whole_at field absent entries)) entries (Missing field) (absent_fault field true is_whole entries e)

-- an absent number for which one in the range stands
pub number_absent : (field : Field) (absent least most : ℤ) (entries : Members) → None ≡ at_field field entries → is_between least most absent ≡ true → whole_fault field false absent least most entries ≡ None
unfolding whole_fault
number_absent field absent least most entries e fits =
    field_passes field false is_whole (is_between least most) absent (whole_at field absent entries) entries
    (absent_fault field false is_whole entries e) (whole_absent field absent entries e) (rw fits refl)

-- something else than a whole number
pub number_other : (field : Field) (must : Bool) (absent least most : ℤ) (entries : Members) (found : Data) → Some found ≡ at_field field entries → None ≡ as_integer found
    → whole_fault field must absent least most entries ≡ Some (WrongKind field)
unfolding whole_fault
number_other field must absent least most entries found e is =
    kind_refused field must is_whole (is_between least most (whole_at field absent entries)) entries (WrongKind field) (whole_other field must entries found e is)

-- a number in the range
pub number_inside : (field : Field) (must : Bool) (absent least most number : ℤ) (entries : Members) (found : Data) → Some found ≡ at_field field entries → Some number ≡ as_integer found
    → is_between least most number ≡ true → (whole_fault field must absent least most entries ≡ None) × (number ≡ whole_at field absent entries)
unfolding whole_fault
number_inside field must absent least most number entries found e is fits =
    let kind = whole_found field must absent number entries found e is in
    (field_passes field must is_whole (is_between least most) number (whole_at field absent entries) entries kind.0 kind.1 (rw fits refl), kind.1)

-- a number outside the range
pub number_outside : (field : Field) (must : Bool) (absent least most number : ℤ) (entries : Members) (found : Data) → Some found ≡ at_field field entries → Some number ≡ as_integer found
    → is_between least most number ≡ false → whole_fault field must absent least most entries ≡ Some (OutOfRange field)
unfolding whole_fault
number_outside field must absent least most number entries found e is fits =
    let kind = whole_found field must absent number entries found e is in
    range_refused field must is_whole (is_between least most) number (whole_at field absent entries) entries (OutOfRange field) kind.0 kind.1 (rw fits refl)

-- a number that is there and not refused
pub number_given : (field : Field) (least most : ℕ) (entries : Members) (found : Data) → Some found ≡ at_field field entries → number_fault field (Some 0) least most entries ≡ None
    → Some (number_at field (Some 0) entries) ≡ given_number field entries
unfolding number_fault number_at given_number
number_given field least most entries found e passes = told (as_integer found) refl
  where
    told : (whole : Option ℤ) → whole ≡ as_integer found → Some (number_at field (Some 0) entries) ≡ given_number field entries
    told None is = absurd (let refused = number_other field false (pos 0) (pos least) (pos most) entries found e is in cc)
    told (Some whole) is = rw (← e, ← is) refl

-- the test of a number between two others
pub between : (least most n : ℕ) → least ≤ n → n ≤ most → is_between (pos least) (pos most) (pos n) ≡ true
between least most n low high = grind (arith, nat_tests)
