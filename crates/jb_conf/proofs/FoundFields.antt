-- What the tests of presence and kind tell of what was found at a field.
use Rattle.std.proofs.Common.{◌≡◌, ℕ, ℤ, Bool, true, false, not, List, Some, None, refl}
use Rattle.toml.specs.Data.{Data, Members, as_integer, as_str}
use Rattle.jb_conf.specs.Faults.{at_field, fault_if, is_text, is_whole, kind_fault, text_at, whole_at}
use Rattle.jb_conf.specs.declared.field.Field.{Field}
use Rattle.jb_conf.specs.declared.error.ConfError.TheVariants.{Missing, WrongKind}

-- an absent field is missing where it has to be there
pub absent_fault : (field : Field) (must : Bool) (kind : Data → Bool) (entries : Members) → None ≡ at_field field entries → kind_fault field must kind entries ≡ fault_if must (Missing field)
unfolding kind_fault
absent_fault field true kind entries e = rw (← e) refl
absent_fault field false kind entries e = rw (← e) refl

-- a field that is there is of its kind or refused for that
pub found_fault : (field : Field) (must : Bool) (kind : Data → Bool) (entries : Members) (found : Data) → Some found ≡ at_field field entries → (fits : Bool) → kind found ≡ fits
    → kind_fault field must kind entries ≡ fault_if (not fits) (WrongKind field)
unfolding kind_fault
found_fault field must kind entries found e true is = rw (← e, is) refl
found_fault field must kind entries found e false is = rw (← e, is) refl

-- a text that was found
pub text_found : (field : Field) (must : Bool) (absent text : List ℕ) (entries : Members) (found : Data) → Some found ≡ at_field field entries → Some text ≡ as_str found
    → (kind_fault field must is_text entries ≡ None) × (text ≡ text_at field absent entries)
text_found field must absent text entries found e is =
    (found_fault field must is_text entries found e true (rw (← is) refl), rw (← e, ← is) refl)

-- something else than a text
pub text_other : (field : Field) (must : Bool) (entries : Members) (found : Data) → Some found ≡ at_field field entries → None ≡ as_str found
    → kind_fault field must is_text entries ≡ Some (WrongKind field)
text_other field must entries found e is = found_fault field must is_text entries found e false (rw (← is) refl)

-- what stands for an absent text
pub text_absent : (field : Field) (absent : List ℕ) (entries : Members) → None ≡ at_field field entries → absent ≡ text_at field absent entries
text_absent field absent entries e = rw (← e) refl

-- a number that was found
pub whole_found : (field : Field) (must : Bool) (absent number : ℤ) (entries : Members) (found : Data) → Some found ≡ at_field field entries → Some number ≡ as_integer found
    → (kind_fault field must is_whole entries ≡ None) × (number ≡ whole_at field absent entries)
whole_found field must absent number entries found e is =
    (found_fault field must is_whole entries found e true (rw (← is) refl), rw (← e, ← is) refl)

-- something else than a whole number
pub whole_other : (field : Field) (must : Bool) (entries : Members) (found : Data) → Some found ≡ at_field field entries → None ≡ as_integer found
    → kind_fault field must is_whole entries ≡ Some (WrongKind field)
whole_other field must entries found e is = found_fault field must is_whole entries found e false (rw (← is) refl)

-- what stands for an absent number
pub whole_absent : (field : Field) (absent : ℤ) (entries : Members) → None ≡ at_field field entries → absent ≡ whole_at field absent entries
whole_absent field absent entries e = rw (← e) refl
