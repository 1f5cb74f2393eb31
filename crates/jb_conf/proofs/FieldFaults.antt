-- What the tests of one field tell together.
use Rattle.std.proofs.Common.{◌≡◌, Bool, not, Some, None, refl, subst}
use Rattle.toml.specs.Data.{Data, Members}
use Rattle.jb_conf.specs.Faults.{fault_if, field_fault, kind_fault}
use Rattle.jb_conf.specs.declared.field.Field.{Field}
use Rattle.jb_conf.specs.declared.error.ConfError.{ConfError}
use Rattle.jb_conf.specs.declared.error.ConfError.TheVariants.{OutOfRange}

-- a field that is missing or of another kind
pub kind_refused : (field : Field) (must : Bool) (kind : Data → Bool) (fits : Bool) (entries : Members) (error : ConfError) → kind_fault field must kind entries ≡ Some error
    → field_fault field must kind fits entries ≡ Some error
unfolding field_fault
kind_refused field must kind fits entries error e = rw e refl

-- a field that is out of its range, tested at a value that is the field's
pub range_refused : {V : Type 0} (field : Field) (must : Bool) (kind : Data → Bool) (test : V → Bool) (one other : V) (entries : Members) (error : ConfError) → kind_fault field must kind entries ≡ None
    → one ≡ other → fault_if (not (test one)) (OutOfRange field) ≡ Some error → field_fault field must kind (test other) entries ≡ Some error
unfolding field_fault
range_refused field must kind test one other entries error e same out =
    subst (λ v. field_fault field must kind (test v) entries ≡ Some error) same (rw (e, out) refl)

-- a field that passes
pub field_passes : {V : Type 0} (field : Field) (must : Bool) (kind : Data → Bool) (test : V → Bool) (one other : V) (entries : Members) → kind_fault field must kind entries ≡ None
    → one ≡ other → fault_if (not (test one)) (OutOfRange field) ≡ None → field_fault field must kind (test other) entries ≡ None
unfolding field_fault
field_passes field must kind test one other entries e same fits =
    subst (λ v. field_fault field must kind (test v) entries ≡ None) same (rw (e, fits) refl)
