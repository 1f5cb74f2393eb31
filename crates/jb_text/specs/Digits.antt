-- Numbers that users write in digits.
use Rattle.std.specs.Prelude.{ℕ, nat_le, ◌&&◌, Bool, List, length, Option, Some, None, if◌then◌else◌}
use Rattle.std.specs.Char.{is_ascii_digit}
use Rattle.std.specs.List.{list_all}
use Rattle.std.specs.Str.Parse.{digits_value}

-- one to ten digits
abbrev pub are_digits : List ℕ → Bool
are_digits text = nat_le 1 (length text) && (nat_le (length text) 10 && list_all is_ascii_digit text)

-- the number that one to ten digits write, where it is at most this; digits 0 may stand before the others
abbrev pub number_up_to : ℕ → List ℕ → Option ℕ
number_up_to most text = if are_digits text && nat_le (digits_value 10 text) most then Some (digits_value 10 text) else None
