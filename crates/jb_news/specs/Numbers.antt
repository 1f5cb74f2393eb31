-- Numbers of articles, and ranges of them (RFC 3977 sections 6 and 8.3).
use Rattle.std.specs.Prelude.{ℕ, nat_le, nat_lt, ◌-◌, ◌^◌, ◌&&◌, Bool, min, List, [], ◌∷◌, length, Option, Some, None, bytes_eq, decimal, if◌then◌else◌}
use Rattle.std.specs.Char.{is_ascii_digit}
use Rattle.std.specs.List.{list_all}
use Rattle.std.specs.Str.Parse.{digits_value}
use Rattle.jb_text.specs.Digits.{number_up_to}
use Rattle.jb_news.specs.declared.numbers.NumberRange.{NumberRange}
use Rattle.jb_news.specs.Words.{behind_of, front_of, place_of}

-- digits, one at least
abbrev pub is_numeral : List ℕ → Bool
is_numeral word = nat_le 1 (length word) && list_all is_ascii_digit word

-- the number of an article that digits write, of any count; one that is too large counts as the first that is
abbrev pub article_number : List ℕ → Option ℕ
article_number word = if is_numeral word then Some (min (digits_value 10 word) 2_147_483_648) else None

-- the number, where the word is its decimal form
abbrev pub written_so : List ℕ → Option ℕ → Option ℕ
written_so word None = None
written_so word (Some number) = if bytes_eq (decimal number) word then Some number else None

-- the number that a word is in decimal, without zeros before it
abbrev pub plain_number : List ℕ → Option ℕ
plain_number word = written_so word (number_up_to (2 ^ 32 - 1) word)

-- the numbers from one to another, none where one is too large
abbrev pub span : ℕ → ℕ → NumberRange
span first last = if nat_le first 2_147_483_647 && nat_le last 2_147_483_647 then record { first = first; last = last } else record { first = 1; last = 0 }

-- the range from a number to another, where there is one
abbrev pub to_number : ℕ → Option ℕ → Option NumberRange
to_number first None = None
to_number first (Some last) = Some (span first last)

-- the range from a number to what stands behind the dash: with nothing there, to the greatest
abbrev pub last_of : ℕ → List ℕ → Option NumberRange
last_of first [] = Some (span first 2_147_483_647)
last_of first (byte ∷ rest) = to_number first (article_number (byte ∷ rest))

-- the range from a number on: without a dash that number alone
abbrev pub range_from : Option ℕ → Bool → List ℕ → Option NumberRange
range_from None found behind = None
range_from (Some first) found behind = if found then last_of first behind else Some (span first first)

-- the range that a word is: `n`, `n-` or `n-m`
abbrev pub range_of : List ℕ → Option NumberRange
range_of word = range_from (article_number (front_of 45 word)) (nat_lt (place_of 45 word) (length word)) (behind_of 45 word)
