-- The rows of the settings table: what a field of each sort is refused for.
use Rattle.std.specs.Prelude.{ℕ, ℤ, pos, nat_abs, Bool, true, false, not, ◌&&◌, ◌||◌, ◌==◌, if◌then◌else◌, nat_lt, List, [], ◌∷◌, length, Option, Some, is_none, is_some, option_and_then, unwrap_or, None, codes, bytes_eq}
use Rattle.toml.specs.Data.{Members, as_integer}
use Rattle.std.specs.List.{list_all}
use Rattle.std.specs.Option.{option_map}
use Rattle.std.specs.Result.{result_unwrap_or}
use Rattle.hex.specs.Hex.{decode_of, is_hex_digit}
use Rattle.jb_limits.specs.declared.limits.TheConstants.{MOST_NODES}
use Rattle.jb_base.specs.declared.area.Kind.{Kind}
use Rattle.jb_base.specs.declared.area.Kind.TheVariants.{Local, Echo}
use Rattle.jb_conf.specs.Faults.{at_field, fault_if, field_fault, first_fault, kind_fault, is_tables, is_text, is_whole, tables_at, text_at, whole_at}
use Rattle.jb_conf.specs.Ranges.{is_address, is_between, is_printable, is_sized}
use Rattle.jb_conf.specs.declared.field.Field.{Field}
use Rattle.jb_conf.specs.declared.field.Field.TheVariants.{Board, User}
use Rattle.jb_conf.specs.declared.field.BoardKey.TheVariants.{NewsPort}
use Rattle.jb_conf.specs.declared.field.UserKey.TheVariants.{Digest}
use Rattle.jb_conf.specs.declared.error.ConfError.{ConfError}
use Rattle.jb_conf.specs.declared.error.ConfError.TheVariants.{BadDigest, OutOfRange, Repeated}

-- a printable text that has to be there
unfoldable pub printable_fault : Field → ℕ → Members → Option ConfError
printable_fault field most entries = field_fault field true is_text (is_printable most (text_at field [] entries)) entries

-- an address that has to be there
unfoldable pub address_fault : Field → ℕ → Members → Option ConfError
address_fault field most entries = field_fault field true is_text (is_address most (text_at field [] entries)) entries

-- a text of so many bytes that has to be there
unfoldable pub sized_fault : Field → ℕ → Members → Option ConfError
sized_fault field most entries = field_fault field true is_text (is_sized 1 most (text_at field [] entries)) entries

-- a text of at most so many bytes, the empty one where it is absent
unfoldable pub short_fault : Field → ℕ → Members → Option ConfError
short_fault field most entries = field_fault field false is_text (is_sized 0 most (text_at field [] entries)) entries

-- a whole number in a range
unfoldable pub whole_fault : Field → Bool → ℤ → ℤ → ℤ → Members → Option ConfError
whole_fault field must absent least most entries = field_fault field must is_whole (is_between least most (whole_at field absent entries)) entries

-- a whole number that is not negative, in a range; where nothing stands for an absent one, it has to be there
unfoldable pub number_fault : Field → Option ℕ → ℕ → ℕ → Members → Option ConfError
number_fault field absent least most entries = whole_fault field (is_none absent) (pos (unwrap_or absent 0)) (pos least) (pos most) entries

-- the number at a field
unfoldable pub number_at : Field → Option ℕ → Members → ℕ
number_at field absent entries = nat_abs (whole_at field (pos (unwrap_or absent 0)) entries)

-- the number at a field that is there
unfoldable pub given_number : Field → Members → Option ℕ
given_number field entries = option_map nat_abs (option_and_then as_integer (at_field field entries))

-- the number is there, and is this one
abbrev pub is_number : ℕ → Option ℕ → Bool
is_number number None = false
is_number number (Some given) = given == number

-- the port of news: a board with as many nodes as there may be has none, and no board that of its callers
unfoldable pub news_port_fault : ℕ → ℕ → Members → Option ConfError
news_port_fault port nodes entries = first_fault (
    number_fault (Board NewsPort) (Some 0) 0 65535 entries
    ∷ fault_if (is_some (given_number (Board NewsPort) entries) && not (nat_lt nodes MOST_NODES)) (OutOfRange (Board NewsPort))
    ∷ fault_if (is_number port (given_number (Board NewsPort) entries)) (Repeated (Board NewsPort))
    ∷ [])

-- an array of tables, one at least, that has to be there
unfoldable pub tables_fault : Field → ℕ → Members → Option ConfError
tables_fault field most entries = field_fault field true is_tables (is_sized 1 most (tables_at field entries)) entries

-- whether a text is one of the two kinds of areas, and which
abbrev pub is_area_kind : List ℕ → Bool
is_area_kind text = bytes_eq text (codes "local") || bytes_eq text (codes "echo")

abbrev pub kind_of : List ℕ → Kind
kind_of text = if bytes_eq text (codes "echo") then Echo else Local

-- the kind of an area, `local` where it is absent
unfoldable pub area_kind_fault : Field → Members → Option ConfError
area_kind_fault field entries = field_fault field false is_text (is_area_kind (text_at field (codes "local") entries)) entries

-- whether a text is 64 hexadecimal digits, and the bytes that they are
abbrev pub is_digest : List ℕ → Bool
is_digest text = (length text == 64) && list_all is_hex_digit text

abbrev pub digest_of : List ℕ → List ℕ
digest_of text = result_unwrap_or (decode_of text) []

-- the digest of a user
unfoldable pub digest_fault : ℕ → Members → Option ConfError
digest_fault place entries = first_fault (
    kind_fault (User place Digest) true is_text entries
    ∷ fault_if (not (is_digest (text_at (User place Digest) [] entries))) (BadDigest place)
    ∷ [])
