-- A document is refused by the name of a field or of a user, and by nothing else.
use Rattle.std.proofs.Common.{◌≡◌, ℕ, ℤ, Bool, true, false, List, [], ◌∷◌, ◌++◌, ◌+◌, Option, Some, None, length, refl, ap, sym, ◌∙◌, rules}
use Rattle.std.specs.Option.{option_or}
use Rattle.std.proofs.lemmas.Bool.{false≢true}
use Rattle.toml.specs.Data.{Data, Members}
use Rattle.jb_conf.specs.Areas.{area_fault, area_of, areas_fault, rules_fault}
use Rattle.jb_conf.specs.Faults.{fault_if, field_fault, kind_fault}
use Rattle.jb_conf.specs.Rows.{address_fault, area_kind_fault, digest_fault, news_port_fault, number_fault, printable_fault, short_fault, sized_fault, tables_fault, whole_fault}
use Rattle.jb_conf.specs.Settings.{board_fault}
use Rattle.jb_conf.specs.Users.{user_fault, user_of, users_fault}
use Rattle.jb_conf.specs.declared.board.BoardArea.{BoardArea}
use Rattle.jb_conf.specs.declared.board.BoardUser.{BoardUser}
use Rattle.jb_conf.specs.declared.field.Field.{Field}
use Rattle.jb_conf.specs.declared.error.ConfError.{ConfError}
use Rattle.jb_conf.specs.declared.error.ConfError.TheVariants.{NotToml, Missing, WrongKind, OutOfRange, Repeated, BadDigest, OutOfMemory}

-- whether an error names a field or a user
abbrev names_field : ConfError → Bool
names_field NotToml = false
names_field (Missing field) = true
names_field (WrongKind field) = true
names_field (OutOfRange field) = true
names_field (Repeated field) = true
names_field (BadDigest user) = true
names_field OutOfMemory = false

-- whether a fault, where there is one, does
abbrev is_named : Option ConfError → Bool
is_named None = true
is_named (Some error) = names_field error

named_or : (one other : Option ConfError) → is_named one ≡ true → is_named other ≡ true → is_named (option_or one other) ≡ true
named_or None other a b = b
named_or (Some error) other a b = a

named_if : (fails : Bool) (error : ConfError) → names_field error ≡ true → is_named (fault_if fails error) ≡ true
named_if true error is = is
named_if false error is = refl

kind_named : (field : Field) (must : Bool) (kind : Data → Bool) (entries : Members) → is_named (kind_fault field must kind entries) ≡ true
unfolding kind_fault
kind_named field must kind entries = search (rules, named_or, named_if)

field_named : (field : Field) (must : Bool) (kind : Data → Bool) (fits : Bool) (entries : Members) → is_named (field_fault field must kind fits entries) ≡ true
unfolding field_fault
field_named field must kind fits entries = search (rules, named_or, named_if, kind_named)

printable_named : (field : Field) (most : ℕ) (entries : Members) → is_named (printable_fault field most entries) ≡ true
unfolding printable_fault
printable_named field most entries = field_named field _ _ _ entries

address_named : (field : Field) (most : ℕ) (entries : Members) → is_named (address_fault field most entries) ≡ true
unfolding address_fault
address_named field most entries = field_named field _ _ _ entries

sized_named : (field : Field) (most : ℕ) (entries : Members) → is_named (sized_fault field most entries) ≡ true
unfolding sized_fault
sized_named field most entries = field_named field _ _ _ entries

short_named : (field : Field) (most : ℕ) (entries : Members) → is_named (short_fault field most entries) ≡ true
unfolding short_fault
short_named field most entries = field_named field _ _ _ entries

tables_named : (field : Field) (most : ℕ) (entries : Members) → is_named (tables_fault field most entries) ≡ true
unfolding tables_fault
tables_named field most entries = field_named field _ _ _ entries

kinds_named : (field : Field) (entries : Members) → is_named (area_kind_fault field entries) ≡ true
unfolding area_kind_fault
kinds_named field entries = field_named field _ _ _ entries

whole_named : (field : Field) (must : Bool) (absent least most : ℤ) (entries : Members) → is_named (whole_fault field must absent least most entries) ≡ true
unfolding whole_fault
whole_named field must absent least most entries = field_named field _ _ _ entries

number_named : (field : Field) (absent : Option ℕ) (least most : ℕ) (entries : Members) → is_named (number_fault field absent least most entries) ≡ true
unfolding number_fault
number_named field absent least most entries = whole_named field _ _ _ _ entries

news_named : (port nodes : ℕ) (entries : Members) → is_named (news_port_fault port nodes entries) ≡ true
unfolding news_port_fault
news_named port nodes entries = search (rules, named_or, named_if, number_named)

digest_named : (place : ℕ) (entries : Members) → is_named (digest_fault place entries) ≡ true
unfolding digest_fault
digest_named place entries = search (rules, named_or, named_if, kind_named)

rules_named : (together place : ℕ) (entries : Members) → is_named (rules_fault together place entries) ≡ true
unfolding rules_fault
rules_named together place entries = search (rules, named_or, named_if, kinds_named, number_named)

area_named : (before : List BoardArea) (place : ℕ) (entries : Members) → is_named (area_fault before place entries) ≡ true
unfolding area_fault
area_named before place entries = search (rules, named_or, named_if, printable_named, sized_named, rules_named)

user_named : (before : List BoardUser) (place : ℕ) (entries : Members) → is_named (user_fault before place entries) ≡ true
unfolding user_fault
user_named before place entries = search (rules, named_or, named_if, printable_named, number_named, short_named, digest_named)

areas_named : (address : List ℕ) (before : List BoardArea) (rest : List Members) → is_named (areas_fault address before rest) ≡ true
areas_named address before [] = refl
areas_named address before (entries ∷ rest) =
    named_or (area_fault before (length before + 1) entries) (areas_fault address (before ++ area_of address (length before + 1) entries ∷ []) rest)
    (area_named before (length before + 1) entries) (areas_named address (before ++ area_of address (length before + 1) entries ∷ []) rest)

users_named : (before : List BoardUser) (rest : List Members) → is_named (users_fault before rest) ≡ true
users_named before [] = refl
users_named before (entries ∷ rest) =
    named_or (user_fault before (length before + 1) entries) (users_fault (before ++ user_of (length before + 1) entries ∷ []) rest)
    (user_named before (length before + 1) entries) (users_named (before ++ user_of (length before + 1) entries ∷ []) rest)

board_named : (entries : Members) → is_named (board_fault entries) ≡ true
unfolding board_fault
board_named entries = search (rules, named_or, printable_named, address_named, number_named, whole_named, news_named, tables_named, areas_named, users_named)

-- no document is refused as none
pub never_not_toml : (entries : Members) → board_fault entries ≡ Some NotToml → ⊥
never_not_toml entries e = false≢true (sym (ap is_named e) ∙ board_named entries)
