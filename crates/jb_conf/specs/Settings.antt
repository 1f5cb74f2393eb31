-- The settings table: what a document says of a board, and the first of its tests, in their order, that it fails.
use Rattle.std.specs.Prelude.{◌≡◌, ◌⊎◌, ℕ, pos, negsuc, false, List, [], ◌∷◌, Option, Some, Result, Err, IsUtf8}
use Rattle.toml.specs.Data.{Members}
use Rattle.toml.specs.Parse.{parse_document}
use Rattle.jb_limits.specs.declared.limits.TheConstants.{MOST_AREAS, MOST_NODES, MOST_USERS}
use Rattle.jb_conf.specs.Areas.{areas_fault, areas_of}
use Rattle.jb_conf.specs.Unknown.{unknown_of}
use Rattle.jb_conf.specs.Users.{users_fault, users_of}
use Rattle.jb_conf.specs.Faults.{ValueOrFault, AnswersOrMemory, first_fault, tables_at, text_at, whole_at}
use Rattle.jb_conf.specs.Rows.{address_fault, given_number, news_port_fault, number_at, number_fault, printable_fault, tables_fault, whole_fault}
use Rattle.jb_conf.specs.declared.board.Board.{Board}
use Rattle.jb_conf.specs.declared.field.Field.TheVariants.{Board as OfBoard}
use Rattle.jb_conf.specs.declared.field.BoardKey.TheVariants.{Name, Address, Port, Nodes, Offset, PackMinutes, NewsPort, NewsLevel, Areas, Users}
use Rattle.jb_conf.specs.declared.error.ConfError.{ConfError}
use Rattle.jb_conf.specs.declared.error.ConfError.TheVariants.{NotToml, OutOfMemory}

-- the board is the one that a document says
pub record IsBoardOf (entries : Members) (board : Board) : Type 0 where
  pub name : board.name ≡ text_at (OfBoard Name) [] entries
  pub address : board.address ≡ text_at (OfBoard Address) [] entries
  pub port : board.port ≡ number_at (OfBoard Port) (Some 2323) entries
  pub nodes : board.nodes ≡ number_at (OfBoard Nodes) (Some 1) entries
  pub offset : board.offset ≡ whole_at (OfBoard Offset) (pos 0) entries
  pub pack_minutes : board.pack_minutes ≡ number_at (OfBoard PackMinutes) (Some 60) entries
  pub news_port : board.news_port ≡ given_number (OfBoard NewsPort) entries
  pub news_level : board.news_level ≡ number_at (OfBoard NewsLevel) (Some 0) entries
  pub areas : board.areas ≡ areas_of (text_at (OfBoard Address) [] entries) [] (tables_at (OfBoard Areas) entries)
  pub users : board.users ≡ users_of [] (tables_at (OfBoard Users) entries)
  pub unknown : board.unknown ≡ unknown_of entries

-- the tests of a document in their order: the fields of the board, then those of each area, then those of each user
unfoldable pub board_fault : Members → Option ConfError
board_fault entries = first_fault (
    printable_fault (OfBoard Name) 36 entries
    ∷ address_fault (OfBoard Address) 24 entries
    ∷ number_fault (OfBoard Port) (Some 2323) 0 65535 entries
    ∷ number_fault (OfBoard Nodes) (Some 1) 1 MOST_NODES entries
    ∷ whole_fault (OfBoard Offset) false (pos 0) (negsuc 839) (pos 840) entries
    ∷ number_fault (OfBoard PackMinutes) (Some 60) 0 10080 entries
    ∷ news_port_fault (number_at (OfBoard Port) (Some 2323) entries) (number_at (OfBoard Nodes) (Some 1) entries) entries
    ∷ number_fault (OfBoard NewsLevel) (Some 0) 0 255 entries
    ∷ tables_fault (OfBoard Areas) MOST_AREAS entries
    ∷ tables_fault (OfBoard Users) MOST_USERS entries
    ∷ areas_fault (text_at (OfBoard Address) [] entries) [] (tables_at (OfBoard Areas) entries)
    ∷ users_fault [] (tables_at (OfBoard Users) entries)
    ∷ [])

-- what the settings of a document are: its board, or the first test that it fails
abbrev pub AreSettingsOf : Members → Result Board ConfError → Type 0
AreSettingsOf entries result = ValueOrFault (board_fault entries) (IsBoardOf entries) result

-- these bytes are UTF-8, and they write this TOML document
abbrev pub IsDocument : List ℕ → Members → Type 0
IsDocument bytes entries = IsUtf8 bytes × (parse_document bytes ≡ Some entries)

-- these bytes write no TOML document
abbrev pub IsNoDocument : List ℕ → Type 0
IsNoDocument bytes = (entries : Members) → IsDocument bytes entries → ⊥

-- the same, unless memory runs out
abbrev pub AreSettingsUnlessMemory : Members → Result Board ConfError → Type 0
AreSettingsUnlessMemory entries result = AnswersOrMemory (board_fault entries) (IsBoardOf entries) result

-- what reading answers: the settings of the document, or that there is none, or want of memory
abbrev pub ReadsSettings : List ℕ → Result Board ConfError → Type 0
ReadsSettings bytes result =
    ((entries : Members) × IsDocument bytes entries × AreSettingsOf entries result)
    ⊎ ((IsNoDocument bytes × (result ≡ Err NotToml)) ⊎ (result ≡ Err OutOfMemory))
