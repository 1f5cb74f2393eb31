-- Which areas are groups, and as whom they are read.
use Rattle.std.specs.Prelude.{◌≡◌, ℕ, ◌+◌, ◌<◌, ◌==◌, ◌&&◌, nat_le, nat_lt, Bool, true, List, [], ◌∷◌, codes, drop, length, position, Option, Some, None, IfSome, option_map, unwrap_or, if◌then◌else◌}
use Rattle.std.specs.List.{flat_map, slice_get}
use Rattle.jb_base.specs.declared.user.User.{User}
use Rattle.jb_conf.specs.declared.board.Board.{Board}
use Rattle.jb_conf.specs.declared.board.BoardArea.{BoardArea}
use Rattle.jb_news.specs.Groups.{name_line}
use Rattle.jb_news.specs.Names.{group_text}
use Rattle.jb_news.specs.declared.names.GroupName.{GroupName}
use Rattle.jb_news.specs.declared.names.GroupName.TheVariants.{Number, Other}
use Rattle.jb_wildmat.specs.Wildmats.{takes}

-- the name as which articles are read: no line holds its first byte, so that no message is written to it
abbrev pub reader_name : List ℕ
reader_name = 0 ∷ codes "News"

-- the user as whom articles are read
abbrev pub news_user : Board → User
news_user board = record { name = reader_name; id = 0; level = board.news_level }

-- the area is a group: news may read it, and is not its sysop, who sees what is private
abbrev pub is_group : Board → BoardArea → Bool
is_group board area = nat_le area.rules.read board.news_level && nat_lt board.news_level area.rules.sysop

-- the board has a group at a place
pub record IsGroupAt (board : Board) (place : ℕ) : Type 0 where
  pub within : place < length board.areas
  pub group : IfSome (slice_get board.areas place) (λ area. is_group board area ≡ true)

-- the number of the group at a place
abbrev pub number_of : Board → ℕ → ℕ
number_of board area = unwrap_or (option_map (λ one. one.rules.ordinal) (slice_get board.areas area)) 0

-- the area is the group of this number
abbrev pub is_numbered : Board → ℕ → BoardArea → Bool
is_numbered board number area = (area.rules.ordinal == number) && is_group board area

-- the place of the group that is named, where there is one
abbrev pub group_of : Board → GroupName → Option ℕ
group_of board (Number number) = position (is_numbered board number) board.areas
group_of board Other = None

-- the wildmat takes the name, where there is one
abbrev pub is_wanted : Option (List ℕ) → List ℕ → Bool
is_wanted None name = true
is_wanted (Some wildmat) name = takes wildmat name

-- the area is a group that the wildmat takes
abbrev pub is_listed : Board → Option (List ℕ) → BoardArea → Bool
is_listed board wildmat area = is_group board area && is_wanted wildmat (group_text area.rules.ordinal)

-- the place of the first such group from a place on
abbrev pub next_group : Board → Option (List ℕ) → ℕ → Option ℕ
next_group board wildmat from = option_map (λ n. from + n) (position (is_listed board wildmat) (drop from board.areas))

-- the line of an area with its name, where it is such a group
abbrev pub named_line : Board → Option (List ℕ) → BoardArea → List ℕ
named_line board wildmat area = if is_listed board wildmat area then name_line area.rules.ordinal area.name else []

-- the lines of all such groups, in order
abbrev pub named_lines : Board → Option (List ℕ) → List ℕ
named_lines board wildmat = flat_map (named_line board wildmat) board.areas
