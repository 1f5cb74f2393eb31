-- What the menus take from the board: who the user is, and which areas the user may read.
use Rattle.std.specs.Prelude.{ℕ, ◌+◌, ◌==◌, nat_le, Bool, ◌&&◌, List, [], drop, position, Option, option_map, unwrap_or}
use Rattle.std.specs.List.{slice_get}
use Rattle.jb_conf.specs.declared.board.Board.{Board}
use Rattle.jb_conf.specs.declared.board.BoardArea.{BoardArea}
use Rattle.jb_text.specs.Lines.{area_line_text}

-- the name of the user at a place, as the settings have it; without one, the empty name
abbrev pub user_name : Board → ℕ → List ℕ
user_name board user = unwrap_or (option_map (λ one. one.user.name) (slice_get board.users user)) []

-- the level of the user at a place; without one, 0
abbrev pub level_of : Board → ℕ → ℕ
level_of board user = unwrap_or (option_map (λ one. one.user.level) (slice_get board.users user)) 0

-- the name of the area at a place; without one, the empty name
abbrev pub area_name : Board → ℕ → List ℕ
area_name board area = unwrap_or (option_map (λ one. one.name) (slice_get board.areas area)) []

-- the line of the area at a place, with its number and name
abbrev pub counted_text : Board → ℕ → ℕ → List ℕ
counted_text board area unread =
    unwrap_or (option_map (λ one. area_line_text one.rules.ordinal one.name unread) (slice_get board.areas area)) []

-- the level may read the area
abbrev pub may_read : ℕ → BoardArea → Bool
may_read level area = nat_le area.rules.read level

-- the place of the first area from this one on that the user may read
abbrev pub next_area : Board → ℕ → ℕ → Option ℕ
next_area board user from = option_map (λ n. from + n) (position (may_read (level_of board user)) (drop from board.areas))

-- the area has this number, and the level may read it
abbrev pub is_named_for : ℕ → ℕ → BoardArea → Bool
is_named_for level number area = (area.rules.ordinal == number) && may_read level area

-- the place of the area with this number, where the user may read it
abbrev pub area_named : Board → ℕ → ℕ → Option ℕ
area_named board user number = position (is_named_for (level_of board user) number) board.areas
