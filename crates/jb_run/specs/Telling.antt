-- What an operator is told of a run.
use Rattle.std.specs.Prelude.{ℕ, ◌≤◌, IsTrue, List, ◌++◌, All, codes, decimal, length}
use Rattle.std.specs.List.{list_all}
use Rattle.jb_conf.specs.Ranges.{is_printed}
use Rattle.jb_conf.specs.declared.board.BoardArea.{BoardArea}

-- the line of the port and of how many nodes serve there, without its end
abbrev pub listening_line : ℕ → ℕ → List ℕ
listening_line port nodes = codes "listening port " ++ decimal port ++ codes " nodes " ++ decimal nodes

-- the line of the port of news, without its end
abbrev pub news_line : ℕ → List ℕ
news_line port = codes "news on port " ++ decimal port

-- the line of an area and of how many of its messages are live, without its end
abbrev pub area_line : List ℕ → ℕ → List ℕ
area_line name live = codes "area " ++ name ++ codes " live " ++ decimal live

-- the areas have short, printable names
abbrev pub AreNamed : List BoardArea → Type 0
AreNamed areas = All (λ area. (length area.name ≤ 24) × IsTrue (list_all is_printed area.name)) areas
