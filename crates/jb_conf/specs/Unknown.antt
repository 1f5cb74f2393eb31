-- The keys of a settings file that no field has.
use Rattle.std.specs.Prelude.{ℕ, ◌+◌, Bool, List, map, [], ◌∷◌, ◌++◌, codes, bytes_eq, if◌then◌else◌}
use Rattle.std.specs.List.{list_any}
use Rattle.toml.specs.Data.{Members, no_members, member}
use Rattle.jb_conf.specs.Faults.{tables_at}
use Rattle.jb_conf.specs.Names.{field_key, owned_name}
use Rattle.jb_conf.specs.declared.field.Field.{Field}
use Rattle.jb_conf.specs.declared.field.Field.TheVariants.{Board, Area, User}
use Rattle.jb_conf.specs.declared.field.BoardKey.TheVariants as board
use Rattle.jb_conf.specs.declared.field.AreaKey.TheVariants as area
use Rattle.jb_conf.specs.declared.field.UserKey.TheVariants as user
use Rattle.jb_conf.specs.declared.unknown.Sort.{Sort}
use Rattle.jb_conf.specs.declared.unknown.Sort.TheVariants.{OfBoard, OfArea, OfUser}

-- the fields of a table of this sort
abbrev pub fields_of : Sort → List Field
fields_of OfBoard =
    map Board (board.Name ∷ board.Address ∷ board.Port ∷ board.Nodes ∷ board.Offset ∷ board.PackMinutes ∷ board.NewsPort ∷ board.NewsLevel ∷ board.Areas ∷ board.Users ∷ [])
fields_of OfArea = map (Area 1) (area.Name ∷ area.Dir ∷ area.Base ∷ area.Kind ∷ area.Read ∷ area.Post ∷ area.Sysop ∷ area.Slots ∷ [])
fields_of OfUser = map (User 1) (user.Name ∷ user.Id ∷ user.Level ∷ user.Salt ∷ user.Digest ∷ [])

-- whether one of them has a key
abbrev pub has_key : Sort → List ℕ → Bool
has_key sort key = list_any (λ field. bytes_eq (field_key field) key) (fields_of sort)

-- what stands before a key in its name: nothing, or whose it is with the place
abbrev pub owner_of : Sort → ℕ → List ℕ
owner_of OfBoard place = []
owner_of OfArea place = owned_name (codes "area.") place []
owner_of OfUser place = owned_name (codes "user.") place []

-- the names of the keys that a table may not have, in their order
abbrev pub unknown_in : Sort → ℕ → Members → List (List ℕ)
unknown_in sort place no_members = []
unknown_in sort place (member key data' rest) =
    if has_key sort key then unknown_in sort place rest else (owner_of sort place ++ key) ∷ unknown_in sort place rest

-- the same of tables that are counted from this place on
abbrev pub unknown_in_each : Sort → ℕ → List Members → List (List ℕ)
unknown_in_each sort place [] = []
unknown_in_each sort place (entries ∷ rest) = unknown_in sort place entries ++ unknown_in_each sort (place + 1) rest

-- the same of a whole document: of the board, of its areas, of its users
abbrev pub unknown_of : Members → List (List ℕ)
unknown_of entries =
    unknown_in OfBoard 0 entries
    ++ unknown_in_each OfArea 1 (tables_at (Board board.Areas) entries)
    ++ unknown_in_each OfUser 1 (tables_at (Board board.Users) entries)
