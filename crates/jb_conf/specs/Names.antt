-- The keys of the settings file, and the names by which errors tell its fields.
use Rattle.std.specs.Prelude.{ℕ, List, ◌++◌, codes, decimal}
use Rattle.jb_conf.specs.declared.field.Field.{Field}
use Rattle.jb_conf.specs.declared.field.Field.TheVariants.{Board, Area, User}
use Rattle.jb_conf.specs.declared.field.BoardKey.TheVariants as board
use Rattle.jb_conf.specs.declared.field.AreaKey.TheVariants as area
use Rattle.jb_conf.specs.declared.field.UserKey.TheVariants as user

-- the key of a field in its table
abbrev pub field_key : Field → List ℕ
field_key (Board board.Name) = codes "name"
field_key (Board board.Address) = codes "address"
field_key (Board board.Port) = codes "port"
field_key (Board board.Nodes) = codes "nodes"
field_key (Board board.Offset) = codes "offset"
field_key (Board board.PackMinutes) = codes "pack_minutes"
field_key (Board board.NewsPort) = codes "news_port"
field_key (Board board.NewsLevel) = codes "news_level"
field_key (Board board.Areas) = codes "area"
field_key (Board board.Users) = codes "user"
field_key (Area place area.Name) = codes "name"
field_key (Area place area.Dir) = codes "dir"
field_key (Area place area.Base) = codes "base"
field_key (Area place area.Kind) = codes "kind"
field_key (Area place area.Read) = codes "read"
field_key (Area place area.Post) = codes "post"
field_key (Area place area.Sysop) = codes "sysop"
field_key (Area place area.Slots) = codes "slots"
field_key (User place user.Name) = codes "name"
field_key (User place user.Id) = codes "id"
field_key (User place user.Level) = codes "level"
field_key (User place user.Salt) = codes "salt"
field_key (User place user.Digest) = codes "digest"

-- the name of a field of an area or of a user: whose, the place in digits, a dot, the key
abbrev pub owned_name : List ℕ → ℕ → List ℕ → List ℕ
owned_name owner place key = owner ++ decimal place ++ codes "." ++ key

-- the name of a field
abbrev pub setting_name : Field → List ℕ
setting_name (Board key) = field_key (Board key)
setting_name (Area place key) = owned_name (codes "area.") place (field_key (Area place key))
setting_name (User place key) = owned_name (codes "user.") place (field_key (User place key))
