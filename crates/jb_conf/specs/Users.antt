-- The users of a settings file: what each table says, and what it is refused for.
use Rattle.std.specs.Prelude.{ℕ, ◌+◌, ◌==◌, Bool, List, [], ◌∷◌, ◌++◌, length, Option, None}
use Rattle.std.specs.List.{list_any}
use Rattle.std.specs.Option.{option_or}
use Rattle.toml.specs.Data.{Members}
use Rattle.jb_bytes.specs.Name.{same_name}
use Rattle.jb_conf.specs.Faults.{fault_if, first_fault, text_at}
use Rattle.jb_conf.specs.Rows.{digest_fault, digest_of, number_at, number_fault, printable_fault, short_fault}
use Rattle.jb_conf.specs.declared.board.BoardUser.{BoardUser}
use Rattle.jb_conf.specs.declared.field.Field.TheVariants.{User}
use Rattle.jb_conf.specs.declared.field.UserKey.TheVariants.{Name, Id, Level, Salt, Digest}
use Rattle.jb_conf.specs.declared.error.ConfError.{ConfError}
use Rattle.jb_conf.specs.declared.error.ConfError.TheVariants.{Repeated}

-- the user that a table says, at this place
unfoldable pub user_of : ℕ → Members → BoardUser
user_of place entries = record {
  user = record {
    name = text_at (User place Name) [] entries;
    id = number_at (User place Id) None entries;
    level = number_at (User place Level) None entries;
  };
  salt = text_at (User place Salt) [] entries;
  digest = digest_of (text_at (User place Digest) [] entries);
}

-- whether one of these users has the name
abbrev pub has_user_name : List ℕ → List BoardUser → Bool
has_user_name name users = list_any (λ user. same_name user.user.name name) users

-- whether one of these users has the number
abbrev pub has_id : ℕ → List BoardUser → Bool
has_id id users = list_any (λ user. user.user.id == id) users

-- what a user is refused for behind these users
unfoldable pub user_fault : List BoardUser → ℕ → Members → Option ConfError
user_fault before place entries = first_fault (
    printable_fault (User place Name) 36 entries
    ∷ fault_if (has_user_name (text_at (User place Name) [] entries) before) (Repeated (User place Name))
    ∷ number_fault (User place Id) None 1 65535 entries
    ∷ fault_if (has_id (number_at (User place Id) None entries) before) (Repeated (User place Id))
    ∷ number_fault (User place Level) None 0 255 entries
    ∷ short_fault (User place Salt) 64 entries
    ∷ digest_fault place entries
    ∷ [])

-- these users, and behind them the one of each table
abbrev pub users_of : List BoardUser → List Members → List BoardUser
users_of before [] = before
users_of before (entries ∷ rest) = users_of (before ++ user_of (length before + 1) entries ∷ []) rest

-- what the first table is refused for that is refused behind those before it
abbrev pub users_fault : List BoardUser → List Members → Option ConfError
users_fault before [] = None
users_fault before (entries ∷ rest) =
    option_or (user_fault before (length before + 1) entries) (users_fault (before ++ user_of (length before + 1) entries ∷ []) rest)
