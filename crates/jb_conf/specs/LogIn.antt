-- Who logs in: a user with this name whose digest is that of the salt and the password.
use Rattle.std.specs.Prelude.{ℕ, Bool, ◌&&◌, ◌++◌, List, bytes_eq}
use Rattle.sha2.specs.Sha256.{sha256}
use Rattle.jb_bytes.specs.Name.{same_name}
use Rattle.jb_conf.specs.declared.board.BoardUser.{BoardUser}

-- whether the user has this name and this password
abbrev pub logs_in : List ℕ → List ℕ → BoardUser → Bool
logs_in name password user = same_name user.user.name name && bytes_eq (sha256 (user.salt ++ password)) user.digest
