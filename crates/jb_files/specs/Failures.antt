-- What a call on the files of a base leaves of their names, and of what is known of their failed syncs.
use Rattle.std.specs.Prelude.{◌≡◌, ◌≢◌, ℕ, Bool, false, IsTrue, List, get_or, map}
use Rattle.jb_files.specs.declared.real.RealFile.{RealFile}

-- each file has the name that it had
abbrev pub KeepsPaths : List RealFile → List RealFile → Type 0
KeepsPaths old new = map (λ file. file.path) new ≡ map (λ file. file.path) old

-- of each file, by its number, whether a sync of it failed
abbrev pub failures : List RealFile → List Bool
failures files = map (λ file. file.has_failed_sync) files

-- a sync of this file failed
abbrev pub HasFailedSync : List RealFile → ℕ → Type 0
HasFailedSync files n = IsTrue (get_or (failures files) n false)

-- of each file but one the same is known
abbrev pub OthersStay : ℕ → List RealFile → List RealFile → Type 0
OthersStay n old new = (other : ℕ) → other ≢ n → get_or (failures new) other false ≡ get_or (failures old) other false
