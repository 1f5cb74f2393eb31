-- The target of a backup, and what a crash may leave of it.
use Rattle.std.specs.Prelude.{◌≡◌, ◌≢◌, ◌⊎◌, ℕ, ◌≤◌, List, [], ◌∷◌, length, take, drop, slice_index, Option}
use Rattle.std.specs.Option.{ForSome}
use Rattle.jb_disk.specs.declared.file.FileId.{FileId}
use Rattle.jb_disk.specs.declared.file.FileId.TheVariants.{Jhr, Jdt, Jdx, Jlr, Jnl, Ndt}
use Rattle.jb_disk.specs.Device.{Device}
use Rattle.jb_disk.specs.Files.{Files, ceiling_of}
use Rattle.jb_disk.specs.Runs.{Shows}

-- a file reaches to this place, where the disk tells
abbrev pub Reaches : Option Files → FileId → ℕ → Type 0
Reaches contents file end = ForSome contents (λ files. end ≤ length (files file))

-- as many bytes as the file may have
unfoldable pub capped : FileId → List ℕ → List ℕ
capped file bytes = take (ceiling_of file) bytes

-- the backup of these files: the four of the base up to their ceilings, signed, with no journal and no shadow of the texts
abbrev pub backed_up : Files → Files
backed_up files Jhr = 74 ∷ drop 1 (capped Jhr (files Jhr))
backed_up files Jdt = capped Jdt (files Jdt)
backed_up files Jdx = capped Jdx (files Jdx)
backed_up files Jlr = capped Jlr (files Jlr)
backed_up files Jnl = []
backed_up files Ndt = []

-- each file is empty
abbrev pub AreEmpty : Files → Type 0
AreEmpty files = (file : FileId) → files file ≡ []

-- no journal, no shadow of the texts, and headers of one byte at most
pub record IsTiny (files : Files) : Type 0 where
  pub journal : files Jnl ≡ []
  pub shadow : files Ndt ≡ []
  pub short : length (files Jhr) ≤ 1

-- no journal, no shadow of the texts, and headers whose first byte is not that of the signature
pub record IsUnsigned (files : Files) : Type 0 where
  pub journal : files Jnl ≡ []
  pub shadow : files Ndt ≡ []
  pub some : 1 ≤ length (files Jhr)
  pub first : slice_index (files Jhr) 0 ≢ 74

-- bytes of the same length, and the same from a place on
pub record IsSameFrom (from : ℕ) (good bytes : List ℕ) : Type 0 where
  pub size : length bytes ≡ length good
  pub behind : (i : ℕ) → from ≤ i → slice_index bytes i ≡ slice_index good i

-- they are these files but for the first byte of the headers
pub record IsAllButSigned (good files : Files) : Type 0 where
  pub others : (file : FileId) → file ≢ Jhr → files file ≡ good file
  pub headers : IsSameFrom 1 (good Jhr) (files Jhr)

-- they are these files
abbrev pub IsSame : Files → Files → Type 0
IsSame good files = (file : FileId) → files file ≡ good file

-- a base that opening refuses: no journal, and headers that are too short for a signature or do not begin as one
pub record IsRefusedBase (files : Files) : Type 0 where
  pub journal : files Jnl ≡ []
  pub headers : (length (files Jhr) ≤ 1) ⊎ (slice_index (files Jhr) 0 ≢ 74)

-- a backup: refused, or whole
abbrev pub IsBackupOf : Files → Files → Type 0
IsBackupOf good files = IsRefusedBase files ⊎ IsSame good files

-- a target that has been begun: unsigned, and its texts reach as far as they are copied
pub record HasBegun (copied : ℕ) (target : Device) : Type 0 where
  pub unsigned : Shows IsUnsigned target
  pub texts : Reaches target.contents Jdt copied

-- so many bytes stand at the beginning of both texts
pub record IsFront (copied : ℕ) (source target : List ℕ) : Type 0 where
  pub within : copied ≤ length source
  pub same : take copied target ≡ take copied source

-- the texts that are copied are a beginning of these, where the target tells
abbrev pub HasFront : ℕ → Files → Option Files → Type 0
HasFront copied source target = ForSome target (λ files. IsFront copied (source Jdt) (files Jdt))
