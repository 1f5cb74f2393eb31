-- The version of the journal, and its gate, the first byte.
use Rattle.std.specs.Prelude.{◌≡◌, ◌≢◌, ℕ, ◌<◌, ◌==◌, [], ◌∷◌, length, slice_index, if◌then◌else◌}
use Rattle.jb_disk.specs.declared.file.FileId.TheVariants.{Jnl}
use Rattle.jb_disk.specs.declared.version.Version.{Version}
use Rattle.jb_disk.specs.declared.version.Version.TheVariants.{One, Two}
use Rattle.jb_disk.specs.Files.{Files, written}

-- the number of a version, which is also the byte that opens the gate of its journal
abbrev pub version_number : Version → ℕ
version_number One = 1
version_number Two = 2

-- the version that the second byte of a journal tells
abbrev pub version_by : ℕ → Version
version_by second = if second == 2 then Two else One

-- the version of the journal; one of fewer than two bytes has the first
abbrev pub version_of : Files → Version
version_of files = version_by (slice_index (files Jnl) 1)

-- the gate is open: the journal has more than its sixteen bytes of head, and the first of them is the number of its version
pub record IsGateOpen (files : Files) : Type 0 where
  pub longer : 16 < length (files Jnl)
  pub gate : slice_index (files Jnl) 0 ≡ version_number (version_of files)

-- the first byte of the journal is not the one that opens its gate, however long it is
abbrev pub IsShut : Files → Type 0
IsShut files = slice_index (files Jnl) 0 ≢ version_number (version_of files)

-- these files with the gate closed
abbrev pub with_gate_closed : Files → Files
with_gate_closed files = written Jnl 0 (0 ∷ []) files
