-- A window on a file: what it holds is what the file has there.
use Rattle.std.specs.Prelude.{◌≡◌, ℕ, ◌+◌, ◌-◌, ◌≤◌, List, length, Option}
use Rattle.std.specs.Option.{ForSome}
use Rattle.jb_disk.specs.Files.{Files}
use Rattle.jb_disk.specs.declared.file.FileId.{FileId}
use Rattle.jb_image.specs.declared.window.Window.{Window}
use Rattle.jb_image.specs.Places.{bytes_at}

-- the window holds so many bytes from this place of its file on
pub record WindowCovers (at len : ℕ) (window : Window) : Type 0 where
  pub from : window.at ≤ at
  pub to : at + len ≤ window.at + length window.bytes.items

-- the bytes that it holds for this place
unfoldable pub seen_at : ℕ → ℕ → Window → List ℕ
seen_at at len window = bytes_at (at - window.at) len window.bytes.items

-- it is one on this file, whose length it knows, and holds what stands there
pub record ShowsIn (window : Window) (files : Files) : Type 0 where
  pub size : window.file_len ≡ length (files window.file)
  pub bytes : window.bytes.items ≡ bytes_at window.at (length window.bytes.items) (files window.file)

-- it is one on the file of this name and length, and holds what the disk tells
pub record IsWindowOn (file : FileId) (len : ℕ) (contents : Option Files) (window : Window) : Type 0 where
  pub file_is : window.file ≡ file
  pub len_is : window.file_len ≡ len
  pub shows : ForSome contents (ShowsIn window)
