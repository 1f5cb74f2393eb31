-- The files of an empty base.
use Rattle.std.specs.Prelude.{◌≡◌, ◌≢◌, []}
use Rattle.jb_disk.specs.declared.file.FileId.{FileId}
use Rattle.jb_disk.specs.declared.file.FileId.TheVariants.{Jhr, Jdt, Jdx, Jlr, Jnl}
use Rattle.jb_disk.specs.Files.{Files}
use Rattle.jb_change.specs.NewBase.{new_loaded}
use Rattle.jb_image.specs.Stands.{fixed_of}
use Rattle.jb_journal.specs.Prepare.{plain_head}
use Rattle.jb_record.specs.Fixed.{fixed_header_bytes}
use Rattle.jb_record.specs.declared.fixed.FixedHeader.{FixedHeader}

-- no file has a byte
abbrev pub HaveNoByte : Files → Type 0
HaveNoByte files = (file : FileId) → files file ≡ []

-- the fixed header of a base that was just made, at the moment 0
abbrev pub empty_header : FixedHeader
empty_header = fixed_of (new_loaded 0)

-- the files of that base: a fixed header, a journal that is ready for a change, and nothing else
pub record IsEmptyBase (files : Files) : Type 0 where
  pub headers : files Jhr ≡ fixed_header_bytes empty_header
  pub texts : files Jdt ≡ []
  pub index : files Jdx ≡ []
  pub marks : files Jlr ≡ []
  pub journal : files Jnl ≡ plain_head

-- all files but .JHR are as they were
abbrev pub AgreeButHeaders : Files → Files → Type 0
AgreeButHeaders start files = (file : FileId) → file ≢ Jhr → files file ≡ start file
