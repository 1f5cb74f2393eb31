-- Where the records of a base stand in its files (JAM, "Header file", "Message header", "Index file", "Lastread file").
use Rattle.std.specs.Prelude.{ℕ, ◌+◌, ◌*◌, List, take, drop}
use Rattle.jb_disk.specs.Files.{Files}
use Rattle.jb_disk.specs.declared.file.FileId.TheVariants.{Jhr, Jdx, Jlr}
use Rattle.jb_record.specs.declared.fixed.FixedHeader.{FixedHeader}
use Rattle.jb_record.specs.declared.index.IndexRecord.{IndexRecord}
use Rattle.jb_record.specs.declared.lastread.MarkRecord.{MarkRecord}
use Rattle.jb_record.specs.declared.message.MessageHeader.{MessageHeader}
use Rattle.jb_record.specs.Fixed.{fixed_header_of}
use Rattle.jb_record.specs.Index.{index_record_of}
use Rattle.jb_record.specs.Lastread.{lastread_record_of}
use Rattle.jb_record.specs.Message.{message_header_of}

-- so many bytes from a place on
abbrev pub bytes_at : ℕ → ℕ → List ℕ → List ℕ
bytes_at at len bytes = take len (drop at bytes)

-- the fixed header of a base
abbrev pub fixed_in : Files → FixedHeader
fixed_in files = fixed_header_of (bytes_at 0 1024 (files Jhr))

-- the index record at a place of the index, counted in records
abbrev pub entry_in : Files → ℕ → IndexRecord
entry_in files k = index_record_of (bytes_at (8 * k) 8 (files Jdx))

-- the lastread record at a place of its file, counted in records
abbrev pub mark_record_at : Files → ℕ → MarkRecord
mark_record_at files k = lastread_record_of (bytes_at (16 * k) 16 (files Jlr))

-- the message header at a place of .JHR, in bytes
abbrev pub header_in : Files → ℕ → MessageHeader
header_in files at = message_header_of (bytes_at at 76 (files Jhr))

-- the subfields of the message whose header stands at this place of .JHR, as bytes
abbrev pub subfields_in : Files → ℕ → List ℕ
subfields_in files at = bytes_at (at + 76) (header_in files at).subfields (files Jhr)
