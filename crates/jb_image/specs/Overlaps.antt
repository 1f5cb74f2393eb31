-- The bytes of .JHR that the headers of a base take.
use Rattle.std.specs.Prelude.{ℕ, ◌+◌, ◌==◌, List, map, bit_and, if◌then◌else◌}
use Rattle.std.specs.List.{range_with_len}
use Rattle.jb_disk.specs.Files.{Files}
use Rattle.jb_base.specs.declared.attribute.TheConstants.{DELETED}
use Rattle.jb_record.specs.declared.index.IndexRecord.{IndexRecord}
use Rattle.jb_record.specs.declared.index.TheConstants.{EMPTY_SLOT}
use Rattle.jb_record.specs.declared.message.MessageHeader.{MessageHeader}
use Rattle.jb_image.specs.Places.{entry_in, header_in}
use Rattle.jb_image.specs.Tests.{slots_in}
use Rattle.jb_image.specs.declared.extent.Extent.{Extent}

-- how many bytes a header takes: with its subfields where the message is live, without them where it is killed
abbrev pub extent_of : MessageHeader → ℕ
extent_of header = if bit_and header.attribute DELETED == 0 then 76 + header.subfields else 76

-- the bytes that the header takes which this index record names; that of an empty slot takes none
abbrev pub extent_in : Files → IndexRecord → Extent
extent_in files entry =
    if entry.offset == EMPTY_SLOT
    then record { start = 0; len = 0 }
    else record { start = entry.offset; len = extent_of (header_in files entry.offset) }

-- those of all slots, in the order of the index
abbrev pub extents_in : Files → List Extent
extents_in files = map (λ k. extent_in files (entry_in files k)) (range_with_len 0 (slots_in files))
