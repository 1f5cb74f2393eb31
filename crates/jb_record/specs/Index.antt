-- An index record of 8 bytes: the CRC of the receiver's name and the place of the header (JAM, "Index file").
use Rattle.std.specs.Prelude.{List, ℕ, [], ◌∷◌, ◌<◌, ◌^◌}
use Rattle.jb_bytes.specs.Number.{number_at}
use Rattle.jb_record.specs.Fields.{ulong, fields_bytes}
use Rattle.jb_record.specs.declared.index.IndexRecord.{IndexRecord}

-- the index record that stands in these bytes
unfoldable pub index_record_of : List ℕ → IndexRecord
index_record_of bytes = record { user_crc = number_at 4 0 bytes; offset = number_at 4 4 bytes }

-- the bytes of an index record
unfoldable pub index_record_bytes : IndexRecord → List ℕ
index_record_bytes entry = fields_bytes (ulong entry.user_crc ∷ ulong entry.offset ∷ [])

-- its numbers fit the widths that they have on disk
pub record FitsIndexRecord (entry : IndexRecord) : Type 0 where
  pub user_crc : entry.user_crc < 2 ^ 32
  pub offset : entry.offset < 2 ^ 32
