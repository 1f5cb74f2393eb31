-- A lastread record of 16 bytes: a user, and the last and the highest number read (JAM, "Lastread file").
use Rattle.std.specs.Prelude.{List, ℕ, [], ◌∷◌, ◌<◌, ◌^◌}
use Rattle.jb_bytes.specs.Number.{number_at}
use Rattle.jb_record.specs.Fields.{ulong, fields_bytes}
use Rattle.jb_record.specs.declared.lastread.MarkRecord.{MarkRecord}

-- the lastread record that stands in these bytes
unfoldable pub lastread_record_of : List ℕ → MarkRecord
lastread_record_of bytes =
    record { user_crc = number_at 4 0 bytes; user_id = number_at 4 4 bytes; last = number_at 4 8 bytes; high = number_at 4 12 bytes }

-- the bytes of a lastread record
unfoldable pub lastread_record_bytes : MarkRecord → List ℕ
lastread_record_bytes mark = fields_bytes (ulong mark.user_crc ∷ ulong mark.user_id ∷ ulong mark.last ∷ ulong mark.high ∷ [])

-- its numbers fit the widths that they have on disk
pub record FitsMarkRecord (mark : MarkRecord) : Type 0 where
  pub user_crc : mark.user_crc < 2 ^ 32
  pub user_id : mark.user_id < 2 ^ 32
  pub last : mark.last < 2 ^ 32
  pub high : mark.high < 2 ^ 32
