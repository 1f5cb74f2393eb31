-- A message header of 76 bytes (JAM, "Message header").
use Rattle.std.specs.Prelude.{◌≡◌, ℕ, List, [], ◌∷◌, ◌++◌, length, take, ◌<◌, ◌^◌}
use Rattle.jb_bytes.specs.Number.{number_at}
use Rattle.jb_record.specs.Fields.{ushort, ulong, fields_bytes, signature}
use Rattle.jb_record.specs.declared.message.MessageHeader.{MessageHeader}

-- these bytes have the length, the signature and the Revision of a message header
pub record IsMessageHeader (bytes : List ℕ) : Type 0 where
  pub size : length bytes ≡ 76
  pub signed : take 4 bytes ≡ signature
  pub revision : number_at 2 4 bytes ≡ 1

-- the message header that stands in these bytes, each number at its place
unfoldable pub message_header_of : List ℕ → MessageHeader
message_header_of bytes = record {
  reserved = number_at 2 6 bytes;
  subfields = number_at 4 8 bytes;
  times_read = number_at 4 12 bytes;
  msgid_crc = number_at 4 16 bytes;
  reply_crc = number_at 4 20 bytes;
  reply_to = number_at 4 24 bytes;
  reply_first = number_at 4 28 bytes;
  reply_next = number_at 4 32 bytes;
  written = number_at 4 36 bytes;
  received = number_at 4 40 bytes;
  processed = number_at 4 44 bytes;
  number = number_at 4 48 bytes;
  attribute = number_at 4 52 bytes;
  attribute2 = number_at 4 56 bytes;
  offset = number_at 4 60 bytes;
  text_len = number_at 4 64 bytes;
  password = number_at 4 68 bytes;
  cost = number_at 4 72 bytes;
}

-- the bytes of a message header: the signature, Revision 1 and the fields in the order of the standard
unfoldable pub message_header_bytes : MessageHeader → List ℕ
message_header_bytes header = signature ++ fields_bytes (
    ushort 1 ∷ ushort header.reserved ∷ ulong header.subfields ∷ ulong header.times_read
    ∷ ulong header.msgid_crc ∷ ulong header.reply_crc
    ∷ ulong header.reply_to ∷ ulong header.reply_first ∷ ulong header.reply_next
    ∷ ulong header.written ∷ ulong header.received ∷ ulong header.processed
    ∷ ulong header.number ∷ ulong header.attribute ∷ ulong header.attribute2
    ∷ ulong header.offset ∷ ulong header.text_len ∷ ulong header.password ∷ ulong header.cost ∷ [])

-- its numbers fit the widths that they have on disk
pub record FitsMessageHeader (header : MessageHeader) : Type 0 where
  pub reserved : header.reserved < 2 ^ 16
  pub subfields : header.subfields < 2 ^ 32
  pub times_read : header.times_read < 2 ^ 32
  pub msgid_crc : header.msgid_crc < 2 ^ 32
  pub reply_crc : header.reply_crc < 2 ^ 32
  pub reply_to : header.reply_to < 2 ^ 32
  pub reply_first : header.reply_first < 2 ^ 32
  pub reply_next : header.reply_next < 2 ^ 32
  pub written : header.written < 2 ^ 32
  pub received : header.received < 2 ^ 32
  pub processed : header.processed < 2 ^ 32
  pub number : header.number < 2 ^ 32
  pub attribute : header.attribute < 2 ^ 32
  pub attribute2 : header.attribute2 < 2 ^ 32
  pub offset : header.offset < 2 ^ 32
  pub text_len : header.text_len < 2 ^ 32
  pub password : header.password < 2 ^ 32
  pub cost : header.cost < 2 ^ 32
