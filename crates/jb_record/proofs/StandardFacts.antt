-- Records as bytes that were written out by hand from the tables of the standard, so that a field at a wrong place does not check.
use Rattle.std.proofs.Common.{◌≡◌, ℕ, ◌+◌, List, [], ◌∷◌, ◌++◌, replicate, refl}
use Rattle.std.specs.List.{range_with_len}
use Rattle.jb_bytes.specs.Number.{little_endian}
use Rattle.jb_record.specs.Fields.{signature}
use Rattle.jb_record.specs.Fixed.{fixed_header_bytes, fixed_header_of}
use Rattle.jb_record.specs.Index.{index_record_bytes, index_record_of}
use Rattle.jb_record.specs.Lastread.{lastread_record_bytes, lastread_record_of}
use Rattle.jb_record.specs.Message.{message_header_bytes, message_header_of}
use Rattle.jb_record.specs.declared.fixed.FixedHeader.{FixedHeader}
use Rattle.jb_record.specs.declared.index.IndexRecord.{IndexRecord}
use Rattle.jb_record.specs.declared.lastread.MarkRecord.{MarkRecord}
use Rattle.jb_record.specs.declared.message.MessageHeader.{MessageHeader}

-- a message from Test to Hello with the subject abc, written at 1,000,000,000 (JAM, "Message header")
abbrev first_header : MessageHeader
first_header = record {
  reserved = 0;
  subfields = 64;
  times_read = 0;
  msgid_crc = 0xCBD71F53;
  reply_crc = 0xFFFFFFFF;
  reply_to = 0;
  reply_first = 0;
  reply_next = 0;
  written = 1_000_000_000;
  received = 0;
  processed = 0;
  number = 1;
  attribute = 0x00800001;
  attribute2 = 0;
  offset = 0;
  text_len = 5;
  password = 0xFFFFFFFF;
  cost = 0;
}

-- its 76 bytes
abbrev first_header_spelled : List ℕ
first_header_spelled =
    0x4A ∷ 0x41 ∷ 0x4D ∷ 0x00 ∷ 0x01 ∷ 0x00 ∷ 0x00 ∷ 0x00 ∷ 0x40 ∷ 0x00 ∷ 0x00 ∷ 0x00 ∷ 0x00 ∷ 0x00 ∷ 0x00 ∷ 0x00 ∷ 0x53 ∷ 0x1F ∷ 0xD7 ∷ 0xCB
    ∷ 0xFF ∷ 0xFF ∷ 0xFF ∷ 0xFF ∷ 0x00 ∷ 0x00 ∷ 0x00 ∷ 0x00 ∷ 0x00 ∷ 0x00 ∷ 0x00 ∷ 0x00 ∷ 0x00 ∷ 0x00 ∷ 0x00 ∷ 0x00 ∷ 0x00 ∷ 0xCA ∷ 0x9A ∷ 0x3B
    ∷ 0x00 ∷ 0x00 ∷ 0x00 ∷ 0x00 ∷ 0x00 ∷ 0x00 ∷ 0x00 ∷ 0x00 ∷ 0x01 ∷ 0x00 ∷ 0x00 ∷ 0x00 ∷ 0x01 ∷ 0x00 ∷ 0x80 ∷ 0x00 ∷ 0x00 ∷ 0x00 ∷ 0x00 ∷ 0x00
    ∷ 0x00 ∷ 0x00 ∷ 0x00 ∷ 0x00 ∷ 0x05 ∷ 0x00 ∷ 0x00 ∷ 0x00 ∷ 0xFF ∷ 0xFF ∷ 0xFF ∷ 0xFF ∷ 0x00 ∷ 0x00 ∷ 0x00 ∷ 0x00 ∷ []

first_message : (message_header_bytes first_header ≡ first_header_spelled) × (message_header_of first_header_spelled ≡ first_header)
unfolding message_header_bytes message_header_of
first_message = (refl, refl)

-- the number of four bytes that each hold their place
abbrev placed : ℕ → ℕ
placed at = little_endian (range_with_len at 4)

-- each field of a message header has its place
abbrev each_at_its_place : MessageHeader
each_at_its_place = record {
  reserved = 0x0706;
  subfields = placed 8;
  times_read = placed 12;
  msgid_crc = placed 16;
  reply_crc = placed 20;
  reply_to = placed 24;
  reply_first = placed 28;
  reply_next = placed 32;
  written = placed 36;
  received = placed 40;
  processed = placed 44;
  number = placed 48;
  attribute = placed 52;
  attribute2 = placed 56;
  offset = placed 60;
  text_len = placed 64;
  password = placed 68;
  cost = placed 72;
}

places : (message_header_of (range_with_len 0 76) ≡ each_at_its_place)
    × (message_header_bytes each_at_its_place ≡ signature ++ 0x01 ∷ 0x00 ∷ range_with_len 6 70)
unfolding message_header_bytes message_header_of
places = (refl, refl)

-- the fixed header of an empty base (JAM, "Header file")
abbrev empty_base : FixedHeader
empty_base = record { created = 1_000_000_000; counter = 0; active = 0; password = 0xFFFFFFFF; base = 1; reserved = replicate 1000 0 }

-- its 1,024 bytes
abbrev empty_base_spelled : List ℕ
empty_base_spelled =
    0x4A ∷ 0x41 ∷ 0x4D ∷ 0x00 ∷ 0x00 ∷ 0xCA ∷ 0x9A ∷ 0x3B ∷ 0x00 ∷ 0x00 ∷ 0x00 ∷ 0x00 ∷ 0x00 ∷ 0x00 ∷ 0x00 ∷ 0x00 ∷ 0xFF ∷ 0xFF ∷ 0xFF ∷ 0xFF
    ∷ 0x01 ∷ 0x00 ∷ 0x00 ∷ 0x00 ∷ replicate 1000 0

fixed_headers : (fixed_header_bytes empty_base ≡ empty_base_spelled) × (fixed_header_of empty_base_spelled ≡ empty_base)
unfolding fixed_header_bytes fixed_header_of
fixed_headers = (refl, refl)

-- each number of a fixed header has its place
fixed_places : fixed_header_of (range_with_len 0 26)
    ≡ record { created = placed 4; counter = placed 8; active = placed 12; password = placed 16; base = placed 20; reserved = 24 ∷ 25 ∷ [] }
unfolding fixed_header_of
fixed_places = refl

-- the index record of a message to Hello that is the first of a base (JAM, "Index file")
abbrev first_entry : IndexRecord
first_entry = record { user_crc = 0xC9EF5979; offset = 1024 }

abbrev first_entry_spelled : List ℕ
first_entry_spelled = 0x79 ∷ 0x59 ∷ 0xEF ∷ 0xC9 ∷ 0x00 ∷ 0x04 ∷ 0x00 ∷ 0x00 ∷ []

index_records : (index_record_bytes first_entry ≡ first_entry_spelled) × (index_record_of first_entry_spelled ≡ first_entry)
unfolding index_record_bytes index_record_of
index_records = (refl, refl)

-- the lastread record of Test, who is user 7, has read 1 last and 2 at most (JAM, "Lastread file")
abbrev test_mark : MarkRecord
test_mark = record { user_crc = 0x278081F3; user_id = 7; last = 1; high = 2 }

abbrev test_mark_spelled : List ℕ
test_mark_spelled = 0xF3 ∷ 0x81 ∷ 0x80 ∷ 0x27 ∷ 0x07 ∷ 0x00 ∷ 0x00 ∷ 0x00 ∷ 0x01 ∷ 0x00 ∷ 0x00 ∷ 0x00 ∷ 0x02 ∷ 0x00 ∷ 0x00 ∷ 0x00 ∷ []

lastread_records : (lastread_record_bytes test_mark ≡ test_mark_spelled) × (lastread_record_of test_mark_spelled ≡ test_mark)
unfolding lastread_record_bytes lastread_record_of
lastread_records = (refl, refl)
