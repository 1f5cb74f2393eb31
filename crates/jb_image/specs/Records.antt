-- The records of a base, as its files have an area (JAM, "Header file", "Message header", "Index file", "Lastread file").
use Rattle.std.specs.Prelude.{◌≡◌, ℕ, List, ◌++◌, length}
use Rattle.jb_bytes.specs.Subfields.{subfield_bytes}
use Rattle.jb_image.specs.Stands.{fixed_of, mark_record}
use Rattle.jb_state.specs.declared.loaded.Loaded.{Loaded}
use Rattle.jb_state.specs.declared.loaded.LoadedMessage.{LoadedMessage}
use Rattle.jb_state.specs.declared.loaded.LoadedSlot.{LoadedSlot}
use Rattle.jb_state.specs.declared.loaded.LoadedSlot.TheVariants.{Empty, Killed, Live}
use Rattle.jb_state.specs.declared.mark.Mark.{Mark}
use Rattle.jb_state.specs.declared.message.Head.{Head}
use Rattle.jb_record.specs.Fixed.{fixed_header_bytes, fixed_header_of}
use Rattle.jb_record.specs.Index.{index_record_bytes, index_record_of}
use Rattle.jb_record.specs.Lastread.{lastread_record_bytes, lastread_record_of}
use Rattle.jb_record.specs.Message.{message_header_bytes, message_header_of}
use Rattle.jb_record.specs.declared.index.IndexRecord.{IndexRecord}
use Rattle.jb_record.specs.declared.index.TheConstants.{EMPTY_SLOT}
use Rattle.jb_record.specs.declared.message.MessageHeader.{MessageHeader}

-- the header of a live message, with this number in it
abbrev pub numbered_header : ℕ → LoadedMessage → MessageHeader
numbered_header number message = record {
  reserved = message.head.reserved;
  subfields = length (subfield_bytes message.subfields);
  times_read = message.head.times_read;
  msgid_crc = message.head.msgid_crc;
  reply_crc = message.head.reply_crc;
  reply_to = message.head.reply_to;
  reply_first = message.head.reply_first;
  reply_next = message.head.reply_next;
  written = message.head.written;
  received = message.head.received;
  processed = message.head.processed;
  number = number;
  attribute = message.head.attribute;
  attribute2 = message.head.attribute2;
  offset = message.text_at;
  text_len = message.text_len;
  password = message.head.password;
  cost = message.head.cost;
}

-- the header of a live message, and its subfields behind
abbrev pub message_bytes : ℕ → LoadedMessage → List ℕ
message_bytes number message = message_header_bytes (numbered_header number message) ++ subfield_bytes message.subfields

-- the message with these fields of its header, and its text at this place
abbrev pub with_fields : Head → ℕ → LoadedMessage → LoadedMessage
with_fields head text_at message = record message { head = head; text_at = text_at }

-- the index record of a slot; that of an empty one has all bits set
abbrev pub entry_for : LoadedSlot → IndexRecord
entry_for Empty = record { user_crc = EMPTY_SLOT; offset = EMPTY_SLOT }
entry_for (Killed header_at) = record { user_crc = EMPTY_SLOT; offset = header_at }
entry_for (Live message) = record { user_crc = message.owner; offset = message.header_at }

-- the bytes of an area's fixed header, read again, give it
abbrev pub IsFixedReadAgain : Loaded → Type 0
IsFixedReadAgain loaded = fixed_header_of (fixed_header_bytes (fixed_of loaded)) ≡ fixed_of loaded

-- the bytes of a message's header with this number, read again, give it
abbrev pub IsHeaderReadAgain : ℕ → LoadedMessage → Type 0
IsHeaderReadAgain number message = message_header_of (message_header_bytes (numbered_header number message)) ≡ numbered_header number message

-- the bytes of an index record, read again, give it
abbrev pub IsEntryReadAgain : IndexRecord → Type 0
IsEntryReadAgain entry = index_record_of (index_record_bytes entry) ≡ entry

-- the bytes of a mark's record, read again, give it
abbrev pub IsMarkReadAgain : Mark → Type 0
IsMarkReadAgain mark = lastread_record_of (lastread_record_bytes (mark_record mark)) ≡ mark_record mark
