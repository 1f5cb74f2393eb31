-- What the files of a JAM base stand for.
use Rattle.std.specs.Prelude.{◌≡◌, ◌≢◌, ℕ, ◌+◌, ◌*◌, ◌<◌, ◌≤◌, length, slice_index_or, AllPairs, bit_and}
use Rattle.jb_limits.specs.declared.limits.TheConstants.{MOST_MARKS, MOST_SUBFIELD_BYTES}
use Rattle.jb_bytes.specs.Subfields.{IsSubfieldList}
use Rattle.jb_disk.specs.Files.{Files}
use Rattle.jb_disk.specs.declared.file.FileId.TheVariants.{Jhr, Jdt, Jdx, Jlr}
use Rattle.jb_state.specs.Sound.{AreApart, IsWithin, IsTextWithin}
use Rattle.jb_state.specs.State.{AreaState, state_of}
use Rattle.jb_state.specs.declared.loaded.Loaded.{Loaded}
use Rattle.jb_state.specs.declared.loaded.LoadedMessage.{LoadedMessage}
use Rattle.jb_state.specs.declared.loaded.LoadedSlot.{LoadedSlot}
use Rattle.jb_state.specs.declared.loaded.LoadedSlot.TheVariants.{Empty, Killed, Live}
use Rattle.jb_state.specs.declared.mark.Mark.{Mark}
use Rattle.jb_state.specs.declared.message.Head.{Head}
use Rattle.jb_base.specs.declared.attribute.TheConstants.{DELETED}
use Rattle.jb_record.specs.declared.fixed.FixedHeader.{FixedHeader}
use Rattle.jb_record.specs.declared.index.IndexRecord.{IndexRecord}
use Rattle.jb_record.specs.declared.index.TheConstants.{EMPTY_SLOT}
use Rattle.jb_record.specs.declared.lastread.MarkRecord.{MarkRecord}
use Rattle.jb_record.specs.declared.message.MessageHeader.{MessageHeader}
use Rattle.jb_record.specs.Fixed.{IsFixedHeader}
use Rattle.jb_record.specs.Message.{IsMessageHeader}
use Rattle.jb_image.specs.Places.{bytes_at, fixed_in, entry_in, mark_record_at, header_in}

-- what a message keeps of its header
abbrev pub head_of : MessageHeader → Head
head_of header = record {
  reserved = header.reserved;
  times_read = header.times_read;
  msgid_crc = header.msgid_crc;
  reply_crc = header.reply_crc;
  reply_to = header.reply_to;
  reply_first = header.reply_first;
  reply_next = header.reply_next;
  written = header.written;
  received = header.received;
  processed = header.processed;
  attribute = header.attribute;
  attribute2 = header.attribute2;
  password = header.password;
  cost = header.cost;
}

-- the message is killed
abbrev pub IsDeleted : MessageHeader → Type 0
IsDeleted header = bit_and header.attribute DELETED ≢ 0

-- a header stands at this place
pub record HasHeader (files : Files) (at : ℕ) : Type 0 where
  pub placed : IsWithin (length (files Jhr)) at 76
  pub shaped : IsMessageHeader (bytes_at at 76 (files Jhr))

-- a killed message's header stands at this place; nothing else of it is looked at
pub record IsKilledAt (files : Files) (at : ℕ) : Type 0 where
  pub header : HasHeader files at
  pub deleted : IsDeleted (header_in files at)

-- a header at this place is that of a live message, and its subfields and text lie within files of these lengths
pub record IsLiveHeader (headers_len texts_len at : ℕ) (header : MessageHeader) : Type 0 where
  pub live : bit_and header.attribute DELETED ≡ 0
  pub few_bytes : header.subfields ≤ MOST_SUBFIELD_BYTES
  pub placed : IsWithin headers_len at (76 + header.subfields)
  pub text : IsTextWithin texts_len header.offset header.text_len

-- this live message stands in the files
pub record IsLiveIn (files : Files) (message : LoadedMessage) : Type 0 where
  pub header : HasHeader files message.header_at
  pub live : IsLiveHeader (length (files Jhr)) (length (files Jdt)) message.header_at (header_in files message.header_at)
  pub subfields : IsSubfieldList message.subfields (bytes_at (message.header_at + 76) (header_in files message.header_at).subfields (files Jhr))
  pub head : message.head ≡ head_of (header_in files message.header_at)
  pub text_at : message.text_at ≡ (header_in files message.header_at).offset
  pub text_len : message.text_len ≡ (header_in files message.header_at).text_len

-- an index record names this slot
abbrev pub HasSlot : Files → IndexRecord → LoadedSlot → Type 0
HasSlot files entry Empty = entry.offset ≡ EMPTY_SLOT
HasSlot files entry (Killed header_at) = (entry.offset ≡ header_at) × IsKilledAt files header_at
HasSlot files entry (Live message) =
    (entry.user_crc ≡ message.owner) × (entry.offset ≡ message.header_at) × IsLiveIn files message

-- the fixed header of a loaded area
abbrev pub fixed_of : Loaded → FixedHeader
fixed_of loaded = record {
  created = loaded.created;
  counter = loaded.counter;
  active = loaded.active;
  password = loaded.password;
  base = loaded.base;
  reserved = loaded.reserved;
}

-- the lastread record of a mark
abbrev pub mark_record : Mark → MarkRecord
mark_record mark = record { user_crc = mark.user_crc; user_id = mark.user_id; last = mark.last; high = mark.high }

-- the files hold this area
pub record Loads (loaded : Loaded) (files : Files) : Type 0 where
  -- the fixed header
  pub header : IsFixedHeader (bytes_at 0 1024 (files Jhr))
  pub fixed : fixed_of loaded ≡ fixed_in files
  pub base : 1 ≤ loaded.base
  pub numbers : loaded.base + length loaded.slots ≤ 4294967295
  -- the index, and the headers that it names
  pub index : length (files Jdx) ≡ 8 * length loaded.slots
  pub slots : (k : ℕ) (d : LoadedSlot) → k < length loaded.slots → HasSlot files (entry_in files k) (slice_index_or loaded.slots k d)
  pub apart : AllPairs AreApart loaded.slots
  -- the marks
  pub lastread : length (files Jlr) ≡ 16 * length loaded.marks
  pub marks : (k : ℕ) (d : Mark) → k < length loaded.marks → mark_record (slice_index_or loaded.marks k d) ≡ mark_record_at files k
  pub few_marks : length loaded.marks ≤ MOST_MARKS
  -- the lengths
  pub headers_len : loaded.headers_len ≡ length (files Jhr)
  pub texts_len : loaded.texts_len ≡ length (files Jdt)

-- the files stand for this state, of at most so many slots
pub record StandsFor (limit : ℕ) (files : Files) (state : AreaState) : Type 0 where
  pub loaded : Loaded
  pub loads : Loads loaded files
  pub few_slots : length loaded.slots ≤ limit
  pub same : state ≡ state_of (files Jdt) loaded
