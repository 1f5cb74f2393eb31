-- A message behind the others of an area, as a change of its files.
use Rattle.std.specs.Prelude.{◌≡◌, ℕ, ◌+◌, ◌*◌, ◌<◌, ◌≤◌, List, [], ◌∷◌, ◌++◌, length, bit_and}
use Rattle.jb_base.specs.declared.attribute.TheConstants.{DELETED}
use Rattle.jb_limits.specs.declared.limits.TheConstants.{HEADERS_CEILING, TEXTS_CEILING, MOST_SLOTS, MOST_SUBFIELD_BYTES, MOST_TEXT_BYTES}
use Rattle.jb_bytes.specs.Subfields.{subfield_bytes}
use Rattle.jb_redo.specs.Changes.{changed}
use Rattle.jb_disk.specs.RedoView.{RedoView}
use Rattle.jb_disk.specs.Files.{Files}
use Rattle.jb_disk.specs.declared.file.FileId.TheVariants.{Jhr, Jdt, Jdx}
use Rattle.jb_disk.specs.declared.piece.Length.{Length}
use Rattle.jb_disk.specs.declared.piece.Piece.{Piece}
use Rattle.jb_disk.specs.declared.piece.Piece.TheVariants.{Bytes}
use Rattle.jb_image.specs.Places.{header_in}
use Rattle.jb_image.specs.Stands.{Loads}
use Rattle.jb_state.specs.Loaded.{header_size}
use Rattle.jb_state.specs.declared.loaded.Loaded.{Loaded}
use Rattle.jb_state.specs.declared.loaded.LoadedMessage.{LoadedMessage}
use Rattle.jb_image.specs.Records.{entry_for, message_bytes}
use Rattle.jb_state.specs.declared.loaded.LoadedSlot.TheVariants.{Live}
use Rattle.jb_record.specs.Index.{index_record_bytes}

-- the message, with this text, stands at the ends of the area's files, which have room for it
pub record IsAtEnds (loaded : Loaded) (message : LoadedMessage) (text : List ℕ) : Type 0 where
  -- where it stands
  pub header_at : message.header_at ≡ loaded.headers_len
  pub text_at : message.text_at ≡ loaded.texts_len
  pub text_len : message.text_len ≡ length text
  -- it is a live one, of a size that is read again
  pub live : bit_and message.head.attribute DELETED ≡ 0
  pub few_bytes : length (subfield_bytes message.subfields) ≤ MOST_SUBFIELD_BYTES
  pub short_text : length text ≤ MOST_TEXT_BYTES
  -- there is room for it in the files
  pub headers_fit : loaded.headers_len + header_size message ≤ HEADERS_CEILING
  pub texts_fit : loaded.texts_len + message.text_len ≤ TEXTS_CEILING

-- and there is a number and a slot for it in the area
pub record IsNext (loaded : Loaded) (message : LoadedMessage) (text : List ℕ) : Type 0 where
  pub ends : IsAtEnds loaded message text
  pub numbers : loaded.base + length loaded.slots + 1 ≤ 4294967295
  pub few_slots : length loaded.slots < MOST_SLOTS

-- the number that the area's next message has
abbrev pub number_behind : Loaded → ℕ
number_behind loaded = loaded.base + length loaded.slots

-- the header that stands at the message's place after the change has this number
abbrev pub HasNumber : ℕ → RedoView → Loaded → LoadedMessage → Type 0
HasNumber number change loaded message = (files : Files) → Loads loaded files
    → (header_in (changed change files) message.header_at).number ≡ number

-- it has the area's next number
abbrev pub HasNextNumber : RedoView → Loaded → LoadedMessage → Type 0
HasNextNumber change loaded message = HasNumber (number_behind loaded) change loaded message

-- the lengths of .JHR and .JDT with the message
abbrev pub message_lengths : LoadedMessage → List Length
message_lengths message =
    record { file = Jhr; len = message.header_at + header_size message }
    ∷ record { file = Jdt; len = message.text_at + message.text_len } ∷ []

-- the header with this number and its subfields, and the text, each at the end of its file
abbrev pub message_pieces : ℕ → LoadedMessage → List ℕ → List Piece
message_pieces number message text =
    Bytes Jhr message.header_at (message_bytes number message)
    ∷ Bytes Jdt message.text_at text ∷ []

-- the length of .JDX with one record more
abbrev pub index_length : Loaded → Length
index_length loaded = record { file = Jdx; len = 8 * length loaded.slots + 8 }

-- the index record of the message, where this record stands in .JDX
abbrev pub entry_piece : ℕ → LoadedMessage → Piece
entry_piece place message = Bytes Jdx (8 * place) (index_record_bytes (entry_for (Live message)))

-- the lengths of .JHR, .JDT and .JDX with a message behind the others
abbrev pub post_lengths : Loaded → LoadedMessage → List Length
post_lengths loaded message = message_lengths message ++ index_length loaded ∷ []

-- the message at the ends of its files under the next number, and its index record at the end of .JDX
abbrev pub post_pieces : Loaded → LoadedMessage → List ℕ → List Piece
post_pieces loaded message text = message_pieces (number_behind loaded) message text ++ entry_piece (length loaded.slots) message ∷ []
