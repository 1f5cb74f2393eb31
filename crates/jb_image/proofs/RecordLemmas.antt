-- How long the records of a base are, and what shape they have.
use Rattle.std.proofs.Common.{◌≡◌, ℕ, length, refl, arith, length-append}
use Rattle.jb_bytes.specs.Subfields.{subfield_bytes}
use Rattle.jb_image.specs.Records.{message_bytes, numbered_header}
use Rattle.jb_state.specs.Loaded.{header_size}
use Rattle.jb_state.specs.declared.loaded.LoadedMessage.{LoadedMessage}
use Rattle.jb_record.specs.Index.{index_record_bytes}
use Rattle.jb_record.specs.Lastread.{lastread_record_bytes}
use Rattle.jb_record.specs.Message.{IsMessageHeader, message_header_bytes}
use Rattle.jb_record.specs.declared.index.IndexRecord.{IndexRecord}
use Rattle.jb_record.specs.declared.lastread.MarkRecord.{MarkRecord}
use Rattle.jb_record.specs.declared.message.MessageHeader.{MessageHeader}

-- a header's bytes are those of a header
pub shaped_header : (header : MessageHeader) → IsMessageHeader (message_header_bytes header)
unfolding message_header_bytes
shaped_header header = record { size = refl; signed = refl; revision = refl }

-- a header has 76 bytes
pub length-header : (header : MessageHeader) → length (message_header_bytes header) ≡ 76
unfolding message_header_bytes
length-header header = refl

-- a message takes its header and its subfields
pub length-message : (number : ℕ) (message : LoadedMessage) → length (message_bytes number message) ≡ header_size message
length-message number message =
    omega (arith, length-append (message_header_bytes (numbered_header number message)) (subfield_bytes message.subfields), length-header (numbered_header number message))

-- an index record has eight bytes
pub length-entry : (entry : IndexRecord) → length (index_record_bytes entry) ≡ 8
unfolding index_record_bytes
length-entry entry = refl

-- a lastread record has sixteen
pub length-mark : (mark : MarkRecord) → length (lastread_record_bytes mark) ≡ 16
unfolding lastread_record_bytes
length-mark mark = refl
