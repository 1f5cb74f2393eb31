-- A record's bytes, read again, give the record.
use Rattle.std.proofs.Common.{◌≡◌}
use Rattle.jb_bytes.proofs.Numbers.{little_endian-back}
use Rattle.jb_record.specs.declared.message.MessageHeader.{MessageHeader}
use Rattle.jb_record.specs.Message.{message_header_of, message_header_bytes, FitsMessageHeader}
use Rattle.jb_record.specs.declared.fixed.FixedHeader.{FixedHeader}
use Rattle.jb_record.specs.Fixed.{fixed_header_of, fixed_header_bytes, FitsFixedHeader}
use Rattle.jb_record.specs.declared.index.IndexRecord.{IndexRecord}
use Rattle.jb_record.specs.Index.{index_record_of, index_record_bytes, FitsIndexRecord}
use Rattle.jb_record.specs.declared.lastread.MarkRecord.{MarkRecord}
use Rattle.jb_record.specs.Lastread.{lastread_record_of, lastread_record_bytes, FitsMarkRecord}

-- a message header that its own bytes give
pub message_header_of-back : (header : MessageHeader) → FitsMessageHeader header → message_header_of (message_header_bytes header) ≡ header
unfolding message_header_of message_header_bytes
message_header_of-back header fits =
    let reserved = little_endian-back 2 header.reserved fits.reserved in
    let subfields = little_endian-back 4 header.subfields fits.subfields in
    let times_read = little_endian-back 4 header.times_read fits.times_read in
    let msgid_crc = little_endian-back 4 header.msgid_crc fits.msgid_crc in
    let reply_crc = little_endian-back 4 header.reply_crc fits.reply_crc in
    let reply_to = little_endian-back 4 header.reply_to fits.reply_to in
    let reply_first = little_endian-back 4 header.reply_first fits.reply_first in
    let reply_next = little_endian-back 4 header.reply_next fits.reply_next in
    let written = little_endian-back 4 header.written fits.written in
    let received = little_endian-back 4 header.received fits.received in
    let processed = little_endian-back 4 header.processed fits.processed in
    let number = little_endian-back 4 header.number fits.number in
    let attribute = little_endian-back 4 header.attribute fits.attribute in
    let attribute2 = little_endian-back 4 header.attribute2 fits.attribute2 in
    let offset = little_endian-back 4 header.offset fits.offset in
    let text_len = little_endian-back 4 header.text_len fits.text_len in
    let password = little_endian-back 4 header.password fits.password in
    let cost = little_endian-back 4 header.cost fits.cost in
    λ i. record { reserved = reserved i; subfields = subfields i; times_read = times_read i; msgid_crc = msgid_crc i; reply_crc = reply_crc i; reply_to = reply_to i; reply_first = reply_first i; reply_next = reply_next i; written = written i; received = received i; processed = processed i; number = number i; attribute = attribute i; attribute2 = attribute2 i; offset = offset i; text_len = text_len i; password = password i; cost = cost i }

-- a fixed header that its own bytes give
pub fixed_header_of-back : (header : FixedHeader) → FitsFixedHeader header → fixed_header_of (fixed_header_bytes header) ≡ header
unfolding fixed_header_of fixed_header_bytes
fixed_header_of-back header fits =
    let created = little_endian-back 4 header.created fits.created in
    let counter = little_endian-back 4 header.counter fits.counter in
    let active = little_endian-back 4 header.active fits.active in
    let password = little_endian-back 4 header.password fits.password in
    let base = little_endian-back 4 header.base fits.base in
    λ i. record { created = created i; counter = counter i; active = active i; password = password i; base = base i; reserved = header.reserved }

-- an index record that its own bytes give
pub index_record_of-back : (entry : IndexRecord) → FitsIndexRecord entry → index_record_of (index_record_bytes entry) ≡ entry
unfolding index_record_of index_record_bytes
index_record_of-back entry fits =
    let user_crc = little_endian-back 4 entry.user_crc fits.user_crc in
    let offset = little_endian-back 4 entry.offset fits.offset in
    λ i. record { user_crc = user_crc i; offset = offset i }

-- a lastread record that its own bytes give
pub lastread_record_of-back : (mark : MarkRecord) → FitsMarkRecord mark → lastread_record_of (lastread_record_bytes mark) ≡ mark
unfolding lastread_record_of lastread_record_bytes
lastread_record_of-back mark fits =
    let user_crc = little_endian-back 4 mark.user_crc fits.user_crc in
    let user_id = little_endian-back 4 mark.user_id fits.user_id in
    let last = little_endian-back 4 mark.last fits.last in
    let high = little_endian-back 4 mark.high fits.high in
    λ i. record { user_crc = user_crc i; user_id = user_id i; last = last i; high = high i }
