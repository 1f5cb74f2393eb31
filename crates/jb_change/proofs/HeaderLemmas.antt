-- A message header of which some whole numbers were written over.
use Rattle.std.proofs.Common.{◌≡◌, ◌⊎◌, inl, inr, ℕ, ◌+◌, ◌≤◌, List, length, drop, ap, ◌∙◌, sym, refl, arith, length-drop}
use Rattle.std.specs.Prelude.{◌-◌, ◌%◌, ◌&&◌, nat_le, nat_lt, if◌then◌else◌}
use Rattle.std.proofs.lemmas.Bool.{cases_lt}
use Rattle.std.proofs.lemmas.Bool.Decides.{nat_tests}
use Rattle.std.proofs.lemmas.List.{take_all}
use Rattle.jb_bytes.specs.Number.{little_endian, number_at}
use Rattle.jb_disk.specs.Files.{overwritten}
use Rattle.jb_disk.specs.FileLaws.{length-overwritten}
use Rattle.jb_image.specs.Places.{bytes_at}
use Rattle.jb_record.specs.declared.message.MessageHeader.{MessageHeader}
use Rattle.jb_record.specs.Fixed.{IsFixedHeader, fixed_header_of}
use Rattle.jb_record.specs.Message.{IsMessageHeader, message_header_of}
use Rattle.jb_image.proofs.FileBytes.{length-bytes_at}
use Rattle.jb_change.proofs.ByteLemmas.{bytes_beside, bytes_inside, bytes_within, torn-overwritten}

-- the number of four bytes at a place of a header, once these bytes were written into it from another place on
abbrev pub number_over : ℕ → List ℕ → ℕ → ℕ → ℕ
number_over o bytes q old = if nat_le o q && nat_lt q (o + length bytes) then number_at 4 (q - o) bytes else old

-- a number behind them
pub number_over_past : (o : ℕ) (bytes : List ℕ) (q old : ℕ) → o + length bytes ≤ q → number_over o bytes q old ≡ old
number_over_past o bytes q old behind = grind (arith, nat_tests)

-- a message header with whole numbers written over it, behind its first eight bytes
abbrev pub with_bytes : ℕ → List ℕ → MessageHeader → MessageHeader
with_bytes o bytes header = record {
  reserved = header.reserved;
  subfields = header.subfields;
  times_read = number_over o bytes 12 header.times_read;
  msgid_crc = number_over o bytes 16 header.msgid_crc;
  reply_crc = number_over o bytes 20 header.reply_crc;
  reply_to = number_over o bytes 24 header.reply_to;
  reply_first = number_over o bytes 28 header.reply_first;
  reply_next = number_over o bytes 32 header.reply_next;
  written = number_over o bytes 36 header.written;
  received = number_over o bytes 40 header.received;
  processed = number_over o bytes 44 header.processed;
  number = number_over o bytes 48 header.number;
  attribute = number_over o bytes 52 header.attribute;
  attribute2 = number_over o bytes 56 header.attribute2;
  offset = number_over o bytes 60 header.offset;
  text_len = number_over o bytes 64 header.text_len;
  password = number_over o bytes 68 header.password;
  cost = number_over o bytes 72 header.cost;
}

-- bytes written from a place of a record on, which stands in a file
module _ (at len o : ℕ) (bytes old : List ℕ) (room : at + len ≤ length old) (within : o + length bytes ≤ len) where
  -- the file then
  abbrev new : List ℕ
  new = overwritten (at + o) bytes old

  -- it has the same length
  size : length new ≡ length old
  size = length-overwritten (at + o) bytes old (omega arith)

  -- what stands beside them in the record
  pub beside : (q n : ℕ) → q + n ≤ len → (q + n ≤ o) ⊎ (o + length bytes ≤ q) → bytes_at q n (bytes_at at len new) ≡ bytes_at q n (bytes_at at len old)
  beside q n inside apart =
      let torn = torn-overwritten (at + o) bytes old (omega arith) in
      let apart_in_file : ((at + q) + n ≤ at + o) ⊎ ((at + o) + length bytes ≤ at + q) = elim apart [ inl before ↦ inl (omega (arith, before)) | inr behind ↦ inr (omega (arith, behind)) ] in
      bytes_within at len q n new (omega (arith, size)) inside
      ∙ bytes_beside (at + o) (length bytes) (at + q) n old new torn apart_in_file
      ∙ sym (bytes_within at len q n old room inside)

  -- what was written
  pub inside : (q r n : ℕ) → q ≡ o + r → r + n ≤ length bytes → bytes_at q n (bytes_at at len new) ≡ bytes_at r n bytes
  inside q r n is short =
      bytes_within at len q n new (omega (arith, size)) (omega arith)
      ∙ bytes_inside (at + o) bytes old (at + q) r n (omega arith) (omega arith) short

  -- a number, where whole numbers were written
  pub number_put : o % 4 ≡ 0 → length bytes % 4 ≡ 0 → (q : ℕ) → q % 4 ≡ 0 → q + 4 ≤ len
      → number_at 4 q (bytes_at at len new) ≡ number_over o bytes q (number_at 4 q (bytes_at at len old))
  number_put o_whole whole q q_whole short = elim (cases_lt q o) [
    | inl low ↦ ap little_endian (beside q 4 short (inl (omega arith))) ∙ grind (arith, nat_tests)
    | inr high ↦ elim (cases_lt q (o + length bytes)) [
      | inl written ↦ ap little_endian (inside q (q - o) 4 (omega arith) (omega arith)) ∙ grind (arith, nat_tests)
      | inr behind ↦ ap little_endian (beside q 4 short (inr (omega arith))) ∙ grind (arith, nat_tests)
    ]
  ]

-- whole numbers written into a message header behind its first twelve bytes
module _ (at o : ℕ) (bytes old : List ℕ) (room : at + 76 ≤ length old) (low : 12 ≤ o) (within : o + length bytes ≤ 76) (o_whole : o % 4 ≡ 0) (whole : length bytes % 4 ≡ 0) where
  -- a number of it
  at_place : (q : ℕ) → q % 4 ≡ 0 → q + 4 ≤ 76
      → number_at 4 q (bytes_at at 76 (overwritten (at + o) bytes old)) ≡ number_over o bytes q (number_at 4 q (bytes_at at 76 old))
  at_place q q_whole short = number_put at 76 o bytes old room within o_whole whole q q_whole short

  -- what stands before them
  before : (q n : ℕ) → q + n ≤ 12 → bytes_at q n (bytes_at at 76 (overwritten (at + o) bytes old)) ≡ bytes_at q n (bytes_at at 76 old)
  before q n first = beside at 76 o bytes old room within q n (omega arith) (inl (omega arith))

  -- it is still a header
  pub still_header : IsMessageHeader (bytes_at at 76 old) → IsMessageHeader (bytes_at at 76 (overwritten (at + o) bytes old))
  still_header header = record {
    size = length-bytes_at at 76 (overwritten (at + o) bytes old) (omega (arith, length-overwritten (at + o) bytes old (omega arith)));
    signed = before 0 4 (omega arith) ∙ header.signed;
    revision = ap little_endian (before 4 2 (omega arith)) ∙ header.revision;
  }

  -- and these are its numbers
  pub header_put : message_header_of (bytes_at at 76 (overwritten (at + o) bytes old)) ≡ with_bytes o bytes (message_header_of (bytes_at at 76 old))
  unfolding message_header_of
  header_put =
      let reserved = ap little_endian (before 6 2 (omega arith)) in
      let subfields = ap little_endian (before 8 4 (omega arith)) in
      let times_read = at_place 12 refl (omega arith) in
      let msgid_crc = at_place 16 refl (omega arith) in
      let reply_crc = at_place 20 refl (omega arith) in
      let reply_to = at_place 24 refl (omega arith) in
      let reply_first = at_place 28 refl (omega arith) in
      let reply_next = at_place 32 refl (omega arith) in
      let written = at_place 36 refl (omega arith) in
      let received = at_place 40 refl (omega arith) in
      let processed = at_place 44 refl (omega arith) in
      let number = at_place 48 refl (omega arith) in
      let attribute = at_place 52 refl (omega arith) in
      let attribute2 = at_place 56 refl (omega arith) in
      let offset = at_place 60 refl (omega arith) in
      let text_len = at_place 64 refl (omega arith) in
      let password = at_place 68 refl (omega arith) in
      let cost = at_place 72 refl (omega arith) in
      λ i. record { reserved = reserved i; subfields = subfields i; times_read = times_read i; msgid_crc = msgid_crc i; reply_crc = reply_crc i; reply_to = reply_to i; reply_first = reply_first i; reply_next = reply_next i; written = written i; received = received i; processed = processed i; number = number i; attribute = attribute i; attribute2 = attribute2 i; offset = offset i; text_len = text_len i; password = password i; cost = cost i }

-- the two counts written into the fixed header
module _ (bytes old : List ℕ) (eight : length bytes ≡ 8) (room : 1024 ≤ length old) where
  -- the record's bytes but for those
  around : (q n : ℕ) → q + n ≤ 1024 → (q + n ≤ 8) ⊎ (16 ≤ q) → bytes_at q n (bytes_at 0 1024 (overwritten 8 bytes old)) ≡ bytes_at q n (bytes_at 0 1024 old)
  around q n short apart = beside 0 1024 8 bytes old room (omega arith) q n short (elim apart [ inl first ↦ inl first | inr behind ↦ inr (omega (arith, behind)) ])

  -- it is still a header
  pub still_fixed : IsFixedHeader (bytes_at 0 1024 old) → IsFixedHeader (bytes_at 0 1024 (overwritten 8 bytes old))
  still_fixed header = record {
    size = length-bytes_at 0 1024 (overwritten 8 bytes old) (omega (arith, length-overwritten 8 bytes old (omega arith)));
    signed = around 0 4 (omega arith) (inl (omega arith)) ∙ header.signed;
  }

  -- what is behind its numbers
  reserved_at : (file : List ℕ) → 1024 ≤ length file → drop 24 (bytes_at 0 1024 file) ≡ bytes_at 24 1000 (bytes_at 0 1024 file)
  reserved_at file long =
      let whole = length-bytes_at 0 1024 file long in
      sym (take_all 1000 (drop 24 (bytes_at 0 1024 file)) (omega (arith, length-drop 24 (bytes_at 0 1024 file))))

  -- and these are its numbers
  pub fixed_put : fixed_header_of (bytes_at 0 1024 (overwritten 8 bytes old))
      ≡ record (fixed_header_of (bytes_at 0 1024 old)) { counter = number_at 4 0 bytes; active = number_at 4 4 bytes }
  unfolding fixed_header_of
  fixed_put =
      let size = length-overwritten 8 bytes old (omega arith) in
      let created = ap little_endian (around 4 4 (omega arith) (inl (omega arith))) in
      let counter = ap little_endian (inside 0 1024 8 bytes old room (omega arith) 8 0 4 refl (omega arith)) in
      let active = ap little_endian (inside 0 1024 8 bytes old room (omega arith) 12 4 4 refl (omega arith)) in
      let password = ap little_endian (around 16 4 (omega arith) (inr (omega arith))) in
      let base = ap little_endian (around 20 4 (omega arith) (inr (omega arith))) in
      let reserved = reserved_at (overwritten 8 bytes old) (omega arith) ∙ around 24 1000 (omega arith) (inr (omega arith)) ∙ sym (reserved_at old room) in
      λ i. record { created = created i; counter = counter i; active = active i; password = password i; base = base i; reserved = reserved i }
