-- No record's bytes are a proper prefix of another's of its kind.
use Rattle.std.proofs.Common.{◌≡◌, ℕ, ◌+◌, arith, List, ◌++◌, length, take, drop, ap, sym, ◌∙◌, refl}
use Rattle.std.proofs.lemmas.List.{take_at, drop_at}
use Rattle.jb_record.specs.declared.fixed.FixedHeader.{FixedHeader}
use Rattle.jb_record.specs.declared.index.IndexRecord.{IndexRecord}
use Rattle.jb_record.specs.declared.lastread.MarkRecord.{MarkRecord}
use Rattle.jb_record.specs.declared.message.MessageHeader.{MessageHeader}
use Rattle.jb_record.specs.Fixed.{fixed_header_of, fixed_header_bytes, IsFixedRecord}
use Rattle.jb_record.specs.Index.{index_record_of, index_record_bytes, FitsIndexRecord}
use Rattle.jb_record.specs.Lastread.{lastread_record_of, lastread_record_bytes, FitsMarkRecord}
use Rattle.jb_record.specs.Laws.{IsPrefixFree}
use Rattle.jb_record.specs.Message.{message_header_of, message_header_bytes, FitsMessageHeader}
use Rattle.jb_record.proofs.ReadAgain.{fixed_header_of-back, index_record_of-back, lastread_record_of-back, message_header_of-back}

-- records of one length that their own bytes give
prefix_free : {R : Type 0} (fits : R → Type 0) (spelled : R → List ℕ) (read : List ℕ → R) (size : ℕ)
    → ((row : R) → fits row → length (spelled row) ≡ size) → ((row : R) → fits row → read (spelled row) ≡ row) → IsPrefixFree fits spelled
prefix_free fits spelled read size sized back one other rest more fits_one fits_other same =
    let bytes : spelled one ≡ spelled other = sym (take_at (spelled one) rest size (sized one fits_one)) ∙ ap (take size) same ∙ take_at (spelled other) more size (sized other fits_other) in (
      sym (back one fits_one) ∙ ap read bytes ∙ back other fits_other,
      sym (drop_at (spelled one) rest size (sized one fits_one)) ∙ ap (drop size) same ∙ drop_at (spelled other) more size (sized other fits_other),
    )

-- how long the bytes of each kind are
length-fixed : (header : FixedHeader) → IsFixedRecord header → length (fixed_header_bytes header) ≡ 1024
unfolding fixed_header_bytes
length-fixed header is = omega (arith, is.reserved)

length-index : (entry : IndexRecord) → FitsIndexRecord entry → length (index_record_bytes entry) ≡ 8
unfolding index_record_bytes
length-index entry fits = refl

length-lastread : (mark : MarkRecord) → FitsMarkRecord mark → length (lastread_record_bytes mark) ≡ 16
unfolding lastread_record_bytes
length-lastread mark fits = refl

length-message : (header : MessageHeader) → FitsMessageHeader header → length (message_header_bytes header) ≡ 76
unfolding message_header_bytes
length-message header fits = refl

-- so none of them has bytes that are a proper prefix of another's
pub fixed_headers : IsPrefixFree IsFixedRecord fixed_header_bytes
fixed_headers = prefix_free IsFixedRecord fixed_header_bytes fixed_header_of 1024 length-fixed (λ header is. fixed_header_of-back header is.numbers)

pub index_records : IsPrefixFree FitsIndexRecord index_record_bytes
index_records = prefix_free FitsIndexRecord index_record_bytes index_record_of 8 length-index index_record_of-back

pub lastread_records : IsPrefixFree FitsMarkRecord lastread_record_bytes
lastread_records = prefix_free FitsMarkRecord lastread_record_bytes lastread_record_of 16 length-lastread lastread_record_of-back

pub message_headers : IsPrefixFree FitsMessageHeader message_header_bytes
message_headers = prefix_free FitsMessageHeader message_header_bytes message_header_of 76 length-message message_header_of-back
