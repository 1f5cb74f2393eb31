use Rattle.std.proofs.Common.{◌≡◌, ◌∙◌, ◌++◌, ap, length, sym, subst}
use Rattle.jb_record.specs.Message.{message_header_bytes, message_header_of}
use Rattle.jb_record.specs.declared.message.MessageHeader.{MessageHeader}
use Rattle.jb_image.proofs.RecordLemmas.{length-message}
use Rattle.jb_image.specs.Records.{with_fields}
use Rattle.jb_image.proofs.records.write_message.Goals as goal

pub returns-clause-exact : goal.returns-clause-exact
returns-clause-exact c =
    let fields = c.in_ok-extend_from_slice-2.ensures.items in
    let head = c.in_ok-extend_from_slice.ensures.items in
    let none = c.clear.ensures.items in
    let encoded = c.encode_message.ensures.exact in
    let header = c.header_of-header.ensures in
    let spelled = c.as_bytes-subfields.ensures.spelled in
    fields ∙ (λ i. (head ∙ (λ j. none j ++ (encoded ∙ ap message_header_bytes header) j)) i ++ (sym spelled) i)

pub returns-clause-size : goal.returns-clause-size
returns-clause-size c =
    ap length (returns-clause-exact c) ∙ length-message c.args.number (with_fields c.args.head.now c.args.text_at c.args.message.now)

pub returns-clause-back : goal.returns-clause-back
returns-clause-back c =
    subst (λ (h : MessageHeader). message_header_of (message_header_bytes h) ≡ h) c.header_of-header.ensures
    (ap message_header_of (sym c.encode_message.ensures.exact) ∙ c.encode_message.ensures.back)

pub returns-clause-fit : goal.returns-clause-fit
returns-clause-fit c = c.as_bytes-subfields.ensures.each
