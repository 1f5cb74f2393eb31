-- A message as it is shown (JAM, "SubFields").
use Rattle.std.specs.Prelude.{ℕ, [], unwrap_or}
use Rattle.jb_bytes.specs.Subfields.{sender_of, receiver_of}
use Rattle.jb_state.specs.State.{LiveMessage}
use Rattle.jb_model.specs.declared.reply.Letter.{Letter}
use Rattle.jb_state.specs.Message.{subject_of, msgid_of, replyid_of}

-- the message as it is shown, its links as its header has them
abbrev pub letter_of : ℕ → LiveMessage → Letter
letter_of number message = record {
  number = number;
  from = sender_of message.subfields;
  to = receiver_of message.subfields;
  subject = subject_of message.subfields;
  msgid = unwrap_or (msgid_of message.subfields) [];
  reply = unwrap_or (replyid_of message.subfields) [];
  written = message.head.written;
  attribute = message.head.attribute;
  reply_to = message.head.reply_to;
  reply_first = message.head.reply_first;
  reply_next = message.head.reply_next;
  text = message.text;
}
