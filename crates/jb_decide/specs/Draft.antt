-- What a user wrote, and what of it stands in the new or the edited message.
use Rattle.std.specs.Prelude.{ℕ, ◌+◌, Bool, if◌then◌else◌, List, length}
use Rattle.jb_bytes.specs.Crc.{jam_crc_of}
use Rattle.jb_base.specs.declared.area.AreaRules.{AreaRules}
use Rattle.jb_bytes.specs.declared.subfield.Subfield.{Subfield}
use Rattle.jb_bytes.specs.declared.subfield.TheConstants.{SUBJECT}
use Rattle.jb_base.specs.declared.user.User.{User}
use Rattle.jb_link.specs.Parents.{copied_msgid, parent_behind}
use Rattle.jb_model.specs.Post.{Draft, posted_msgid, fields_with, head_with}
use Rattle.jb_model.specs.declared.command.Command.{Command}
use Rattle.jb_model.specs.declared.command.Command.TheVariants.{Edit, Post}
use Rattle.jb_state.specs.Edited.{with_subject}
use Rattle.jb_state.specs.declared.loaded.Loaded.{Loaded}
use Rattle.jb_state.specs.declared.loaded.LoadedMessage.{LoadedMessage}
use Rattle.jb_state.specs.declared.message.Head.{Head}
use Rattle.jb_decide.specs.declared.drafts.LentDraft.{LentDraft as LentDraft}
use Rattle.jb_decide.specs.declared.drafts.LentEdit.{LentEdit as LentEdit}

-- what a user wrote, as the definitions see it
abbrev pub draft_of : LentDraft → Draft
draft_of draft = record { to = draft.to.now; subject = draft.subject.now; text = draft.text.now; reply_to = draft.reply_to; private = draft.private }

-- the command that posts it
abbrev pub post_of : Draft → Command
post_of draft = Post draft.to draft.subject draft.text draft.reply_to draft.private

-- the command that edits so
abbrev pub edit_of : LentEdit → Command
edit_of edit = Edit edit.number edit.subject.now edit.text.now

-- the number that the next message gets
abbrev pub next_of : Loaded → ℕ
next_of loaded = loaded.base + length loaded.slots

-- the subfields of the new message
abbrev pub new_fields : AreaRules → Loaded → User → Draft → List Subfield
new_fields rules loaded user draft =
    fields_with user draft (posted_msgid rules (next_of loaded)) (copied_msgid loaded draft.reply_to)

-- the header's fields of the new message
abbrev pub new_head : AreaRules → Loaded → ℕ → Draft → Head
new_head rules loaded moment draft =
    head_with rules moment draft (posted_msgid rules (next_of loaded)) (copied_msgid loaded draft.reply_to) (parent_behind loaded draft.reply_to)

-- the new message, whose header and text stand at the ends of their files
abbrev pub new_message : AreaRules → Loaded → User → ℕ → Draft → LoadedMessage
new_message rules loaded user moment draft = record {
  owner = jam_crc_of draft.to;
  head = new_head rules loaded moment draft;
  subfields = new_fields rules loaded user draft;
  header_at = loaded.headers_len;
  text_at = loaded.texts_len;
  text_len = length draft.text;
}

-- the rest of a message's subfields, of which the first SUBJECT gets this subject where none before it did
abbrev pub with_subject_in_rest : Bool → List ℕ → List Subfield → List Subfield
with_subject_in_rest named subject fields = if named then fields else with_subject subject fields

-- the message with this subject and this text, whose header and text stand at the ends of their files
abbrev pub message_anew : Loaded → LoadedMessage → List ℕ → List ℕ → LoadedMessage
message_anew loaded message subject text = record {
  owner = message.owner;
  head = message.head;
  subfields = with_subject subject message.subfields;
  header_at = loaded.headers_len;
  text_at = loaded.texts_len;
  text_len = length text;
}
