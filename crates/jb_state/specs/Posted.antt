-- An area with a message posted to it.
use Rattle.std.specs.Prelude.{ℕ, ◌+◌, ◌-◌, nat_le, ◌==◌, List, [], ◌∷◌, ◌++◌, Option, Some, None, option_map, option_and_then, length, slice_set, if◌then◌else◌}
use Rattle.jb_limits.specs.declared.limits.TheConstants.{MOST_COPIED_MSGID_BYTES}
use Rattle.jb_state.specs.Live.{counted, message_at}
use Rattle.jb_state.specs.Links.{last_reply_of, linkables_of, parent_for}
use Rattle.jb_state.specs.Message.{header_length, msgid_of}
use Rattle.jb_state.specs.State.{AreaState, LiveMessage, SlotState, live_message, next_number}

-- the id, where it is not too long to be copied
abbrev pub if_copied : List ℕ → Option (List ℕ)
if_copied id = if nat_le (length id) MOST_COPIED_MSGID_BYTES then Some id else None

-- the REPLYID of an answer: the MSGID of the message that it answers, where that has one that is copied
abbrev pub posted_replyid : AreaState → ℕ → Option (List ℕ)
posted_replyid state reply_to = option_and_then if_copied (option_and_then (λ answered. msgid_of answered.subfields) (message_at state reply_to))

-- the parent of the message that is posted
abbrev pub posted_parent : AreaState → ℕ → ℕ
posted_parent state reply_to =
    parent_for (linkables_of state) (next_number state) (posted_replyid state reply_to) reply_to

-- the slots with this message in the place of the one that the number names, where there is one
abbrev pub slots_with : AreaState → ℕ → Option LiveMessage → List SlotState
slots_with state number None = state.slots
slots_with state number (Some message) = slice_set state.slots (number - state.base) (live_message message)

-- the message with another first reply
abbrev pub with_first_reply : ℕ → LiveMessage → LiveMessage
with_first_reply number message = record message { head = record message.head { reply_first = number } }

-- the message with another next reply
abbrev pub with_next_reply : ℕ → LiveMessage → LiveMessage
with_next_reply number message = record message { head = record message.head { reply_next = number } }

-- the slots as a new reply to this parent leaves them: the parent names it where it has no live reply, else its last reply does
abbrev pub spliced_slots : AreaState → ℕ → ℕ → List SlotState
spliced_slots state parent number =
    let last = last_reply_of (linkables_of state) parent in
    if parent == 0 then state.slots
    else if last == 0 then slots_with state parent (option_map (with_first_reply number) (message_at state parent))
    else slots_with state last (option_map (with_next_reply number) (message_at state last))

-- the area with this message at its end
abbrev pub posted_state : AreaState → LiveMessage → AreaState
posted_state state message = counted (record state {
  slots = spliced_slots state message.head.reply_to (next_number state) ++ live_message message ∷ [];
  headers_len = state.headers_len + header_length message;
  texts_len = state.texts_len + length message.text;
})
