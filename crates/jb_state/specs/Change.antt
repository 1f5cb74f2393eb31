-- What becomes of an area when a command that was decided is done, and where that may be.
use Rattle.std.specs.Prelude.{◌≡◌, ℕ, ◌+◌, ◌<◌, ◌≤◌, ◌%◌, ◌^◌, ◌++◌, List, [], Option, Some, None, bit_and, length, map, slice_index_or}
use Rattle.jb_bytes.specs.Subfields.{subfield_bytes}
use Rattle.jb_base.specs.declared.attribute.TheConstants.{DELETED}
use Rattle.jb_limits.specs.declared.limits.TheConstants.{HEADERS_CEILING, LAST_POSTED_NUMBER, MOST_MARKS, MOST_SUBFIELD_BYTES, MOST_TEXT_BYTES, TEXTS_CEILING}
use Rattle.jb_state.specs.Edited.{with_subject}
use Rattle.jb_state.specs.Linked.{with_links_of}
use Rattle.jb_state.specs.Links.{parent_of}
use Rattle.jb_state.specs.Live.{live_count}
use Rattle.jb_state.specs.LiveSlots.{linkables_from, loaded_linkable}
use Rattle.jb_state.specs.Loaded.{IsMessageAt, header_size, slot_with_head, with_counts, with_marks, with_message_anew, with_message_behind, with_slot_at}
use Rattle.jb_state.specs.Marks.{with_mark}
use Rattle.jb_state.specs.Packed.{kept_slots, new_base, packed, packed_texts, texts_size}
use Rattle.jb_state.specs.Places.{IsPlaceOf}
use Rattle.jb_state.specs.Plan.{plan_of}
use Rattle.jb_state.specs.State.{slot_state}
use Rattle.jb_state.specs.declared.change.Change.{Change}
use Rattle.jb_state.specs.declared.change.Change.TheVariants.{Nothing, Posted, Headed, Edited, Killed, Relinked, Marked, Packed}
use Rattle.jb_state.specs.declared.change.HeadAt.{HeadAt}
use Rattle.jb_state.specs.declared.loaded.Loaded.{Loaded}
use Rattle.jb_state.specs.declared.loaded.LoadedMessage.{LoadedMessage}
use Rattle.jb_state.specs.declared.loaded.LoadedSlot.{LoadedSlot}
use Rattle.jb_state.specs.declared.loaded.LoadedSlot.TheVariants as slot

-- how many messages of the area are live
abbrev pub live_messages : Loaded → ℕ
live_messages loaded = live_count (map (slot_state []) loaded.slots)

-- the change is counted: modcounter is one more, and activemsgs the number of live messages
abbrev pub loaded_counted : Loaded → Loaded
loaded_counted loaded = with_counts ((loaded.counter + 1) % 2 ^ 32) (live_messages loaded) loaded

-- the slot with its message killed, whose header stays where it is; another slot is as it was
abbrev pub killed_slot : LoadedSlot → LoadedSlot
killed_slot slot.Empty = slot.Empty
killed_slot (slot.Killed header_at) = slot.Killed header_at
killed_slot (slot.Live message) = slot.Killed message.header_at

-- the area with another slot at this place, made of the one that stands there
abbrev pub with_slot_changed : ℕ → (LoadedSlot → LoadedSlot) → Loaded → Loaded
with_slot_changed place change loaded = with_slot_at place (change (slice_index_or loaded.slots place slot.Empty)) loaded

-- the area with these fields in the header of the live message at a place
abbrev pub headed : HeadAt → Loaded → Loaded
headed at loaded = with_slot_changed at.place (slot_with_head at.head) loaded

-- the same, where there is a header to be changed
abbrev pub headed_where : Option HeadAt → Loaded → Loaded
headed_where None loaded = loaded
headed_where (Some at) loaded = headed at loaded

-- the area after the change
abbrev pub after : Change → Loaded → Loaded
after Nothing loaded = loaded
after (Posted message neighbour) loaded = loaded_counted (with_message_behind message (headed_where neighbour loaded))
after (Headed at) loaded = loaded_counted (headed at loaded)
after (Edited place message) loaded = loaded_counted (with_message_anew place message loaded)
after (Killed place) loaded = loaded_counted (with_slot_changed place killed_slot loaded)
after (Relinked plan) loaded = loaded_counted (with_links_of plan loaded)
after (Marked place mark) loaded = with_marks (with_mark mark loaded.marks) loaded
after (Packed plan base) loaded = packed loaded

-- its texts then, of these before it: a text that was written comes behind them, a pack leaves those of the live messages one behind
-- another, and nothing else changes them
abbrev pub texts_after : Change → Loaded → List ℕ → List ℕ → List ℕ
texts_after Nothing loaded written texts = texts
texts_after (Posted message neighbour) loaded written texts = texts ++ written
texts_after (Headed at) loaded written texts = texts
texts_after (Edited place message) loaded written texts = texts ++ written
texts_after (Killed place) loaded written texts = texts
texts_after (Relinked plan) loaded written texts = texts
texts_after (Marked place mark) loaded written texts = texts
texts_after (Packed plan base) loaded written texts = packed_texts texts loaded

-- a live message stands at this place, and the fields are those of its header but for the traces of a reading
pub record IsReadingOf (at : HeadAt) (loaded : Loaded) : Type 0 where
  pub message : LoadedMessage
  pub here : IsMessageAt loaded at.place message
  pub same : at.head ≡ record message.head { times_read = at.head.times_read; received = at.head.received; attribute = at.head.attribute }
  pub live : bit_and at.head.attribute DELETED ≡ 0

-- the same, but for the links to its answers
pub record IsLinkOf (at : HeadAt) (loaded : Loaded) : Type 0 where
  pub message : LoadedMessage
  pub here : IsMessageAt loaded at.place message
  pub same : at.head ≡ record message.head { reply_first = at.head.reply_first; reply_next = at.head.reply_next }

-- where there is a neighbour, its header gets other links to answers
abbrev pub IsNeighbourOf : Option HeadAt → Loaded → Type 0
IsNeighbourOf None loaded = Unit {0}
IsNeighbourOf (Some at) loaded = IsLinkOf at loaded

-- the message may come behind the others of an area of at most so many slots: its header and its text stand at the ends of their
-- files, which have room, and its ReplyTo is the parent that the live messages give it
pub record FitsBehind (limit : ℕ) (message : LoadedMessage) (loaded : Loaded) : Type 0 where
  pub number : loaded.base + length loaded.slots ≤ LAST_POSTED_NUMBER
  pub slot : length loaded.slots < limit
  pub header_at : message.header_at ≡ loaded.headers_len
  pub text_at : message.text_at ≡ loaded.texts_len
  pub headers : loaded.headers_len + header_size message ≤ HEADERS_CEILING
  pub texts : loaded.texts_len + message.text_len ≤ TEXTS_CEILING
  pub few_bytes : length (subfield_bytes message.subfields) ≤ MOST_SUBFIELD_BYTES
  pub short : message.text_len ≤ MOST_TEXT_BYTES
  pub live : bit_and message.head.attribute DELETED ≡ 0
  pub parent : message.head.reply_to ≡ parent_of (linkables_from loaded.base loaded.slots) (loaded_linkable (loaded.base + length loaded.slots) message)

-- the message may take this place of one that differs in its subject and its text alone: its header and its text stand at the ends
-- of their files, which have room
pub record FitsAnew (place : ℕ) (message : LoadedMessage) (loaded : Loaded) : Type 0 where
  pub was : LoadedMessage
  pub here : IsMessageAt loaded place was
  pub owner : message.owner ≡ was.owner
  pub head : message.head ≡ was.head
  pub subject : List ℕ
  pub subfields : message.subfields ≡ with_subject subject was.subfields
  pub header_at : message.header_at ≡ loaded.headers_len
  pub text_at : message.text_at ≡ loaded.texts_len
  pub headers : loaded.headers_len + header_size message ≤ HEADERS_CEILING
  pub texts : loaded.texts_len + message.text_len ≤ TEXTS_CEILING
  pub few_bytes : length (subfield_bytes message.subfields) ≤ MOST_SUBFIELD_BYTES
  pub short : message.text_len ≤ MOST_TEXT_BYTES

-- a live message stands at this place
pub record HasMessageAt (place : ℕ) (loaded : Loaded) : Type 0 where
  pub message : LoadedMessage
  pub here : IsMessageAt loaded place message

-- the change may be done in an area of at most so many slots
abbrev pub Fits : ℕ → Change → Loaded → Type 0
Fits limit Nothing loaded = Unit {0}
Fits limit (Posted message neighbour) loaded = FitsBehind limit message loaded × IsNeighbourOf neighbour loaded
Fits limit (Headed at) loaded = IsReadingOf at loaded
Fits limit (Edited place message) loaded = FitsAnew place message loaded
Fits limit (Killed place) loaded = HasMessageAt place loaded
Fits limit (Relinked plan) loaded = plan ≡ plan_of (linkables_from loaded.base loaded.slots)
Fits limit (Marked place mark) loaded = IsPlaceOf mark.user_crc mark.user_id loaded.marks place × (place ≡ None → length loaded.marks < MOST_MARKS)
Fits limit (Packed plan base) loaded =
    (plan ≡ plan_of (linkables_from loaded.base loaded.slots)) × (base ≡ new_base loaded) × (texts_size (kept_slots loaded) ≤ TEXTS_CEILING)
