-- Why a post or an edit has no room in a loaded area.
use Rattle.std.specs.Prelude.{ℕ, ◌+◌, nat_le, nat_lt, not, ◌&&◌, ◌==◌, is_none, List, length, Option, Some, None, if◌then◌else◌}
use Rattle.jb_bytes.specs.Subfields.{subfield_bytes}
use Rattle.jb_bytes.specs.declared.subfield.Subfield.{Subfield}
use Rattle.jb_base.specs.declared.area.AreaRules.{AreaRules}
use Rattle.jb_limits.specs.declared.limits.TheConstants.{HEADERS_CEILING, LAST_POSTED_NUMBER, MOST_SUBFIELD_BYTES, TEXTS_CEILING}
use Rattle.jb_base.specs.declared.user.User.{User}
use Rattle.jb_model.specs.Post.{Draft, told_length}
use Rattle.jb_state.specs.declared.loaded.Loaded.{Loaded}
use Rattle.jb_model.specs.declared.reply.Reply.{Reply}
use Rattle.jb_model.specs.declared.reply.Reply.TheVariants.{HeadersFull, NoMessage, NumbersSpent, SlotsFull, SubfieldsFull, TextFull}
use Rattle.jb_decide.specs.Draft.{new_fields, next_of}
use Rattle.jb_decide.specs.Seen.{seen_at}

-- the first refusal, where there is one, and else the other
abbrev pub or_refusal : Option Reply → Option Reply → Option Reply
or_refusal (Some refusal) other = Some refusal
or_refusal None other = other

-- the draft answers a message that the user does not see
abbrev pub unseen_refusal : AreaRules → Loaded → User → Draft → Option Reply
unseen_refusal rules loaded user draft =
    if not (draft.reply_to == 0) && is_none (seen_at rules user loaded draft.reply_to) then Some (NoMessage draft.reply_to) else None

-- the area has no further number or no slot
abbrev pub number_refusal : AreaRules → Loaded → Option Reply
number_refusal rules loaded =
    if nat_lt LAST_POSTED_NUMBER (next_of loaded) then Some (NumbersSpent (next_of loaded))
    else if nat_le rules.slots (length loaded.slots) then Some (SlotsFull rules.slots)
    else None

-- the files have no room for so many bytes of a header and of a text
abbrev pub file_refusal : Loaded → ℕ → ℕ → Option Reply
file_refusal loaded header text =
    if nat_lt HEADERS_CEILING (loaded.headers_len + header) then Some (HeadersFull (told_length (loaded.headers_len + header)))
    else if nat_lt TEXTS_CEILING (loaded.texts_len + text) then Some (TextFull (told_length (loaded.texts_len + text)))
    else None

-- the files have no room for the new message
abbrev pub new_refusal : AreaRules → Loaded → User → Draft → Option Reply
new_refusal rules loaded user draft =
    file_refusal loaded (76 + length (subfield_bytes (new_fields rules loaded user draft))) (length draft.text)

-- a header may not have so many bytes of subfields, or the files have no room for them and for so many bytes of a text
abbrev pub anew_refusal : Loaded → List Subfield → ℕ → Option Reply
anew_refusal loaded subfields text =
    if nat_lt MOST_SUBFIELD_BYTES (length (subfield_bytes subfields)) then Some (SubfieldsFull (length (subfield_bytes subfields)))
    else file_refusal loaded (76 + length (subfield_bytes subfields)) text
