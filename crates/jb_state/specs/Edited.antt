-- An area with a message edited.
use Rattle.std.specs.Prelude.{◌≡◌, ℕ, ◌+◌, ◌-◌, ◌==◌, List, [], ◌∷◌, length, option_map, slice_get, slice_set, if◌then◌else◌}
use Rattle.jb_base.specs.declared.area.AreaRules.{AreaRules}
use Rattle.jb_base.specs.declared.user.User.{User}
use Rattle.jb_bytes.specs.declared.subfield.Subfield.{Subfield}
use Rattle.jb_bytes.specs.declared.subfield.TheConstants.{SUBJECT}
use Rattle.jb_state.specs.Links.{linkables_of}
use Rattle.jb_state.specs.Live.{counted, message_at, numbers_of}
use Rattle.jb_state.specs.Message.{header_length}
use Rattle.jb_state.specs.State.{AreaState, LiveMessage, live_message}
use Rattle.jb_state.specs.Visible.{shown_to, unread_by}

-- the subfields with this subject: it is the data of the first SUBJECT, whose HiID stays; without one, a SUBJECT with HiID 0 goes last
abbrev pub with_subject : List ℕ → List Subfield → List Subfield
with_subject subject [] = record { id = SUBJECT; hi = 0; bytes = subject } ∷ []
with_subject subject (field ∷ fields) =
    if field.id == SUBJECT then record field { bytes = subject } ∷ fields else field ∷ with_subject subject fields

-- the message with this subject and this text; the fields of its header and its UserCRC stay
abbrev pub edited : List ℕ → List ℕ → LiveMessage → LiveMessage
edited subject text message = record message { subfields = with_subject subject message.subfields; text = text }

-- the area with this message in the place of the one that the number names; its header and its text are behind all others, and the
-- bytes of the old ones stay in the files
abbrev pub edited_state : AreaState → ℕ → LiveMessage → AreaState
edited_state state number message = counted (record state {
  slots = slice_set state.slots (number - state.base) (live_message message);
  headers_len = state.headers_len + header_length message;
  texts_len = state.texts_len + length message.text;
})

-- a message but for its subject and its text
abbrev pub unlettered : LiveMessage → LiveMessage
unlettered message = edited [] [] message

-- the message of this number has another subject and another text, and nothing else is apart but what the fixed header counts and the
-- lengths of the files: not the base or a mark, not another slot, not what links rest on, not which messages a user sees and has not read
pub record EditsAlone (number : ℕ) (before after : AreaState) : Type 0 where
  pub rest : after ≡ record before { counter = after.counter; active = after.active; slots = after.slots; headers_len = after.headers_len; texts_len = after.texts_len }
  pub slots : length after.slots ≡ length before.slots
  pub others : (place : ℕ) → (before.base + place ≡ number → ⊥) → slice_get after.slots place ≡ slice_get before.slots place
  pub itself : option_map unlettered (message_at after number) ≡ option_map unlettered (message_at before number)
  pub links : linkables_of after ≡ linkables_of before
  pub seen : (rules : AreaRules) (user : User) → numbers_of (shown_to rules user after) ≡ numbers_of (shown_to rules user before)
  pub unread : (rules : AreaRules) (user : User) → numbers_of (unread_by rules user after) ≡ numbers_of (unread_by rules user before)
