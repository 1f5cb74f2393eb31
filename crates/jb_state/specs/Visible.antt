-- What a user sees of an area.
use Rattle.std.specs.Prelude.{ℕ, nat_lt, Bool, List, Option, Some, None, filter, map, Contains, option_map, unwrap_or, if◌then◌else◌}
use Rattle.jb_base.specs.Access.{is_visible}
use Rattle.jb_bytes.specs.Crc.{jam_crc_of}
use Rattle.jb_base.specs.declared.area.AreaRules.{AreaRules}
use Rattle.jb_base.specs.declared.user.User.{User}
use Rattle.jb_state.specs.Live.{Numbered, live_in, message_at}
use Rattle.jb_state.specs.Links.{with_links}
use Rattle.jb_state.specs.Marks.{mark_of}
use Rattle.jb_state.specs.Message.{envelope_of}
use Rattle.jb_state.specs.State.{AreaState, LiveMessage}
use Rattle.jb_state.specs.declared.mark.Mark.{Mark}

-- no rule refuses that the user sees the live message listed
abbrev pub is_shown : AreaRules → User → LiveMessage → Bool
is_shown rules user message = is_visible user rules (envelope_of message)

-- the live messages that the user sees, with all their fields
abbrev pub shown_to : AreaRules → User → AreaState → List Numbered
shown_to rules user state = filter (λ one. is_shown rules user one.message) (live_in state)

-- a message but for its three link fields, which others change by their replies
abbrev pub unlinked : Numbered → Numbered
unlinked one = record { number = one.number; message = with_links 0 0 0 one.message }

-- the messages that the user sees, with their numbers, but for their link fields
abbrev pub visible_to : AreaRules → User → AreaState → List Numbered
visible_to rules user state = map unlinked (shown_to rules user state)

-- the number names a message that the user sees
abbrev pub IsVisible : AreaRules → User → AreaState → ℕ → Type 0
IsVisible rules user state number = Contains (map (λ one. one.number) (visible_to rules user state)) number

-- the live message, where the user sees it
abbrev pub if_shown : AreaRules → User → Option LiveMessage → Option LiveMessage
if_shown rules user None = None
if_shown rules user (Some message) = if is_shown rules user message then Some message else None

-- the message that a number names, where the user sees it
abbrev pub visible_at : AreaRules → User → AreaState → ℕ → Option LiveMessage
visible_at rules user state number = if_shown rules user (message_at state number)

-- the user's mark: the first one with the CRC of the name and the number of the user
abbrev pub mark_of_user : User → AreaState → Option Mark
mark_of_user user state = mark_of (jam_crc_of user.name) user.id state.marks

-- the number that the user's mark has as read last, or 0
abbrev pub last_read_by : User → AreaState → ℕ
last_read_by user state = unwrap_or (option_map (λ mark. mark.last) (mark_of_user user state)) 0

-- the highest number that the user's mark has had, or 0
abbrev pub highest_read_by : User → AreaState → ℕ
highest_read_by user state = unwrap_or (option_map (λ mark. mark.high) (mark_of_user user state)) 0

-- the messages that the user sees above the one read last
abbrev pub unread_by : AreaRules → User → AreaState → List Numbered
unread_by rules user state = filter (λ one. nat_lt (last_read_by user state) one.number) (visible_to rules user state)
