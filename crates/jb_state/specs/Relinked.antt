-- An area with its reply links computed anew.
use Rattle.std.specs.Prelude.{ℕ, Bool, not, ◌&&◌, ◌==◌, List, count_by}
use Rattle.jb_state.specs.Live.{Numbered, change_live_from, live_in}
use Rattle.jb_state.specs.Links.{Linkable, first_reply_of, linkable, linkables_of, next_reply_of, parent_of, with_links}
use Rattle.jb_state.specs.State.{AreaState, LiveMessage, SlotState}

-- the message with the links that these live messages give it
abbrev pub relinked : List Linkable → Numbered → LiveMessage
relinked live one =
    with_links (parent_of live (linkable one)) (first_reply_of live one.number)
    (next_reply_of live one.number (parent_of live (linkable one))) one.message

-- a relink by what the links of these live messages rest on
abbrev pub relink_by : List Linkable → ℕ → LiveMessage → LiveMessage
relink_by live number message = relinked live (record { number = number; message = message })

-- the slots of an area with the links that its live messages give, all computed over the area as it is
abbrev pub relinked_slots : AreaState → List SlotState
relinked_slots state =
    change_live_from (λ number message. relinked (linkables_of state) (record { number = number; message = message })) state.base state.slots

-- the area with its links written
abbrev pub relinked_area : AreaState → AreaState
relinked_area state = record state { slots = relinked_slots state }

-- the message has the links that these live messages give it
abbrev pub has_its_links : List Linkable → Numbered → Bool
has_its_links live one =
    (one.message.head.reply_to == parent_of live (linkable one)) && (one.message.head.reply_first == first_reply_of live one.number)
    && (one.message.head.reply_next == next_reply_of live one.number (parent_of live (linkable one)))

-- in so many live messages a link is another than the area gives
abbrev pub wrongly_linked : AreaState → ℕ
wrongly_linked state = count_by (λ one. not (has_its_links (linkables_of state) one)) (live_in state)
