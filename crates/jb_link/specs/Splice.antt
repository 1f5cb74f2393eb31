-- The header that one more reply changes beside its own.
use Rattle.std.specs.Prelude.{◌≡◌, ℕ, ◌==◌, List, option_map, if◌then◌else◌}
use Rattle.jb_state.specs.Links.{Linkable, last_reply_of}
use Rattle.jb_state.specs.Live.{message_at}
use Rattle.jb_state.specs.Posted.{slots_with, spliced_slots, with_first_reply, with_next_reply}
use Rattle.jb_state.specs.State.{AreaState, SlotState}
use Rattle.jb_link.specs.declared.splicing.Spliced.{Spliced}
use Rattle.jb_link.specs.declared.splicing.Spliced.TheVariants.{None as Nothing, First, After}

-- none without a parent; the parent's where it has no live reply; else that of its last live reply
abbrev pub spliced : List Linkable → ℕ → Spliced
spliced live parent =
    if parent == 0 then Nothing
    else if last_reply_of live parent == 0 then First parent
    else After (last_reply_of live parent)

-- the slots with this number in the link that is named, where one is
abbrev pub with_spliced : AreaState → Spliced → ℕ → List SlotState
with_spliced state Nothing number = state.slots
with_spliced state (First of) number = slots_with state of (option_map (with_first_reply number) (message_at state of))
with_spliced state (After of) number = slots_with state of (option_map (with_next_reply number) (message_at state of))

-- this is what a reply to the parent changes in the slots that stand there, whatever its number is
abbrev pub IsSplice : AreaState → ℕ → Spliced → Type 0
IsSplice state parent named = (number : ℕ) → spliced_slots state parent number ≡ with_spliced state named number
