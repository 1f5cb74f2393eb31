-- Slots of which summaries are made.
use Rattle.std.specs.Prelude.{ℕ, ◌≤◌, ◌&&◌, Bool, List, [], length, map, nat_lt}
use Rattle.jb_bytes.specs.Subfields.{subfield_bytes}
use Rattle.jb_base.specs.declared.area.AreaRules.{AreaRules}
use Rattle.jb_limits.specs.declared.limits.TheConstants.{MOST_SUBFIELD_BYTES}
use Rattle.jb_base.specs.declared.user.User.{User}
use Rattle.jb_index.specs.Answer.{is_listed}
use Rattle.jb_index.specs.Index.{summary_of}
use Rattle.jb_state.specs.Links.{Linkable}
use Rattle.jb_state.specs.Live.{live_from}
use Rattle.jb_state.specs.State.{slot_state}
use Rattle.jb_state.specs.declared.loaded.LoadedSlot.{LoadedSlot}
use Rattle.jb_state.specs.declared.loaded.LoadedSlot.TheVariants.{Empty, Killed, Live}
use Rattle.jb_state.specs.declared.summary.Summary.{Summary}

-- the subfields of a live message are not too long
abbrev pub HasFewBytes : LoadedSlot → Type 0
HasFewBytes Empty = Unit {0}
HasFewBytes (Killed header_at) = Unit {0}
HasFewBytes (Live message) = length (subfield_bytes message.subfields) ≤ MOST_SUBFIELD_BYTES

-- the summaries of the live messages of these slots, of which the first has this number
abbrev pub slots_listed : List Linkable → ℕ → List LoadedSlot → List Summary
slots_listed live number slots = map (summary_of live) (live_from number (map (slot_state []) slots))

-- the user sees the message, and its number is above this one
abbrev pub is_unread : AreaRules → User → ℕ → Summary → Bool
is_unread rules user last one = is_listed rules user one && nat_lt last one.number
