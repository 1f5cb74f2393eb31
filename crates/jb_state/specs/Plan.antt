-- The links of all live messages, and in how many of them they are other ones.
use Rattle.std.specs.Prelude.{ℕ, ◌-◌, nat_lt, Bool, false, not, ◌&&◌, ◌==◌, List, Option, Some, None, map, slice_get, if◌then◌else◌}
use Rattle.jb_state.specs.Links.{Linkable, first_reply_of, next_reply_of, parent_of}
use Rattle.jb_state.specs.declared.links.Links.{Links}
use Rattle.jb_state.specs.declared.loaded.Loaded.{Loaded}
use Rattle.jb_state.specs.declared.loaded.LoadedMessage.{LoadedMessage}
use Rattle.jb_state.specs.declared.message.Head.{Head}
use Rattle.jb_state.specs.LiveSlots.{message_in}

-- the links that these live messages give to one of them
abbrev pub links_of : List Linkable → Linkable → Links
links_of live one = record {
  number = one.number;
  reply_to = parent_of live one;
  first = first_reply_of live one.number;
  next = next_reply_of live one.number (parent_of live one);
}

-- the links of each live message, in rising order of the numbers
abbrev pub plan_of : List Linkable → List Links
plan_of live = map (links_of live) live

-- the loaded message that a number names, where it names one
abbrev pub loaded_at : Loaded → ℕ → Option LoadedMessage
loaded_at loaded number =
    if nat_lt number loaded.base then None else message_in (slice_get loaded.slots (number - loaded.base))

-- the header has these links
abbrev pub has_links : Head → Links → Bool
has_links head links =
    (head.reply_to == links.reply_to) && (head.reply_first == links.first) && (head.reply_next == links.next)

-- the message, where there is one, has a link field that is another than these
abbrev pub differs : Option LoadedMessage → Links → Bool
differs None links = false
differs (Some message) links = not (has_links message.head links)
