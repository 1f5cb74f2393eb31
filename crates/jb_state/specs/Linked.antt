-- An area as it is loaded with other links in the headers of its messages.
use Rattle.std.specs.Prelude.{◌-◌, ◌<◌, ◌≤◌, List, [], ◌∷◌, length, Option, Some, None}
use Rattle.jb_state.specs.Loaded.{with_head_at}
use Rattle.jb_state.specs.Plan.{loaded_at}
use Rattle.jb_state.specs.declared.links.Links.{Links}
use Rattle.jb_state.specs.declared.loaded.Loaded.{Loaded}
use Rattle.jb_state.specs.declared.loaded.LoadedMessage.{LoadedMessage}
use Rattle.jb_state.specs.declared.message.Head.{Head}

-- the header's fields with these links
abbrev pub linked_head : Links → Head → Head
linked_head links head = record head { reply_to = links.reply_to; reply_first = links.first; reply_next = links.next }

-- the area with these links in the header of the message that they are for, where there is one
abbrev pub with_links_in : Links → Option LoadedMessage → Loaded → Loaded
with_links_in links None loaded = loaded
with_links_in links (Some message) loaded = with_head_at (links.number - loaded.base) (linked_head links message.head) message loaded

-- the area with the links of a plan, one after another
abbrev pub with_links_of : List Links → Loaded → Loaded
with_links_of [] loaded = loaded
with_links_of (links ∷ plan) loaded = with_links_of plan (with_links_in links (loaded_at loaded links.number) loaded)

-- the links are for a slot of the area
pub record IsPlaced (loaded : Loaded) (links : Links) : Type 0 where
  pub low : loaded.base ≤ links.number
  pub within : links.number - loaded.base < length loaded.slots
