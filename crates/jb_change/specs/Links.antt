-- Links that are put into the headers of an area.
use Rattle.std.specs.Prelude.{◌≡◌, ℕ, ◌+◌, ◌^◌, ◌<◌, List}
use Rattle.jb_state.specs.Linked.{with_links_of}
use Rattle.jb_state.specs.Loaded.{IsMessageAt}
use Rattle.jb_state.specs.Plan.{loaded_at}
use Rattle.jb_state.specs.declared.links.Links.{Links}
use Rattle.jb_state.specs.declared.loaded.Loaded.{Loaded}
use Rattle.jb_state.specs.declared.loaded.LoadedMessage.{LoadedMessage}

-- each live message's header stands where a change can name its place
abbrev pub HasNearHeaders : Loaded → Type 0
HasNearHeaders loaded = (place : ℕ) (message : LoadedMessage) → IsMessageAt loaded place message → message.header_at + 76 < 2 ^ 32

-- these links leave each message with a higher number than this as it was
abbrev pub AreLeftAbove : List Links → ℕ → Loaded → Type 0
AreLeftAbove links last loaded = (number : ℕ) → last < number → loaded_at (with_links_of links loaded) number ≡ loaded_at loaded number
