-- Links for the live messages of slots.
use Rattle.std.specs.Prelude.{◌≡◌, ℕ, List, map}
use Rattle.jb_state.specs.Plan.{links_of}
use Rattle.jb_state.specs.LiveSlots.{linkables_from}
use Rattle.jb_state.specs.Links.{Linkable}
use Rattle.jb_state.specs.declared.links.Links.{Links}
use Rattle.jb_state.specs.declared.loaded.LoadedSlot.{LoadedSlot}

-- the links are those that some live messages give to those of these slots, of which the first has this number
pub record HasLinks (number : ℕ) (slots : List LoadedSlot) (links : List Links) : Type 0 where
  pub live : List Linkable
  pub are : links ≡ map (links_of live) (linkables_from number slots)
