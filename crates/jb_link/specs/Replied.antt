-- The replies of a message in a loaded area.
use Rattle.std.specs.Prelude.{◌≡◌, ◌⊎◌, ℕ, ◌≤◌, [], Bool, true, List, Option, Some}
use Rattle.jb_state.specs.Plan.{loaded_at}
use Rattle.jb_state.specs.LiveSlots.{linkables, loaded_linkable}
use Rattle.jb_state.specs.Links.{parent_of}
use Rattle.jb_state.specs.Message.{replyid_of}
use Rattle.jb_state.specs.declared.loaded.Loaded.{Loaded}
use Rattle.jb_state.specs.declared.loaded.LoadedMessage.{LoadedMessage}

-- this live message has that parent
pub record IsReply (loaded : Loaded) (parent number : ℕ) (message : LoadedMessage) : Type 0 where
  pub live : loaded_at loaded number ≡ Some message
  pub parent_is : parent_of (linkables [] loaded) (loaded_linkable number message) ≡ parent

-- a reply to the parent, and no lower than any whose REPLYID passes; or 0, where none passes
pub record IsLastReply (passes : Option (List ℕ) → Bool) (loaded : Loaded) (parent last : ℕ) : Type 0 where
  pub reply : (last ≡ 0) ⊎ ((message : LoadedMessage) × IsReply loaded parent last message)
  pub greatest : (number : ℕ) (message : LoadedMessage) → IsReply loaded parent number message → passes (replyid_of message.subfields) ≡ true → number ≤ last
