-- The messages that one leaves behind when it goes.
use Rattle.std.specs.Prelude.{◌≡◌, ◌↔◌, ℕ, ◌<◌, ◌==◌, [], ◌++◌, not, Bool, true, List, Option, AllPairs, Contains, filter, map}
use Rattle.jb_link.specs.Replied.{IsReply}
use Rattle.jb_state.specs.LiveSlots.{linkables, loaded_linkable}
use Rattle.jb_link.specs.declared.orphans.Orphan.{Orphan}
use Rattle.jb_state.specs.Links.{Linkable, is_reply_to, parent_of}
use Rattle.jb_state.specs.Message.{replyid_of}
use Rattle.jb_state.specs.declared.loaded.Loaded.{Loaded}
use Rattle.jb_state.specs.declared.loaded.LoadedMessage.{LoadedMessage}

-- all live messages but the one with this number
abbrev pub without_one : ℕ → List Linkable → List Linkable
without_one number live = filter (λ one. not (one.number == number)) live

-- a message, and the parent that all but the one with this number give it
abbrev pub orphan_of : List Linkable → ℕ → Linkable → Orphan
orphan_of live number one = record { number = one.number; parent = parent_of (without_one number live) one }

-- the live messages whose parent has this number, in rising order of theirs, each with the parent that the others give it
abbrev pub orphans_of : List Linkable → ℕ → List Orphan
orphans_of live number = map (orphan_of live number) (filter (is_reply_to live number) live)

-- it is one of those, and its REPLYID passes
pub record IsOrphan (passes : Option (List ℕ) → Bool) (loaded : Loaded) (number : ℕ) (one : Orphan) : Type 0 where
  pub message : LoadedMessage
  pub reply : IsReply loaded number one.number message
  pub passes_it : passes (replyid_of message.subfields) ≡ true
  pub parent_is : one.parent ≡ parent_of (without_one number (linkables [] loaded)) (loaded_linkable one.number message)

-- the list has each of those once, in rising order of the numbers
pub record AreOrphans (passes : Option (List ℕ) → Bool) (loaded : Loaded) (number : ℕ) (orphans : List Orphan) : Type 0 where
  pub listed : (one : Orphan) → Contains orphans one ↔ IsOrphan passes loaded number one
  pub rising : AllPairs (λ one other. one.number < other.number) orphans

-- the second list has them behind all that the first has
pub record AddsOrphans (passes : Option (List ℕ) → Bool) (loaded : Loaded) (number : ℕ) (old new : List Orphan) : Type 0 where
  pub more : List Orphan
  pub orphans : AreOrphans passes loaded number more
  pub is : new ≡ old ++ more
