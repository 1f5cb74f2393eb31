-- The live messages of loaded slots, as their links see them.
use Rattle.std.specs.Prelude.{ℕ, Bool, false, List, [], Option, Some, None, IsSome, option_and_then, map}
use Rattle.jb_state.specs.Links.{Linkable, linkable, linkables_of}
use Rattle.jb_state.specs.Live.{live_from, message_at}
use Rattle.jb_state.specs.Message.{msgid_of, replyid_of}
use Rattle.jb_state.specs.State.{slot_state, state_of}
use Rattle.jb_state.specs.declared.loaded.Loaded.{Loaded}
use Rattle.jb_state.specs.declared.loaded.LoadedMessage.{LoadedMessage}
use Rattle.jb_state.specs.declared.loaded.LoadedSlot.{LoadedSlot}
use Rattle.jb_state.specs.declared.loaded.LoadedSlot.TheVariants.{Empty, Killed, Live}

-- what the links rest on, of slots of which the first has this number; no text bears on it
abbrev pub linkables_from : ℕ → List LoadedSlot → List Linkable
linkables_from number slots = map linkable (live_from number (map (slot_state []) slots))

-- what the links of a loaded area rest on, its texts out of this file
abbrev pub linkables : List ℕ → Loaded → List Linkable
linkables texts loaded = linkables_of (state_of texts loaded)

-- what the links of a loaded message with this number rest on
abbrev pub loaded_linkable : ℕ → LoadedMessage → Linkable
loaded_linkable number message = record {
  number = number;
  msgid = msgid_of message.subfields;
  replyid = replyid_of message.subfields;
  kept = message.head.reply_to;
}

-- a live message stands there, and it passes
abbrev pub is_live_and : (LoadedMessage → Bool) → LoadedSlot → Bool
is_live_and test Empty = false
is_live_and test (Killed header_at) = false
is_live_and test (Live message) = test message

-- the live message of a slot, where there is one
abbrev pub message_in : Option LoadedSlot → Option LoadedMessage
message_in None = None
message_in (Some Empty) = None
message_in (Some (Killed header_at)) = None
message_in (Some (Live message)) = Some message

-- the MSGID of the live message of a slot, where it has one
abbrev pub msgid_in : Option LoadedSlot → Option (List ℕ)
msgid_in slot = option_and_then (λ message. msgid_of message.subfields) (message_in slot)

-- the number names a live message of the area
abbrev pub IsLive : Loaded → ℕ → Type 0
IsLive loaded number = IsSome (message_at (state_of [] loaded) number)
