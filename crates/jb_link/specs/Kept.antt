-- The live messages that have no REPLYID and keep the number of a lower message, in the order of those numbers.
use Rattle.std.specs.Prelude.{◌≡◌, ◌≢◌, ◌↔◌, ℕ, ◌+◌, ◌<◌, ◌≤◌, nat_le, nat_lt, ◌&&◌, is_none, List, AllPairs, Contains, IsSome, length, Option, Some, None, if◌then◌else◌}
use Rattle.jb_state.specs.Plan.{loaded_at}
use Rattle.jb_state.specs.Message.{replyid_of}
use Rattle.jb_state.specs.declared.loaded.Loaded.{Loaded}
use Rattle.jb_state.specs.declared.loaded.LoadedMessage.{LoadedMessage}
use Rattle.jb_link.specs.Order.{IsRising, pair_order}

-- the number names a live message without REPLYID, whose header keeps this ReplyTo
pub record KeepsReplyTo (loaded : Loaded) (kept number : ℕ) : Type 0 where
  pub message : LoadedMessage
  pub live : loaded_at loaded number ≡ Some message
  pub no_id : replyid_of message.subfields ≡ None
  pub reply_to : message.head.reply_to ≡ kept

-- the second is a later number of the area; where the first is a live one, the second keeps it
pub record IsReplyPair (loaded : Loaded) (kept number : ℕ) : Type 0 where
  pub later : kept < number
  pub there : number < loaded.base + length loaded.slots
  pub keeps : IsSome (loaded_at loaded kept) → KeepsReplyTo loaded kept number

-- the pairs of a live message and of a later one that keeps its number, each once, in the order of the first and, of equal
-- ones, of the second; a pair may stay whose first message is dead, since its number is never given again
pub record IsKeptList (loaded : Loaded) (pairs : List (ℕ × ℕ)) : Type 0 where
  pub each : (kept number : ℕ) → Contains pairs (kept, number) → IsReplyPair loaded kept number
  pub whole : (kept number : ℕ) → kept < number → IsSome (loaded_at loaded kept) → KeepsReplyTo loaded kept number → Contains pairs (kept, number)
  pub rising : IsRising pair_order (λ pair. pair) pairs

-- the same, but for the pairs of one second number
pub record IsKeptListBut (loaded : Loaded) (other : ℕ) (pairs : List (ℕ × ℕ)) : Type 0 where
  pub each : (kept number : ℕ) → Contains pairs (kept, number) → IsReplyPair loaded kept number × (number ≢ other)
  pub whole : (kept number : ℕ) → number ≢ other → kept < number → IsSome (loaded_at loaded kept) → KeepsReplyTo loaded kept number → Contains pairs (kept, number)
  pub rising : IsRising pair_order (λ pair. pair) pairs

-- the pair of a message with this number, where it has no REPLYID and keeps a lower number that the area has
abbrev pub kept_pair : ℕ → ℕ → Option LoadedMessage → Option (ℕ × ℕ)
kept_pair base number None = None
kept_pair base number (Some message) =
    if is_none (replyid_of message.subfields) && nat_le base message.head.reply_to && nat_lt message.head.reply_to number
    then Some (message.head.reply_to, number)
    else None

-- the pair of the live message that a number names
abbrev pub pair_at : Loaded → ℕ → Option (ℕ × ℕ)
pair_at loaded number = kept_pair loaded.base number (loaded_at loaded number)

-- the pairs of the messages below one number, in the order of those
pub record ArePairsBelow (loaded : Loaded) (end : ℕ) (pairs : List (ℕ × ℕ)) : Type 0 where
  pub listed : (kept number : ℕ) → Contains pairs (kept, number) ↔ ((number < end) × (pair_at loaded number ≡ Some (kept, number)))
  pub rising : AllPairs (λ one other. one.1 < other.1) pairs

-- the same pairs without that of the message with this number, where it has one
pub record LosesPairOf (loaded : Loaded) (number : ℕ) (old new : List (ℕ × ℕ)) : Type 0 where
  pub each : (kept other : ℕ) → Contains new (kept, other) → Contains old (kept, other) × (pair_at loaded number ≢ Some (kept, other))
  pub whole : (kept other : ℕ) → Contains old (kept, other) → other ≢ number → Contains new (kept, other)
  pub rising : IsRising pair_order (λ pair. pair) new

-- the greatest number that stands in a pair behind this one, where there is one
abbrev pub IsLastWith : List (ℕ × ℕ) → ℕ → Option ℕ → Type 0
IsLastWith pairs kept None = (other : ℕ) → Contains pairs (kept, other) → ⊥
IsLastWith pairs kept (Some number) = Contains pairs (kept, number) × ((other : ℕ) → Contains pairs (kept, other) → other ≤ number)
