-- The reply links of an area: least elements of sets of its live messages (JAM, "Reply linking").
use Rattle.std.specs.Prelude.{◌≡◌, ℕ, zero, suc, nat_lt, Bool, false, ◌&&◌, ◌==◌, List, All, Option, Some, None, find, map, reverse, bytes_eq, if◌then◌else◌, ◌+◌, ◌≤◌, true, Contains, ◌∷◌, []}
use Rattle.jb_state.specs.Live.{Numbered, live_in}
use Rattle.jb_state.specs.Message.{msgid_of, replyid_of}
use Rattle.jb_state.specs.State.{AreaState, LiveMessage}

-- what the links rest on: a live message's number, its first MSGID and REPLYID, and the ReplyTo that its header keeps
pub record Linkable : Type 0 where
  pub number : ℕ
  pub msgid : Option (List ℕ)
  pub replyid : Option (List ℕ)
  pub kept : ℕ

-- what the links of a live message rest on
abbrev pub linkable : Numbered → Linkable
linkable one = record {
  number = one.number;
  msgid = msgid_of one.message.subfields;
  replyid = replyid_of one.message.subfields;
  kept = one.message.head.reply_to;
}

-- what the links of an area rest on, in rising order of the numbers
abbrev pub linkables_of : AreaState → List Linkable
linkables_of state = map linkable (live_in state)

-- the number of the message, where there is one, or 0
abbrev pub number_or_0 : Option Linkable → ℕ
number_or_0 None = 0
number_or_0 (Some one) = one.number

-- there is an id, and it has these bytes
abbrev pub is_id : List ℕ → Option (List ℕ) → Bool
is_id bytes None = false
is_id bytes (Some id) = bytes_eq id bytes

-- a lower number, and a MSGID of these bytes
abbrev pub is_answered_by : ℕ → List ℕ → Linkable → Bool
is_answered_by number bytes one = nat_lt one.number number && is_id bytes one.msgid

-- a lower number, and that which was kept
abbrev pub is_kept_by : ℕ → ℕ → Linkable → Bool
is_kept_by number kept one = nat_lt one.number number && (one.number == kept)

-- the parent of a message with this number: by its REPLYID, the least lower live number with that MSGID; without one, the
-- ReplyTo that it keeps, where that is lower and live; else 0
abbrev pub parent_for : List Linkable → ℕ → Option (List ℕ) → ℕ → ℕ
parent_for live number (Some bytes) kept = number_or_0 (find (is_answered_by number bytes) live)
parent_for live number None kept = number_or_0 (find (is_kept_by number kept) live)

-- the parent of a live message, or 0
abbrev pub parent_of : List Linkable → Linkable → ℕ
parent_of live one = parent_for live one.number one.replyid one.kept

-- the parent of a live message, where there is one, or 0
abbrev pub parent_or_0 : List Linkable → Option Linkable → ℕ
parent_or_0 live None = 0
parent_or_0 live (Some one) = parent_of live one

-- a reply to this number
abbrev pub is_reply_to : List Linkable → ℕ → Linkable → Bool
is_reply_to live number one = parent_of live one == number

-- a reply to this parent, behind this number
abbrev pub is_next_reply : List Linkable → ℕ → ℕ → Linkable → Bool
is_next_reply live number parent one = nat_lt number one.number && is_reply_to live parent one

-- the least live number whose parent is this one, or 0
abbrev pub first_reply_of : List Linkable → ℕ → ℕ
first_reply_of live number = number_or_0 (find (is_reply_to live number) live)

-- the greatest live number whose parent is this one, or 0
abbrev pub last_reply_of : List Linkable → ℕ → ℕ
last_reply_of live number = number_or_0 (find (is_reply_to live number) (reverse live))

-- the least live number above this one with this parent, or 0; 0 where there is no parent
abbrev pub next_reply_of : List Linkable → ℕ → ℕ → ℕ
next_reply_of live number parent =
    if parent == 0 then 0 else number_or_0 (find (is_next_reply live number parent) live)

-- the parent of the live message with this number, or 0
abbrev pub parent_at : List Linkable → ℕ → ℕ
parent_at live number = parent_or_0 live (find (λ one. one.number == number) live)

-- so many parents up from a number, or fewer where there is no further one
abbrev pub root_within : ℕ → List Linkable → ℕ → ℕ
root_within zero live number = number
root_within (suc steps) live number = if parent_at live number == 0 then number else root_within steps live (parent_at live number)

-- the message with which the thread of this one begins: from parent to parent until there is none
abbrev pub thread_root : List Linkable → ℕ → ℕ
thread_root live number = root_within number live number

-- a live message with these link fields
abbrev pub with_links : ℕ → ℕ → ℕ → LiveMessage → LiveMessage
with_links parent first next message = record message { head = record message.head { reply_to = parent; reply_first = first; reply_next = next } }

-- the link fields are those that the live messages of the area give
pub record HasItsLinks (live : List Linkable) (one : Numbered) : Type 0 where
  pub reply_to : one.message.head.reply_to ≡ parent_of live (linkable one)
  pub reply_first : one.message.head.reply_first ≡ first_reply_of live one.number
  pub reply_next : one.message.head.reply_next ≡ next_reply_of live one.number (parent_of live (linkable one))

-- each live message has the links that the area gives it
abbrev pub IsLinked : AreaState → Type 0
IsLinked state = All (HasItsLinks (linkables_of state)) (live_in state)

-- the numbers rise, none below this one
abbrev pub RisesFrom : ℕ → List Linkable → Type 0
RisesFrom low [] = Unit {0}
RisesFrom low (one ∷ rest) = (low ≤ one.number) × RisesFrom (one.number + 1) rest

-- the live message with the least number of those that pass the test, or none where none passes
abbrev pub IsLeast : (Linkable → Bool) → List Linkable → Option Linkable → Type 0
IsLeast test live None = All (λ one. test one ≡ false) live
IsLeast test live (Some least) =
    Contains live least × (test least ≡ true) × All (λ one. test one ≡ true → least.number ≤ one.number) live

-- the live message with the greatest number of those that pass the test, or none where none passes
abbrev pub IsGreatest : (Linkable → Bool) → List Linkable → Option Linkable → Type 0
IsGreatest test live None = All (λ one. test one ≡ false) live
IsGreatest test live (Some greatest) =
    Contains live greatest × (test greatest ≡ true) × All (λ one. test one ≡ true → one.number ≤ greatest.number) live
