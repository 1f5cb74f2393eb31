-- Questions about small areas with the answers that the rules of access, the JAM proposal ("Reply linking", "Lastread file") and the
-- words of the questions give, by hand.
use Rattle.std.proofs.Common.{◌≡◌, ℕ, List, [], ◌∷◌, ◌++◌, Option, Some, None, map, codes, replicate, take, refl}
use Rattle.jb_base.specs.declared.area.AreaRules.{AreaRules}
use Rattle.jb_base.specs.declared.area.Kind.TheVariants.{Local}
use Rattle.jb_base.specs.declared.user.User.{User}
use Rattle.jb_bytes.specs.declared.subfield.Subfield.{Subfield}
use Rattle.jb_bytes.specs.declared.subfield.TheConstants.{RECEIVER_NAME, SENDER_NAME, SUBJECT}
use Rattle.jb_index.specs.Answer.{answer_to, first_from, listed_to, received_by, thread_to, unread_to}
use Rattle.jb_index.specs.Change.{edits_of_kill}
use Rattle.jb_index.specs.Edit.{absorbed}
use Rattle.jb_index.specs.Index.{AreaIndex, summary_with}
use Rattle.jb_index.specs.declared.op.OpEdit.TheVariants.{Drop, Parent, Put, Subject}
use Rattle.jb_state.specs.Links.{Linkable}
use Rattle.jb_state.specs.Short.{short_of}
use Rattle.jb_state.specs.declared.look.Answer.TheVariants.{Figures as Counted}
use Rattle.jb_state.specs.declared.look.Question.TheVariants.{Figures as Counting}
use Rattle.jb_state.specs.declared.mark.Mark.{Mark}
use Rattle.jb_state.specs.declared.message.Head.{Head}
use Rattle.jb_state.specs.declared.summary.Summary.{Summary}

-- an area that level 10 reads and level 90 tends
abbrev rules : AreaRules
rules = record { ordinal = 1; address = codes "2:5020/1042"; kind = Local; read = 10; post = 10; sysop = 90; slots = 1000 }

-- a user of this name, number and level
abbrev user : List ℕ → ℕ → ℕ → User
user name id level = record { name = name; id = id; level = level }

-- a message from one to another, with this attribute and this parent
abbrev one : ℕ → List ℕ → List ℕ → ℕ → ℕ → Summary
one number from to attribute parent = record {
  number = number;
  from = short_of 36 from;
  to = short_of 36 to;
  subject = short_of 72 (codes "abc");
  written = 1000000000;
  attribute = attribute;
  parent = parent;
}

-- the index of these messages and marks
abbrev index : ℕ → ℕ → List Summary → List Mark → AreaIndex
index base next summaries marks = record { summaries = summaries; marks = marks; base = base; next = next; rules = rules }

-- the numbers of messages
abbrev numbers : List Summary → List ℕ
numbers summaries = map (λ (one : Summary). one.number) summaries

-- five public messages in two threads
abbrev five : List Summary
five = one 5 (codes "Test") (codes "Hello") 1 0 ∷ one 6 (codes "Hello") (codes "All") 1 5 ∷ one 7 (codes "Test") (codes "hello") 1 6
    ∷ one 8 (codes "Other") (codes "All") 1 0 ∷ one 9 (codes "Test") (codes "HELLO") 1 8 ∷ []

-- a number of the user is that of the first mark of the pair; names are the same in any case
abbrev marks : List Mark
marks = record { user_crc = 0xC9EF5979; user_id = 8; last = 9; high = 9 } ∷ record { user_crc = 0xC9EF5979; user_id = 7; last = 6; high = 8 }
    ∷ record { user_crc = 0xC9EF5979; user_id = 7; last = 9; high = 9 } ∷ []

abbrev hello : User
hello = user (codes "Hello") 7 20

-- what is listed from a number on
listed : map numbers (first_from 0 3 (listed_to (index 5 10 five []) hello) ∷ first_from 6 2 (listed_to (index 5 10 five []) hello)
    ∷ first_from 9 10 (listed_to (index 5 10 five []) hello) ∷ first_from 10 10 (listed_to (index 5 10 five []) hello) ∷ first_from 0 0 (listed_to (index 5 10 five []) hello) ∷ [])
    ≡ (5 ∷ 6 ∷ 7 ∷ []) ∷ (6 ∷ 7 ∷ []) ∷ (9 ∷ []) ∷ [] ∷ [] ∷ []
listed = refl

-- what the user received, and what is unread, without a mark and with one
of_the_user : (numbers (received_by (index 5 10 five []) hello) ≡ 5 ∷ 7 ∷ 9 ∷ []) × (numbers (unread_to (index 5 10 five []) hello) ≡ 5 ∷ 6 ∷ 7 ∷ 8 ∷ 9 ∷ [])
    × (numbers (unread_to (index 5 10 five marks) hello) ≡ 7 ∷ 8 ∷ 9 ∷ []) × (numbers (unread_to (index 5 10 five marks) (user (codes "hELLO") 9 20)) ≡ 5 ∷ 6 ∷ 7 ∷ 8 ∷ 9 ∷ [])
of_the_user = (refl, refl, refl, refl)

-- the figures, without a mark and with one
figures : (answer_to (index 5 10 five []) hello Counting ≡ Counted (record { base = 5; next = 10; visible = 5; unread = 5; last = 0; high = 0 }))
    × (answer_to (index 5 10 five marks) hello Counting ≡ Counted (record { base = 5; next = 10; visible = 5; unread = 3; last = 6; high = 8 }))
    × (answer_to (index 1 1 [] []) hello Counting ≡ Counted (record { base = 1; next = 1; visible = 0; unread = 0; last = 0; high = 0 }))
figures = (refl, refl, refl)

-- the threads of these numbers, of which some are none of the area's
abbrev threads : AreaIndex → User → List ℕ → List (List ℕ)
threads of asker asked = map (λ number. numbers (thread_to of asker number)) asked

five_threads : threads (index 5 10 five []) hello (5 ∷ 7 ∷ 8 ∷ 4 ∷ 10 ∷ 0 ∷ []) ≡ (5 ∷ 6 ∷ 7 ∷ []) ∷ (5 ∷ 6 ∷ 7 ∷ []) ∷ (8 ∷ 9 ∷ []) ∷ [] ∷ [] ∷ [] ∷ []
five_threads = refl

-- a thread in which a message is private and one is not to be shown
abbrev hidden : List Summary
hidden = one 1 (codes "Test") (codes "Hello") 5 0 ∷ one 2 (codes "Other") (codes "All") 1 1 ∷ one 3 (codes "Test") (codes "All") 0x20000001 2
    ∷ one 4 (codes "Hello") (codes "Test") 1 3 ∷ one 5 (codes "Other") (codes "Third") 5 4 ∷ []

-- what this user sees, and what there is to that user
abbrev seen_by : User → List (List ℕ)
seen_by asker = numbers (listed_to (index 1 6 hidden []) asker) ∷ numbers (received_by (index 1 6 hidden []) asker) ∷ []

-- parties see what is private, the sysop sees all, and below the level that reads nothing is seen
seen : (map seen_by (hello ∷ user (codes "Guest") 1 20 ∷ user (codes "third") 1 20 ∷ user (codes "Test") 1 20 ∷ [])
    ≡ ((1 ∷ 2 ∷ 4 ∷ []) ∷ (1 ∷ []) ∷ []) ∷ ((2 ∷ 4 ∷ []) ∷ [] ∷ []) ∷ ((2 ∷ 4 ∷ 5 ∷ []) ∷ (5 ∷ []) ∷ []) ∷ ((1 ∷ 2 ∷ 4 ∷ []) ∷ (4 ∷ []) ∷ []) ∷ [])
    × (map (λ level. numbers (listed_to (index 1 6 hidden []) (user (codes "Boss") 1 level))) (9 ∷ 10 ∷ 89 ∷ 90 ∷ []) ≡ [] ∷ (2 ∷ 4 ∷ []) ∷ (2 ∷ 4 ∷ []) ∷ (1 ∷ 2 ∷ 3 ∷ 4 ∷ 5 ∷ []) ∷ [])
seen = (refl, refl)

-- a thread goes through what is hidden, and is none where the message that is asked for is
hidden_threads : (threads (index 1 6 hidden []) hello (4 ∷ 3 ∷ 5 ∷ []) ≡ (1 ∷ 2 ∷ 4 ∷ []) ∷ [] ∷ [] ∷ [])
    × (threads (index 1 6 hidden []) (user (codes "Guest") 1 20) (2 ∷ 1 ∷ []) ≡ (2 ∷ 4 ∷ []) ∷ [] ∷ [])
hidden_threads = (refl, refl)

-- the ids by which these five answer one another
abbrev answering : ℕ → List ℕ → Option (List ℕ) → Linkable
answering number msgid replyid = record { number = number; msgid = Some msgid; replyid = replyid; kept = 0 }

abbrev chain : List Linkable
chain = answering 1 (codes "a") None ∷ answering 2 (codes "b") (Some (codes "a")) ∷ answering 3 (codes "c") (Some (codes "b")) ∷ answering 4 (codes "d") (Some (codes "c"))
    ∷ answering 5 (codes "e") (Some (codes "d")) ∷ []

-- a killed message is in no list, and its replies by id have no parent
killed : (edits_of_kill chain 2 ≡ Drop 2 ∷ Parent 3 0 ∷ [])
    × (threads (absorbed (index 1 6 hidden []) (Drop 2 ∷ Parent 3 0 ∷ [])) (user (codes "Boss") 1 90) (1 ∷ 3 ∷ 5 ∷ 2 ∷ []) ≡ (1 ∷ []) ∷ (3 ∷ 4 ∷ 5 ∷ []) ∷ (3 ∷ 4 ∷ 5 ∷ []) ∷ [] ∷ [])
killed = (refl, refl)

-- a name of 36 bytes, and one byte more
abbrev longest : List ℕ
longest = codes "abcdefghijklmnopqrstuvwxyz0123456789"

abbrev longer : List ℕ
longer = longest ++ codes "x"

-- private messages of both, and of nobody
abbrev long_names : List Summary
long_names = one 1 longest (codes "Hello") 5 0 ∷ one 2 longer (codes "Hello") 5 0 ∷ one 3 [] [] 5 0 ∷ one 4 (codes "Hello") longer 1 0 ∷ []

-- a name of 36 bytes is a party, a longer one is nobody's; without a name nobody is
parties : map (λ asker. numbers (listed_to (index 1 5 long_names []) asker) ∷ numbers (received_by (index 1 5 long_names []) asker) ∷ [])
    (user (codes "ABCDEFGHIJKLMNOPQRSTUVWXYZ0123456789") 1 20 ∷ user longer 1 20 ∷ hello ∷ [])
    ≡ ((1 ∷ 4 ∷ []) ∷ [] ∷ []) ∷ ((4 ∷ []) ∷ [] ∷ []) ∷ ((1 ∷ 2 ∷ 4 ∷ []) ∷ (1 ∷ 2 ∷ []) ∷ []) ∷ []
parties = refl

-- what is kept of a name and of a subject, and their whole lengths
kept : (short_of 36 longer ≡ record { first = longest; length = 37 }) × (short_of 72 (replicate 80 97) ≡ record { first = replicate 72 97; length = 80 })
    × (short_of 36 [] ≡ record { first = replicate 36 0; length = 0 })
kept = (refl, refl, refl)

-- the header of a public message of the same time
abbrev head : Head
head = record {
  reserved = 0;
  times_read = 0;
  msgid_crc = 0xFFFFFFFF;
  reply_crc = 0xFFFFFFFF;
  reply_to = 0;
  reply_first = 0;
  reply_next = 0;
  written = 1000000000;
  received = 0;
  processed = 0;
  attribute = 1;
  attribute2 = 0;
  password = 0xFFFFFFFF;
  cost = 0;
}

-- a letter to another with this subject
abbrev letter : List ℕ → List ℕ → List ℕ → List Subfield
letter from to subject =
    record { id = SENDER_NAME; hi = 0; bytes = from } ∷ record { id = RECEIVER_NAME; hi = 0; bytes = to } ∷ record { id = SUBJECT; hi = 0; bytes = subject } ∷ []

-- a subject that is replaced is another in its own summary alone; of one of 80 bytes the same is kept as of a letter that is posted with it
replaced : (absorbed (index 5 10 five []) (Subject 9 (short_of 72 (codes "abcd")) ∷ [])
    ≡ index 5 10 (take 4 five ++ record (one 9 (codes "Test") (codes "HELLO") 1 8) { subject = short_of 72 (codes "abcd") } ∷ []) [])
    × (absorbed (index 5 10 five []) (Subject 4 (short_of 72 (codes "abcd")) ∷ []) ≡ index 5 10 five [])
    × (absorbed (index 5 6 (one 5 (codes "Test") (codes "Hello") 1 0 ∷ []) []) (Subject 5 (short_of 72 (replicate 80 97)) ∷ [])
    ≡ index 5 6 (record (one 5 (codes "Test") (codes "Hello") 1 0) { subject = record { first = replicate 72 97; length = 80 } } ∷ []) [])
    × (absorbed (index 5 5 [] []) (Put (summary_with 5 head (letter (codes "Test") (codes "Hello") (replicate 80 97)) 0) ∷ [])
    ≡ absorbed (index 5 6 (one 5 (codes "Test") (codes "Hello") 1 0 ∷ []) []) (Subject 5 (short_of 72 (replicate 80 97)) ∷ []))
replaced = (refl, refl, refl, refl)
