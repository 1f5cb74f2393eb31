-- Worked rows: what the definitions answer, computed.
use Rattle.std.proofs.Common.{◌≡◌, ℕ, ◌+◌, List, [], ◌∷◌, ◌++◌, Option, Some, None, true, false, refl, length, map, replicate, codes, option_to_list, None}
use Rattle.jb_bytes.specs.Crc.{jam_crc_of}
use Rattle.jb_base.specs.declared.area.AreaRules.{AreaRules}
use Rattle.jb_base.specs.declared.area.Kind.TheVariants.{Local}
use Rattle.jb_base.specs.declared.area.Rule.TheVariants.{A1, A2, A4, A5, A6}
use Rattle.jb_base.specs.declared.user.User.{User}
use Rattle.jb_bytes.specs.Subfields.{subfield_bytes}
use Rattle.jb_state.specs.Edited.{with_subject}
use Rattle.jb_state.specs.Links.{linkables_of, thread_root}
use Rattle.jb_state.specs.Live.{Numbered, live_in}
use Rattle.jb_state.specs.Marks.{mark_of, with_mark}
use Rattle.jb_model.specs.Run.{Ran, run_of}
use Rattle.jb_state.specs.State.{AreaState}
use Rattle.jb_state.specs.Tight.{tight_state}
use Rattle.jb_state.specs.Visible.{unread_by}
use Rattle.jb_state.specs.declared.area.Slot.{Slot}
use Rattle.jb_state.specs.declared.area.Slot.TheVariants.{Live}
use Rattle.jb_model.specs.declared.command.Field.TheVariants.{To, Subject, Text}
use Rattle.jb_model.specs.declared.command.Asked.{Asked}
use Rattle.jb_model.specs.declared.command.Command.{Command}
use Rattle.jb_model.specs.declared.command.Command.TheVariants.{Post, Edit, Read, Peek, Kill, SetMark, Pack, Relink}
use Rattle.jb_state.specs.declared.mark.Mark.{Mark}
use Rattle.jb_state.specs.declared.message.Head.{Head}
use Rattle.jb_model.specs.declared.reply.Reply.{Reply}
use Rattle.jb_model.specs.declared.reply.Reply.TheVariants.{Posted, Edited, Text as Shown, Killed, Marked, Packed, Relinked, Denied, NoMessage, NumbersSpent, SlotsFull, SubfieldsFull, HeadersFull, TextFull, EmptyName, TooLong}

-- the rules of an area, and three users of it
abbrev pub general : AreaRules
general = record { ordinal = 1; address = codes "2:5020/1042"; kind = Local; read = 10; post = 10; sysop = 200; slots = 16000 }

abbrev pub test_user : User
test_user = record { name = codes "Test"; id = 7; level = 50 }

abbrev pub hello_user : User
hello_user = record { name = codes "Hello"; id = 8; level = 50 }

abbrev pub sysop_user : User
sysop_user = record { name = codes "Sysop"; id = 9; level = 255 }

-- an area without a slot, from this number on
abbrev pub empty_area : ℕ → AreaState
empty_area base = tight_state (record { base = base; slots = []; marks = [] })

-- a command by this user at 1,000,000,000
abbrev pub by : User → Command → Asked
by user command = record { user = user; moment = 1000000000; command = command }

-- a public post of five bytes, as an answer to a number or to 0
abbrev pub post_to : List ℕ → ℕ → Command
post_to to reply_to = Post to (codes "abc") (0x47 ∷ 0x6F ∷ 0x6F ∷ 0x64 ∷ 0x0D ∷ []) reply_to false

-- a post that answers nothing
abbrev pub post : Command
post = post_to (codes "Hello") 0

-- the run of these commands over an empty area of the base number 1
abbrev pub ran : List Asked → Ran
ran list = run_of general (empty_area 1) list

-- the fields of the message that is posted first
first_message : live_in (ran (by test_user post ∷ [])).state ≡
    (record {
      number = 1;
      message = record {
        owner = 0xC9EF5979;
        head = record {
          reserved = 0;
          times_read = 0;
          msgid_crc = 0xCBD71F53;
          reply_crc = 0xFFFFFFFF;
          reply_to = 0;
          reply_first = 0;
          reply_next = 0;
          written = 1000000000;
          received = 0;
          processed = 0;
          attribute = 0x00800001;
          attribute2 = 0;
          password = 0xFFFFFFFF;
          cost = 0;
        };
        subfields =
            record { id = 2; hi = 0; bytes = codes "Test" } ∷ record { id = 3; hi = 0; bytes = codes "Hello" }
            ∷ record { id = 4; hi = 0; bytes = codes "2:5020/1042 01000001" } ∷ record { id = 6; hi = 0; bytes = codes "abc" } ∷ [];
        text = 0x47 ∷ 0x6F ∷ 0x6F ∷ 0x64 ∷ 0x0D ∷ [];
      };
    } ∷ [])
first_message = refl

-- the lengths of .JHR and .JDT, modcounter and activemsgs
abbrev pub numbers_of : AreaState → List ℕ
numbers_of state = state.headers_len ∷ state.texts_len ∷ state.counter ∷ state.active ∷ []

-- the lengths and the fixed header that it leaves
first_numbers : numbers_of (ran (by test_user post ∷ [])).state ≡ 1164 ∷ 5 ∷ 1 ∷ 1 ∷ []
first_numbers = refl

-- five posts, of which 1, 2 and 4 are killed, a mark at 3, and a pack
abbrev pub killed_and_packed : List Asked
killed_and_packed =
    by test_user post ∷ by test_user post ∷ by test_user post ∷ by test_user post ∷ by test_user post ∷ by test_user (Kill 1)
    ∷ by hello_user (Kill 2) ∷ by sysop_user (Kill 4) ∷ by test_user (SetMark 3) ∷ by sysop_user Pack ∷ by test_user post ∷ []

-- numbers stay, and the next one is behind the last
packed_replies : (ran killed_and_packed).replies ≡
    (Posted 1 ∷ Posted 2 ∷ Posted 3 ∷ Posted 4 ∷ Posted 5 ∷ Killed 1 ∷ Killed 2 ∷ Killed 4 ∷ Marked 3 3 ∷ Packed 3 2 3 ∷ Posted 6 ∷ [])
packed_replies = refl

-- what a reader had not read before the pack is what is not read after it
packed_unread : map (λ (one : Numbered). one.number) (unread_by general test_user (ran killed_and_packed).state) ≡ 5 ∷ 6 ∷ []
packed_unread = refl

-- all that was posted is killed and packed
abbrev pub all_killed : List Asked
all_killed =
    by test_user post ∷ by test_user post ∷ by test_user (SetMark 1) ∷ by test_user (Kill 1) ∷ by test_user (Kill 2)
    ∷ by test_user Pack ∷ by sysop_user Pack ∷ by test_user post ∷ []

-- the base is the next number, and the next post is unread
all_killed_replies : (ran all_killed).replies ≡
    (Posted 1 ∷ Posted 2 ∷ Marked 1 1 ∷ Killed 1 ∷ Killed 2 ∷ Denied A5 ∷ Packed 3 0 2 ∷ Posted 3 ∷ [])
all_killed_replies = refl

-- the slots of that area, and what is unread
all_killed_unread : map (λ (one : Numbered). one.number) (unread_by general test_user (ran all_killed).state) ≡ 3 ∷ []
all_killed_unread = refl

-- above the last number that a message may be posted under there is none
numbers_end : (run_of general (empty_area 16777215) (by test_user post ∷ by test_user post ∷ [])).replies ≡
    (Posted 16777215 ∷ NumbersSpent 16777216 ∷ [])
numbers_end = refl

-- an answer, a kill of it, and a second answer, which is then the first reply
abbrev pub answers : List Asked
answers =
    by test_user post ∷ by test_user (post_to (codes "Test") 1) ∷ by test_user (Kill 2) ∷ by test_user (post_to (codes "Test") 1)
    ∷ by test_user (post_to (codes "Test") 3) ∷ by test_user (post_to (codes "Test") 1) ∷ by sysop_user Relink ∷ []

-- the links of a message
abbrev pub links_of : Numbered → List ℕ
links_of one = one.number ∷ one.message.head.reply_to ∷ one.message.head.reply_first ∷ one.message.head.reply_next ∷ []

-- answers are linked as they are posted, and a relink finds nothing to change
linked_replies : (ran answers).replies ≡ (Posted 1 ∷ Posted 2 ∷ Killed 2 ∷ Posted 3 ∷ Posted 4 ∷ Posted 5 ∷ Relinked 0 ∷ [])
linked_replies = refl

-- number, parent, first reply and next reply of each
linked_fields : map links_of (live_in (ran answers).state) ≡
    ((1 ∷ 0 ∷ 3 ∷ 0 ∷ []) ∷ (3 ∷ 1 ∷ 4 ∷ 5 ∷ []) ∷ (4 ∷ 3 ∷ 0 ∷ 0 ∷ []) ∷ (5 ∷ 1 ∷ 0 ∷ 0 ∷ []) ∷ [])
linked_fields = refl

-- the thread of an answer to an answer begins with the first message
linked_root : thread_root (linkables_of (ran answers).state) 4 ≡ 1
linked_root = refl

-- a message by Hello to all is killed by its sender alone, and a mark is set below the next number alone
refusals : (ran (by hello_user (post_to (codes "All") 0) ∷ by test_user (Kill 1) ∷ by test_user (SetMark 2) ∷ by test_user (SetMark 1)
    ∷ by test_user (SetMark 0) ∷ by test_user (Peek 0) ∷ [])).replies ≡
    (Posted 1 ∷ Denied A4 ∷ NoMessage 2 ∷ Marked 1 1 ∷ Marked 0 1 ∷ NoMessage 0 ∷ [])
refusals = refl

-- a private message is for its sender, its receiver and the sysop
private_replies : (ran (by hello_user (Post (codes "Sysop") [] [] 0 true) ∷ by test_user (Read 1) ∷ by test_user (post_to (codes "Hello") 1)
    ∷ by test_user (Kill 1) ∷ by sysop_user (Kill 1) ∷ by hello_user (Peek 1) ∷ [])).replies ≡
    (Posted 1 ∷ NoMessage 1 ∷ NoMessage 1 ∷ NoMessage 1 ∷ Killed 1 ∷ NoMessage 1 ∷ [])
private_replies = refl

-- the parts of a post, at their greatest lengths and one byte above
abbrev pub lengths : List Asked
lengths =
    by test_user (Post [] [] [] 0 false) ∷ by test_user (Post (replicate 37 65) [] [] 0 false) ∷ by test_user (Post (replicate 36 65) (replicate 73 65) [] 0 false)
    ∷ by test_user (Post (replicate 36 65) (replicate 72 65) (replicate 16385 65) 0 false)
    ∷ by test_user (Post (replicate 36 65) (replicate 72 65) (replicate 16384 65) 0 false) ∷ []

-- each part is refused one byte above its greatest length
length_replies : (ran lengths).replies ≡
    (EmptyName To ∷ TooLong To 37 ∷ TooLong Subject 73 ∷ TooLong Text 16385 ∷ Posted 1 ∷ [])
length_replies = refl

-- a header's fields with this MSGIDcrc, all others 0
abbrev pub head_of : ℕ → Head
head_of msgid_crc = record {
  reserved = 0;
  times_read = 0;
  msgid_crc = msgid_crc;
  reply_crc = 0;
  reply_to = 0;
  reply_first = 0;
  reply_next = 0;
  written = 0;
  received = 0;
  processed = 0;
  attribute = 0;
  attribute2 = 0;
  password = 0;
  cost = 0;
}

-- a message with this MSGID, and with this REPLYID where there is one
abbrev pub with_ids : List ℕ → Option (List ℕ) → Slot
with_ids msgid replyid = Live (record {
  head = head_of (jam_crc_of msgid);
  subfields = record { id = 4; hi = 0; bytes = msgid } ∷ map (λ id. record { id = 5; hi = 0; bytes = id }) (option_to_list replyid);
  text = [];
})

-- an area of these slots, relinked
abbrev pub relinked_twice : List Slot → Ran
relinked_twice slots = run_of general (tight_state (record { base = 1; slots = slots; marks = [] })) (by sysop_user Relink ∷ by sysop_user Relink ∷ [])

-- two MSGIDs of one CRC, and an answer to the second
abbrev pub same_crc : List Slot
same_crc = with_ids (codes "2:1/1 0000000A") None ∷ with_ids (codes "2:1/1 0000000a") None ∷ with_ids (codes "2:1/1 0000000b") (Some (codes "2:1/1 0000000a")) ∷ []

-- the CRC does not tell them apart
same_crc_is : jam_crc_of (codes "2:1/1 0000000A") ≡ jam_crc_of (codes "2:1/1 0000000a")
same_crc_is = refl

-- the answer is linked by the bytes; once links are written, none is wrong
same_crc_links : map links_of (live_in (relinked_twice same_crc).state) ≡ ((1 ∷ 0 ∷ 0 ∷ 0 ∷ []) ∷ (2 ∷ 0 ∷ 3 ∷ 0 ∷ []) ∷ (3 ∷ 2 ∷ 0 ∷ 0 ∷ []) ∷ [])
same_crc_links = refl

-- two messages changed, and then none
same_crc_replies : (relinked_twice same_crc).replies ≡ Relinked 2 ∷ Relinked 0 ∷ []
same_crc_replies = refl

-- an answer to a message of which the MSGID has so many bytes
abbrev pub answer_to_long : ℕ → List Numbered
answer_to_long len =
    live_in (run_of general (tight_state (record { base = 1; slots = with_ids (replicate len 65) None ∷ []; marks = [] })) (by test_user (post_to (codes "All") 1) ∷ [])).state

-- how many subfields a message has, and its parent
abbrev pub fields_and_parent : Numbered → List ℕ
fields_and_parent one = length one.message.subfields ∷ one.message.head.reply_to ∷ []

-- a MSGID of 4,096 bytes is copied, and a longer one is not; the answer is linked in either case
long_id_copied : map fields_and_parent (answer_to_long 4096) ≡ (1 ∷ 0 ∷ []) ∷ (5 ∷ 1 ∷ []) ∷ []
long_id_copied = refl

-- one of 4,097 bytes
long_id_left_out : map fields_and_parent (answer_to_long 4097) ≡ (1 ∷ 0 ∷ []) ∷ (4 ∷ 1 ∷ []) ∷ []
long_id_left_out = refl

-- a mark: the CRC of the user's name, the user's number, the message read last and the highest one read
abbrev pub marked : ℕ → ℕ → ℕ → ℕ → Mark
marked user_crc user_id last high = record { user_crc = user_crc; user_id = user_id; last = last; high = high }

-- marks of Test, of two users of the name Hello, and a second one of a pair twice
abbrev pub some_marks : List Mark
some_marks =
    marked 0x278081F3 7 1 1 ∷ marked 0xC9EF5979 7 2 2 ∷ marked 0xC9EF5979 8 3 3 ∷ marked 0xC9EF5979 7 4 4 ∷ marked 0x278081F3 7 5 5 ∷ []

-- the first mark of a pair is the user's; a set changes it where it stands, and puts that of a new pair behind the others
mark_rows : (mark_of 0x278081F3 7 some_marks ≡ Some (marked 0x278081F3 7 1 1)) × (mark_of 0xC9EF5979 7 some_marks ≡ Some (marked 0xC9EF5979 7 2 2))
    × (mark_of 0x278081F3 8 some_marks ≡ None) × (mark_of 0 0 some_marks ≡ None)
    × (with_mark (marked 0xC9EF5979 7 0 2) some_marks ≡
    marked 0x278081F3 7 1 1 ∷ marked 0xC9EF5979 7 0 2 ∷ marked 0xC9EF5979 8 3 3 ∷ marked 0xC9EF5979 7 4 4 ∷ marked 0x278081F3 7 5 5 ∷ [])
    × (with_mark (marked 0 4294967295 9 9) some_marks ≡ some_marks ++ marked 0 4294967295 9 9 ∷ [])
mark_rows = (refl, refl, refl, refl, refl, refl)

-- a message, a reading by its sender, a look, and a reading by its receiver
abbrev pub readings : Ran
readings = ran (by test_user post ∷ by test_user (Read 1) ∷ by test_user (Peek 1) ∷ by hello_user (Read 1) ∷ [])

-- the message as it is shown, with this attribute
abbrev pub shown_with : ℕ → Reply
shown_with attribute = Shown (record {
  number = 1;
  from = codes "Test";
  to = codes "Hello";
  subject = codes "abc";
  msgid = codes "2:5020/1042 01000001";
  reply = [];
  written = 1000000000;
  attribute = attribute;
  reply_to = 0;
  reply_first = 0;
  reply_next = 0;
  text = 0x47 ∷ 0x6F ∷ 0x6F ∷ 0x64 ∷ 0x0D ∷ [];
})

-- a reading is shown with the marks that it sets
reading_replies : readings.replies ≡ Posted 1 ∷ shown_with 0x00800001 ∷ shown_with 0x00800001 ∷ shown_with 0x00800009 ∷ []
reading_replies = refl

-- how often a message was read, when its receiver got it, and its attribute
abbrev pub read_fields : Numbered → List ℕ
read_fields one = one.message.head.times_read ∷ one.message.head.received ∷ one.message.head.attribute ∷ []

-- readings are counted, and the receiver's is dated
reading_fields : map read_fields (live_in readings.state) ≡ (2 ∷ 1000000000 ∷ 0x00800009 ∷ []) ∷ []
reading_fields = refl

-- two answers to a message, of which the first is killed
abbrev pub two_answers : Ran
two_answers = ran (by test_user post ∷ by test_user (post_to (codes "Hello") 1) ∷ by test_user (post_to (codes "Hello") 1) ∷ [])

-- their CRCs, those of the MSGID that they answer, and the lengths of the files
answer_crcs : (map (λ (one : Numbered). one.message.head.msgid_crc ∷ one.message.head.reply_crc ∷ []) (live_in two_answers.state) ≡
    (3419873107 ∷ 4294967295 ∷ []) ∷ (1390300905 ∷ 3419873107 ∷ []) ∷ (635010687 ∷ 3419873107 ∷ []) ∷ []) × (two_answers.state.headers_len ≡ 1024 + 140 + 168 + 168)
answer_crcs = (refl, refl)

-- a relink after a kill changes the one message that named the killed one
relinked_after_kill : (run_of general two_answers.state (by sysop_user Relink ∷ by test_user (Kill 2) ∷ by sysop_user Relink ∷ [])).replies ≡ Relinked 0 ∷ Killed 2 ∷ Relinked 1 ∷ []
relinked_after_kill = refl

-- an area whose next number is this one, with files of these lengths
abbrev pub almost_full : ℕ → ℕ → ℕ → AreaState
almost_full base headers_len texts_len = record (empty_area base) { headers_len = headers_len; texts_len = texts_len }

-- the reply to a post of the greatest lengths there
abbrev pub greatest_post_in : ℕ → ℕ → ℕ → List Reply
greatest_post_in base headers_len texts_len =
    (run_of general (almost_full base headers_len texts_len) (by test_user (Post (replicate 36 97) (replicate 72 97) (replicate 16384 97) 0 true) ∷ [])).replies

-- a post that just fits the files and the numbers, and one number or byte more
full_replies : (greatest_post_in 16777215 536870672 1073725440 ≡ Posted 16777215 ∷ []) × (greatest_post_in 16777216 536870912 1073725440 ≡ NumbersSpent 16777216 ∷ [])
    × (greatest_post_in 16777215 536870673 1073741824 ≡ HeadersFull 536870913 ∷ []) × (greatest_post_in 16777215 536870672 1073725441 ≡ TextFull 1073741825 ∷ [])
full_replies = (refl, refl, refl, refl)

-- an area with one slot, where 10 reads, 20 posts and 200 is the sysop
abbrev pub one_slot : AreaRules
one_slot = record { ordinal = 1; address = codes "2:5020/1042"; kind = Local; read = 10; post = 20; sysop = 200; slots = 1 }

-- a user of this name and level
abbrev pub named : List ℕ → ℕ → User
named name level = record { name = name; id = 7; level = level }

-- the only slot is taken, and levels one below those that read, post and tend
one_slot_replies : (run_of one_slot (empty_area 1) (
    by (named (codes "Test") 9) post ∷ by (named (codes "Test") 19) post ∷ by (named (codes "Test") 20) post ∷ by (named (codes "Test") 20) post
    ∷ by (named (codes "Other") 199) (Kill 1) ∷ by (named (codes "Other") 199) Relink ∷ by (named (codes "Other") 200) (Kill 1) ∷ [])).replies ≡
    Denied A1 ∷ Denied A2 ∷ Posted 1 ∷ SlotsFull 1 ∷ Denied A4 ∷ Denied A5 ∷ Killed 1 ∷ []
one_slot_replies = refl

-- where a MSGID is too long to be copied, an answer is linked by the number that it keeps, and a second one behind a kill likewise
long_id_links : map links_of (live_in (run_of general (tight_state (record { base = 1; slots = with_ids (replicate 4097 97) None ∷ []; marks = [] })) (
    by sysop_user (post_to (codes "Hello") 1) ∷ by sysop_user (post_to (codes "Hello") 2) ∷ by sysop_user (Kill 2) ∷ by sysop_user (post_to (codes "Hello") 1) ∷ [])).state) ≡
    (1 ∷ 0 ∷ 4 ∷ 0 ∷ []) ∷ (3 ∷ 2 ∷ 0 ∷ 0 ∷ []) ∷ (4 ∷ 1 ∷ 0 ∷ 0 ∷ []) ∷ []
long_id_links = refl

-- a post, and an edit of it by its sender
abbrev pub edits : Ran
edits = ran (by test_user post ∷ by test_user (Edit 1 (codes "abcd") (0x42 ∷ 0x79 ∷ 0x65 ∷ 0x0D ∷ [])) ∷ [])

-- header and text come behind the old ones: 141 bytes behind 1,164, and 4 behind 5; a pack leaves 1,024 and 141, and 4
edit_lengths : (edits.replies ≡ Posted 1 ∷ Edited 1 ∷ []) × (numbers_of edits.state ≡ 1305 ∷ 9 ∷ 2 ∷ 1 ∷ [])
    × (numbers_of (run_of general edits.state (by sysop_user Pack ∷ [])).state ≡ 1165 ∷ 4 ∷ 3 ∷ 1 ∷ [])
    × (map (λ (one : Numbered). length (subfield_bytes one.message.subfields)) (live_in edits.state) ≡ 65 ∷ [])
edit_lengths = (refl, refl, refl, refl)

-- only the sender and the sysop edit, each part is refused one byte above its greatest length, and the subject is measured first
edit_refusals : (ran (by test_user post ∷ by (record { name = codes "Test"; id = 7; level = 9 }) (Edit 1 [] []) ∷ by test_user (Edit 2 (replicate 73 65) []) ∷ by hello_user (Edit 1 (replicate 73 65) [])
    ∷ by test_user (Edit 1 (replicate 73 65) (replicate 16385 65)) ∷ by test_user (Edit 1 (replicate 72 65) (replicate 16385 65))
    ∷ by test_user (Edit 1 (replicate 72 65) (replicate 16384 65)) ∷ by sysop_user (Edit 1 [] []) ∷ by test_user (Kill 1) ∷ by test_user (Edit 1 [] []) ∷ [])).replies ≡
    (Posted 1 ∷ Denied A1 ∷ NoMessage 2 ∷ Denied A6 ∷ TooLong Subject 73 ∷ TooLong Text 16385 ∷ Edited 1 ∷ Edited 1 ∷ Killed 1 ∷ NoMessage 1 ∷ [])
edit_refusals = refl

-- the first subject is the new one and keeps its HiID; without one, it goes last
subject_rows : (with_subject (codes "new") (record { id = 2; hi = 0; bytes = codes "A" } ∷ record { id = 6; hi = 7; bytes = codes "old" } ∷ record { id = 6; hi = 0; bytes = codes "second" } ∷ [])
    ≡ record { id = 2; hi = 0; bytes = codes "A" } ∷ record { id = 6; hi = 7; bytes = codes "new" } ∷ record { id = 6; hi = 0; bytes = codes "second" } ∷ [])
    × (with_subject [] (record { id = 2; hi = 3; bytes = codes "A" } ∷ []) ≡ record { id = 2; hi = 3; bytes = codes "A" } ∷ record { id = 6; hi = 0; bytes = [] } ∷ [])
subject_rows = (refl, refl)

-- the reply to an edit that keeps the lengths of the message's parts, in files of these lengths
abbrev pub edit_in : ℕ → ℕ → List Reply
edit_in headers_len texts_len =
    (run_of general (record (ran (by test_user post ∷ [])).state { headers_len = headers_len; texts_len = texts_len }) (by test_user (Edit 1 (codes "xyz") (replicate 5 65)) ∷ [])).replies

-- an edit that just fits the files, and one byte more
edit_full : (edit_in 536870772 1073741819 ≡ Edited 1 ∷ []) × (edit_in 536870773 1073741820 ≡ HeadersFull 536870913 ∷ [])
    × (edit_in 536870772 1073741820 ≡ TextFull 1073741825 ∷ [])
edit_full = (refl, refl, refl)

-- a message with a kludge of so many bytes and no subject
abbrev pub with_kludge : ℕ → Slot
with_kludge len = Live (record { head = head_of 0; subfields = record { id = 2000; hi = 0; bytes = replicate len 65 } ∷ []; text = [] })

-- the reply to an edit of it with this subject
abbrev pub edit_of_kludge : ℕ → List ℕ → List Reply
edit_of_kludge len subject =
    (run_of general (tight_state (record { base = 1; slots = with_kludge len ∷ []; marks = [] })) (by sysop_user (Edit 1 subject []) ∷ [])).replies

-- 262,128 bytes, two heads of 8 and an empty subject are the 262,144 that a header may have; one byte more is refused
kludge_rows : (edit_of_kludge 262128 [] ≡ Edited 1 ∷ []) × (edit_of_kludge 262128 (codes "a") ≡ SubfieldsFull 262145 ∷ [])
kludge_rows = (refl, refl)

-- a message whose subject has 100 bytes
abbrev pub long_subject : Slot
long_subject = Live (record { head = head_of 0; subfields = record { id = 6; hi = 0; bytes = replicate 100 65 } ∷ []; text = [] })

-- a subject that a message has already is taken however long it is, and another one of 73 bytes is not
kept_subject : (run_of general (tight_state (record { base = 1; slots = long_subject ∷ []; marks = [] }))
    (by sysop_user (Edit 1 (replicate 100 65) (codes "x")) ∷ by sysop_user (Edit 1 (replicate 73 65) []) ∷ by sysop_user (Edit 1 (replicate 72 65) []) ∷ [])).replies
    ≡ Edited 1 ∷ TooLong Subject 73 ∷ Edited 1 ∷ []
kept_subject = refl
