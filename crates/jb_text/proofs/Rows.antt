-- Worked values from outside: the texts of a first session, and dates as other calendars give them.
use Rattle.std.proofs.Common.{◌≡◌, [], ◌∷◌, ◌++◌, length, refl, replicate, pos, neg_ℤ}
use Rattle.std.specs.Fmt.{digits}
use Rattle.std.specs.Prelude.{codes}
use Rattle.jb_text.specs.Date.{clock_of, date_text, month_and_day, year_and_day}
use Rattle.jb_base.specs.declared.area.Rule.TheVariants.{A5, A6}
use Rattle.jb_model.specs.declared.command.Field.TheVariants as field
use Rattle.jb_model.specs.declared.reply.Reply.TheVariants as reply
use Rattle.jb_state.specs.declared.look.SharedFault.TheVariants as fault
use Rattle.jb_text.specs.Faults.{fault_text}
use Rattle.jb_text.specs.Letter.{body_text, heading_text, letter_text, lines_of, pieces_of}
use Rattle.jb_text.specs.Lines.{area_line_text, figures_text, line_end, listing_text, node_full_text, page_line_text, prompt_text, replying_text, start_text, welcome_text}
use Rattle.jb_text.specs.Replies.{reply_text}
use Rattle.jb_text.specs.Shown.{shown}

-- the lines of an area with one message, and of the message
area_lines : (area_line_text 1 (codes "general") 1 ≡ codes "  1  general                      1 unread") × (figures_text 1 1 ≡ codes "1 visible, 1 unread.")
    × (listing_text 1 (codes "Test") (codes "Hello") (codes "abc") ≡ codes "       1  Test > Hello  abc")
unfolding digits
area_lines = (refl, refl, refl)

-- a control character and DEL are shown as `?`, a byte above 127 as it is
controls : shown (0 ∷ 31 ∷ 32 ∷ 126 ∷ 127 ∷ 255 ∷ []) ≡ 63 ∷ 63 ∷ 32 ∷ 126 ∷ 63 ∷ 255 ∷ []
controls = refl

-- an empty piece at the end is dropped, one before it is not
pieces : (pieces_of [] ≡ []) × (pieces_of (13 ∷ []) ≡ [] ∷ []) × (pieces_of (13 ∷ 13 ∷ []) ≡ [] ∷ [] ∷ [])
    × (pieces_of (97 ∷ 13 ∷ 10 ∷ []) ≡ (97 ∷ []) ∷ (10 ∷ []) ∷ [])
pieces = (refl, refl, refl, refl)

-- 79 bytes are one line, 80 are two, none are one
line_lengths : (lines_of [] ≡ [] ∷ []) × (lines_of (replicate 79 97) ≡ replicate 79 97 ∷ []) × (lines_of (replicate 80 97) ≡ replicate 79 97 ∷ (97 ∷ []) ∷ [])
line_lengths = (refl, refl, refl)

-- the text of the message
bodies : (body_text (codes "Good" ++ 13 ∷ []) ≡ codes "Good" ++ line_end) × (body_text (10 ∷ []) ≡ line_end)
bodies = (refl, refl)

-- the beginning of 1970, its first second before it, a leap day, and a moment of 2001 at two offsets
dates : (date_text 0 (pos 0) ≡ codes "1970-01-01 00:00:00") × (date_text 0 (neg_ℤ (pos 840)) ≡ codes "1970-01-01 00:00:00")
    × (date_text 951_868_799 (pos 0) ≡ codes "2000-02-29 23:59:59") × (date_text 1_000_000_000 (pos 0) ≡ codes "2001-09-09 01:46:40")
    × (date_text 1_000_000_000 (pos 120) ≡ codes "2001-09-09 03:46:40")
unfolding date_text clock_of year_and_day month_and_day
dates = (refl, refl, refl, refl, refl)

-- both ends of what is shown, at the ends of the offsets, the turns of years, and days around the end of February
more_dates : (date_text 0 (pos 840) ≡ codes "1970-01-01 14:00:00") × (date_text 50399 (neg_ℤ (pos 840)) ≡ codes "1970-01-01 00:00:00")
    × (date_text 50401 (neg_ℤ (pos 840)) ≡ codes "1970-01-01 00:00:01") × (date_text 31_535_999 (pos 0) ≡ codes "1970-12-31 23:59:59")
    × (date_text 31_536_000 (pos 0) ≡ codes "1971-01-01 00:00:00") × (date_text 951_782_400 (pos 0) ≡ codes "2000-02-29 00:00:00")
    × (date_text 951_868_800 (pos 0) ≡ codes "2000-03-01 00:00:00") × (date_text 1_000_000_000 (neg_ℤ (pos 90)) ≡ codes "2001-09-09 00:16:40")
    × (date_text 1_709_210_096 (pos 0) ≡ codes "2024-02-29 12:34:56") × (date_text 4_107_542_399 (pos 0) ≡ codes "2100-02-28 23:59:59")
    × (date_text 4_107_542_400 (pos 0) ≡ codes "2100-03-01 00:00:00") × (date_text 4_294_967_295 (pos 840) ≡ codes "2106-02-07 20:28:15")
    × (date_text 4_294_967_295 (neg_ℤ (pos 840)) ≡ codes "2106-02-06 16:28:15")
unfolding date_text clock_of year_and_day month_and_day
more_dates = (refl, refl, refl, refl, refl, refl, refl, refl, refl, refl, refl, refl, refl)

-- names and fields that hold control characters, that are long, and that hold nothing
odd_lines : (prompt_text (codes "a" ++ 27 ∷ codes "[2J" ++ 13 ∷ 10 ∷ []) ≡ codes "[a?[2J??] ")
    × (area_line_text 255 (codes "a name of more than 24 bytes") 4294967295 ≡ codes "255  a name of more than 24 bytes4294967295 unread")
    × (listing_text 123456789 [] [] [] ≡ codes "123456789   >   ")
    × (listing_text 12 (65 ∷ 7 ∷ 195 ∷ 169 ∷ []) (31 ∷ 32 ∷ 126 ∷ 127 ∷ []) (0 ∷ 255 ∷ []) ≡ codes "      12  A?" ++ 195 ∷ 169 ∷ codes " > ? ~?  ?" ++ 255 ∷ [])
unfolding digits
odd_lines = (refl, refl, refl, refl)

-- what is said as a session begins and as a message is answered
session_lines : (start_text (codes "Test Board") ≡ codes "Test Board" ++ 13 ∷ 10 ∷ codes "Name: ") × (welcome_text (codes "Hello") ≡ codes "Welcome, Hello.")
    × (figures_text 65000 0 ≡ codes "65000 visible, 0 unread.") × (replying_text (codes "Test") (codes "Re: abc") ≡ codes "Reply to Test, subject Re: abc")
unfolding digits
session_lines = (refl, refl, refl, refl)

-- pages, with control characters and without a text, and a node for which no more fit
lines_of_pages : (page_line_text 1 (codes "hi") ≡ codes "Page from node 1: hi") × (page_line_text 32 (7 ∷ 255 ∷ 127 ∷ []) ≡ codes "Page from node 32: ?" ++ 255 ∷ 63 ∷ [])
    × (page_line_text 10 [] ≡ codes "Page from node 10: ") × (node_full_text 2 ≡ codes "Node 2 is full.")
unfolding digits
lines_of_pages = (refl, refl, refl, refl)

-- replies and refusals with numbers in them, and faults
answer_lines : (reply_text (reply.Posted 2) ≡ codes "Posted as 2.") × (reply_text (reply.Killed 16777215) ≡ codes "Killed 16777215.")
    × (reply_text (reply.Marked 3 5) ≡ codes "Mark is 3, high 5.") × (reply_text (reply.Packed 1 20 300) ≡ codes "Packed: base 1, live 20, dropped 300.")
    × (reply_text (reply.Relinked 0) ≡ codes "Relinked: 0 changed.") × (reply_text (reply.Denied A5) ≡ codes "Denied by rule A5.")
    × (reply_text (reply.TooLong field.Subject 73) ≡ codes "Field Subject too long: 73 bytes.") × (reply_text (reply.EmptyName field.To) ≡ codes "Field To is empty.")
    × (reply_text (reply.SlotsFull 65000) ≡ codes "Area full: 65000 slots.") × (reply_text (reply.NumbersSpent 16777216) ≡ codes "Numbers spent at 16777216.")
    × (reply_text (reply.Edited 1) ≡ codes "Edited 1.") × (reply_text (reply.Denied A6) ≡ codes "Denied by rule A6.")
    × (reply_text (reply.SubfieldsFull 262145) ≡ codes "Subfields full: 262145 bytes.")
    × (fault_text fault.RunSpent ≡ codes "History full.") × (fault_text fault.Barred ≡ codes "Index not open, try again.")
unfolding digits
answer_lines = (refl, refl, refl, refl, refl, refl, refl, refl, refl, refl, refl, refl, refl, refl, refl)

-- line feeds are left out, each carriage return ends a line, and a text of 16,384 bytes without one is shown in 208 lines
more_bodies : (body_text (codes "a" ++ 13 ∷ 10 ∷ codes "b" ++ 13 ∷ 10 ∷ []) ≡ codes "a" ++ line_end ++ codes "b" ++ line_end ++ line_end)
    × (body_text (13 ∷ 97 ∷ 10 ∷ 98 ∷ []) ≡ line_end ++ codes "ab" ++ line_end) × (body_text (13 ∷ 13 ∷ []) ≡ line_end ++ line_end) × (body_text [] ≡ [])
    × (body_text (replicate 78 97 ++ 10 ∷ 98 ∷ 99 ∷ []) ≡ replicate 78 97 ++ 98 ∷ line_end ++ 99 ∷ line_end)
    × (body_text (0 ∷ 31 ∷ 32 ∷ 126 ∷ 127 ∷ 255 ∷ 27 ∷ codes "[2J") ≡ codes "?? ~?" ++ 255 ∷ codes "?[2J" ++ line_end)
    × (length (lines_of (replicate 16384 97)) ≡ 208)
more_bodies = (refl, refl, refl, refl, refl, refl, refl)

-- a message from Test to Hello as it is shown
first_letter : letter_text (record {
  number = 1;
  from = codes "Test";
  to = codes "Hello";
  subject = codes "abc";
  msgid = [];
  reply = [];
  written = 1_000_000_000;
  attribute = 0x00800001;
  reply_to = 0;
  reply_first = 0;
  reply_next = 0;
  text = codes "Good" ++ 13 ∷ [];
}) (pos 0)
    ≡ codes "Message 1" ++ line_end ++ codes "From: Test" ++ line_end ++ codes "To: Hello" ++ line_end ++ codes "Subject: abc" ++ line_end
    ++ codes "Date: 2001-09-09 01:46:40" ++ line_end ++ line_end ++ codes "Good" ++ line_end ++ line_end
unfolding digits heading_text date_text clock_of year_and_day month_and_day
first_letter = refl
