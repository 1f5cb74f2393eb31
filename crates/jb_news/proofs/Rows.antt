-- Worked lines and answers.
use Rattle.std.proofs.Common.{◌≡◌, [], ◌∷◌, ◌++◌, refl, replicate, Some}
use Rattle.std.proofs.Math.Utf8.{encode}
use Rattle.std.specs.Fmt.{digits}
use Rattle.std.specs.List.{concat}
use Rattle.std.specs.Prelude.{codes}
use Rattle.std.specs.Str.{chars, is_utf8}
use Rattle.std.specs.Str.Lossy.{utf8_valid_len}
use Rattle.base64.specs.Rfc4648.{encode_symbols}
use Rattle.jb_text.specs.Date.{clock_of, date_text, month_and_day, year_and_day}
use Rattle.jb_text.specs.Letter.{line}
use Rattle.jb_news.specs.declared.command.NewsCommand.TheVariants as command
use Rattle.jb_news.specs.declared.command.OverTarget.TheVariants as over
use Rattle.jb_news.specs.declared.command.Part.TheVariants.{Article, Body, Head, Stat}
use Rattle.jb_news.specs.declared.command.Target.TheVariants as target
use Rattle.jb_news.specs.declared.line.NewsLine.TheVariants.{Line, TooLong}
use Rattle.jb_news.specs.declared.names.GroupName.TheVariants as group
use Rattle.jb_news.specs.Body.{body_text}
use Rattle.jb_news.specs.Commands.{command_of}
use Rattle.jb_news.specs.Dates.{clock_line, mail_date}
use Rattle.jb_news.specs.Groups.{article_line, chosen_line}
use Rattle.jb_news.specs.Headers.{headers_text}
use Rattle.jb_news.specs.Lines.{line_of}
use Rattle.jb_news.specs.Overview.{first_fields, tab}
use Rattle.jb_news.specs.Words.{words_of}

-- a session of a reader
session : (command_of (Line (codes "GROUP jam.1")) ≡ command.Group (group.Number 1)) × (command_of (Line (codes "STAT")) ≡ command.Show Stat target.Current)
    × (command_of (Line (codes "article 2")) ≡ command.Show Article (target.Number 2)) × (command_of (Line (codes "BODY 1")) ≡ command.Show Body (target.Number 1))
    × (command_of (Line (codes "HEAD <1.9@jam.invalid>")) ≡ command.Show Head (target.Id (record { area = 1; number = 9 })))
    × (command_of (Line (codes "QUIT")) ≡ command.Quit)
unfolding words_of digits
session = (refl, refl, refl, refl, refl, refl)

-- other words, zeros before a number, ids that none has, lines without words
odd : (command_of (Line (codes "QUIT now")) ≡ command.Syntax) × (command_of (Line (codes "STAT x")) ≡ command.Syntax)
    × (command_of (Line (codes "STAT 007")) ≡ command.Show Stat (target.Number 7)) × (command_of (Line (codes "STAT 99999999999")) ≡ command.Show Stat (target.Number 2_147_483_648))
    × (command_of (Line (codes "STAT <1.09@jam.invalid>")) ≡ command.Show Stat target.OtherId) × (command_of (Line (codes "GROUP jam.01")) ≡ command.Group group.Other)
    × (command_of (Line (codes "   ")) ≡ command.Unknown) × (command_of TooLong ≡ command.Syntax) × (command_of (Line (codes "MODE stream")) ≡ command.Syntax)
unfolding words_of digits
odd = (refl, refl, refl, refl, refl, refl, refl, refl, refl)

-- ranges, and dates of new groups
ranges : (command_of (Line (codes "OVER 3-")) ≡ command.Over (over.Range (record { first = 3; last = 2_147_483_647 })))
    × (command_of (Line (codes "XOVER 3-5")) ≡ command.Over (over.Range (record { first = 3; last = 5 })))
    × (command_of (Line (codes "OVER 3-2147483648")) ≡ command.Over (over.Range (record { first = 1; last = 0 })))
    × (command_of (Line (codes "OVER <x>")) ≡ command.Over over.Id) × (command_of (Line (codes "OVER -3")) ≡ command.Syntax)
    × (command_of (Line (codes "LISTGROUP jam.2 4")) ≡ command.Listgroup (Some (group.Number 2)) (record { first = 4; last = 4 }))
    × (command_of (Line (codes "NEWGROUPS 20261201 000000 gmt")) ≡ command.Newgroups) × (command_of (Line (codes "NEWGROUPS 261201 0000")) ≡ command.Syntax)
    × (command_of (Line (codes "list active jam.*")) ≡ command.ListActive (Some (codes "jam.*"))) × (command_of (Line (codes "LIST HEADERS")) ≡ command.ListNotKept)
unfolding words_of digits
ranges = (refl, refl, refl, refl, refl, refl, refl, refl, refl, refl)

-- one carriage return is dropped before the length is taken
lengths : (line_of (replicate 510 97 ++ 13 ∷ []) ≡ Line (replicate 510 97)) × (line_of (replicate 511 97) ≡ TooLong) × (line_of (13 ∷ 13 ∷ []) ≡ Line (13 ∷ []))
lengths = (refl, refl, refl)

-- a group with one message and one without, and an article
answers : (chosen_line 1 (record { base = 1; next = 2; visible = 1; unread = 1; last = 0; high = 0 }) ≡ line (codes "211 1 1 1 jam.1"))
    × (chosen_line 1 (record { base = 1; next = 1; visible = 0; unread = 0; last = 0; high = 0 }) ≡ line (codes "211 0 1 0 jam.1"))
    × (article_line Stat 1 1 1 ≡ line (codes "223 1 <1.1@jam.invalid>")) × (article_line Body 1 1 1 ≡ line (codes "222 1 <1.1@jam.invalid>"))
unfolding digits
answers = (refl, refl, refl, refl)

-- the text of a message, and lines that begin with stops
bodies : (body_text (codes "Good" ++ 13 ∷ []) ≡ line (codes "Good")) × (body_text (codes "." ++ 13 ∷ codes "..x") ≡ line (codes "..") ++ line (codes "...x"))
    × (body_text [] ≡ [])
bodies = (refl, refl, refl)

-- a Sunday of 2001, the first day of 1970 and a leap day
dates : (mail_date 1_000_000_000 ≡ codes "Sun, 09 Sep 2001 01:46:40 +0000") × (mail_date 0 ≡ codes "Thu, 01 Jan 1970 00:00:00 +0000")
    × (mail_date 1_709_210_096 ≡ codes "Thu, 29 Feb 2024 12:34:56 +0000") × (clock_line 1_000_000_000 ≡ line (codes "111 20010909014640"))
unfolding date_text clock_of year_and_day month_and_day
dates = (refl, refl, refl, refl)

-- a subject with 35 letters `ü` that was cut in the next
cut_subject : first_fields 5 (codes "a" ++ concat (replicate 35 (195 ∷ 188 ∷ [])) ++ 195 ∷ []) (codes "Ann")
    ≡ codes "5" ++ tab ++ codes "=?UTF-8?B?YcO8w7zDvMO8w7zDvMO8w7zDvMO8w7zDvMO8w7zDvMO8w7zDvMO8?= "
    ++ codes "=?UTF-8?B?w7zDvMO8w7zDvMO8w7zDvMO8w7zDvMO8w7zDvMO8w7w=?=" ++ tab ++ codes "\"Ann\" <board@jam.invalid>"
unfolding digits utf8_valid_len is_utf8 chars encode encode_symbols
cut_subject = refl

-- an article of ASCII with the name `Jörg` of a terminal
name_of_a_terminal : headers_text 1 (record {
  number = 2;
  from = 74 ∷ 148 ∷ codes "rg";
  to = codes "Ann";
  subject = codes "Hi";
  msgid = [];
  reply = [];
  written = 1_000_000_000;
  attribute = 0;
  reply_to = 0;
  reply_first = 0;
  reply_next = 0;
  text = codes "Good";
})
    ≡ line (codes "Path: jam.invalid!not-for-mail") ++ line (codes "From: =?IBM437?B?SpRyZw==?=") ++ line (codes " <board@jam.invalid>") ++ line (codes "Subject: Hi")
    ++ line (codes "Date: Sun, 09 Sep 2001 01:46:40 +0000") ++ line (codes "Newsgroups: jam.1") ++ line (codes "Message-ID: <1.2@jam.invalid>")
    ++ line (codes "X-JAM-To: Ann") ++ line (codes "MIME-Version: 1.0") ++ line (codes "Content-Type: text/plain; charset=UTF-8")
    ++ line (codes "Content-Transfer-Encoding: 8bit")
unfolding digits utf8_valid_len is_utf8 chars encode encode_symbols date_text clock_of year_and_day month_and_day
name_of_a_terminal = refl
