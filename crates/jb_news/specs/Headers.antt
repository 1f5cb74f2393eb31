-- The headers of an article (RFC 5536 section 3, RFC 2045), each with its end.
use Rattle.std.specs.Prelude.{ℕ, ◌==◌, List, [], ◌++◌, codes, if◌then◌else◌}
use Rattle.jb_model.specs.declared.reply.Letter.{Letter}
use Rattle.jb_text.specs.Letter.{heading, line}
use Rattle.jb_news.specs.declared.charset.Charset.{Charset}
use Rattle.jb_news.specs.Charsets.{charset_name, charset_of, field_text, folded, sender_text, whole_name, whole_subject}
use Rattle.jb_news.specs.Dates.{mail_date}
use Rattle.jb_news.specs.Names.{group_text, message_id}

-- the way that it took, and its sender
abbrev pub first_headers : List ℕ → List ℕ
first_headers from = line (codes "Path: jam.invalid!not-for-mail") ++ heading (codes "From: ") (sender_text folded (whole_name from))

-- its group and its id
abbrev pub names_text : ℕ → ℕ → List ℕ
names_text area number = heading (codes "Newsgroups: ") (group_text area) ++ heading (codes "Message-ID: ") (message_id area number)

-- the id of the article that it answers, where it answers one
abbrev pub references_text : ℕ → ℕ → List ℕ
references_text area reply_to = if reply_to == 0 then [] else heading (codes "References: ") (message_id area reply_to)

-- what its body is
abbrev pub mime_headers : Charset → List ℕ
mime_headers charset =
    line (codes "MIME-Version: 1.0") ++ heading (codes "Content-Type: text/plain; charset=") (charset_name charset)
    ++ line (codes "Content-Transfer-Encoding: 8bit")

-- the headers of an article of this area
abbrev pub headers_text : ℕ → Letter → List ℕ
headers_text area letter =
    first_headers letter.from ++ heading (codes "Subject: ") (field_text folded (whole_subject letter.subject))
    ++ heading (codes "Date: ") (mail_date letter.written) ++ names_text area letter.number ++ references_text area letter.reply_to
    ++ heading (codes "X-JAM-To: ") (field_text folded (whole_name letter.to)) ++ mime_headers (charset_of letter.text)
