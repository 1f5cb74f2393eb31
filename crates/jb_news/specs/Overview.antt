-- The line of an article in an overview (RFC 3977 section 8.3.2), of what a list of messages tells.
use Rattle.std.specs.Prelude.{ℕ, ◌==◌, List, [], ◌∷◌, ◌++◌, codes, decimal, if◌then◌else◌}
use Rattle.jb_state.specs.declared.summary.Summary.{Summary}
use Rattle.jb_state.specs.Short.{kept_of}
use Rattle.jb_text.specs.Lines.{line_end}
use Rattle.jb_news.specs.Charsets.{field_text, sender_text, whole_name, whole_subject}
use Rattle.jb_news.specs.Dates.{mail_date}
use Rattle.jb_news.specs.Names.{message_id}

-- what stands between fields
abbrev pub tab : List ℕ
tab = 9 ∷ []

-- number, subject and sender, on one line
abbrev pub first_fields : ℕ → List ℕ → List ℕ → List ℕ
first_fields number subject from =
    decimal number ++ tab ++ field_text (codes " ") (whole_subject subject) ++ tab ++ sender_text (codes " ") (whole_name from)

-- the id of the article that it answers, where it answers one
abbrev pub answered_id : ℕ → ℕ → List ℕ
answered_id area parent = if parent == 0 then [] else message_id area parent

-- two fields that are empty, and the end of the line
abbrev pub two_ends : List ℕ
two_ends = tab ++ tab ++ line_end

-- date, id, what it answers, and two fields that are empty
abbrev pub last_fields : ℕ → ℕ → ℕ → ℕ → List ℕ
last_fields area number moment parent = tab ++ mail_date moment ++ tab ++ message_id area number ++ tab ++ answered_id area parent ++ two_ends

-- the line of an article of this area
abbrev pub overview_line : ℕ → Summary → List ℕ
overview_line area summary =
    first_fields summary.number (kept_of 72 summary.subject) (kept_of 36 summary.from) ++ last_fields area summary.number summary.written summary.parent
