-- Dates of articles (RFC 5322 section 3.3), and the reading of a clock (RFC 3977 section 7.1), both without an offset.
use Rattle.std.specs.Prelude.{ℕ, ◌==◌, ◌+◌, ◌/◌, ◌%◌, pos, List, ◌++◌, take, drop, codes, bytes_eq, if◌then◌else◌}
use Rattle.jb_text.specs.Date.{date_text}
use Rattle.jb_text.specs.Lines.{line_end}

-- a moment as `2001-09-09 01:46:40`
abbrev pub moment_text : ℕ → List ℕ
moment_text moment = date_text moment (pos 0)

-- so many bytes of it from a place on
abbrev pub part_of : ℕ → ℕ → ℕ → List ℕ
part_of from size moment = take size (drop from (moment_text moment))

-- the name of a day of the week, from Sunday as 0 on
abbrev pub day_name : ℕ → List ℕ
day_name day =
    if day == 0 then codes "Sun"
    else if day == 1 then codes "Mon"
    else if day == 2 then codes "Tue"
    else if day == 3 then codes "Wed"
    else if day == 4 then codes "Thu"
    else if day == 5 then codes "Fri"
    else codes "Sat"

-- the name of a month of two digits
abbrev pub month_name : List ℕ → List ℕ
month_name digits =
    if bytes_eq digits (codes "01") then codes "Jan"
    else if bytes_eq digits (codes "02") then codes "Feb"
    else if bytes_eq digits (codes "03") then codes "Mar"
    else if bytes_eq digits (codes "04") then codes "Apr"
    else if bytes_eq digits (codes "05") then codes "May"
    else if bytes_eq digits (codes "06") then codes "Jun"
    else if bytes_eq digits (codes "07") then codes "Jul"
    else if bytes_eq digits (codes "08") then codes "Aug"
    else if bytes_eq digits (codes "09") then codes "Sep"
    else if bytes_eq digits (codes "10") then codes "Oct"
    else if bytes_eq digits (codes "11") then codes "Nov"
    else codes "Dec"

-- the day of the week of a moment; the first day of 1970 was a Thursday
abbrev pub week_day : ℕ → ℕ
week_day moment = (moment / 86_400 + 4) % 7

-- the day of an article: `Sun, 09 Sep 2001`
abbrev pub day_text : ℕ → List ℕ
day_text moment =
    day_name (week_day moment) ++ codes ", " ++ part_of 8 2 moment ++ codes " " ++ month_name (part_of 5 2 moment) ++ codes " " ++ part_of 0 4 moment

-- the date of an article: `Sun, 09 Sep 2001 01:46:40 +0000`
abbrev pub mail_date : ℕ → List ℕ
mail_date moment = day_text moment ++ codes " " ++ part_of 11 8 moment ++ codes " +0000"

-- the reading of a clock: `111 20010909014640`
abbrev pub clock_line : ℕ → List ℕ
clock_line moment =
    codes "111 " ++ part_of 0 4 moment ++ part_of 5 2 moment ++ part_of 8 2 moment ++ part_of 11 2 moment ++ part_of 14 2 moment ++ part_of 17 2 moment ++ line_end
