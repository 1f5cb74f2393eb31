-- The date and time of a moment: the calendar is the one of ISO 8601, and a day has 86,400 seconds.
use Rattle.std.specs.Prelude.{◌≡◌, ℕ, zero, suc, ◌+◌, ◌-◌, ◌*◌, ◌/◌, ◌%◌, ◌<◌, nat_lt, ℤ, pos, negsuc, ◌+ℤ◌, ◌*ℤ◌, List, [], ◌∷◌, ◌++◌, codes, if◌then◌else◌}
use Rattle.jb_text.specs.declared.dates.Clock.{Clock}
use Rattle.jiff_core.specs.Calendar.{IsCivilDate, days_in_month, days_in_year, days_from_civil}

-- a number, and 0 in place of one below
abbrev pub at_least_zero : ℤ → ℕ
at_least_zero (pos n) = n
at_least_zero (negsuc n) = 0

-- the seconds since 1970 that are shown: the moment, and so many minutes more
abbrev pub shown_seconds : ℕ → ℤ → ℕ
shown_seconds moment offset = at_least_zero (pos moment +ℤ offset *ℤ pos 60)

-- the year of a day and its place there, from 0, from so many days after the first of a year on
unfoldable pub year_and_day : ℕ → ℕ → ℕ → ℕ × ℕ
year_and_day zero year days = (year, days)
year_and_day (suc years) year days =
    if nat_lt days (days_in_year (pos year)) then (year, days)
    else year_and_day years (year + 1) (days - days_in_year (pos year))

-- the month of a day and its place there, from 0, the same way
unfoldable pub month_and_day : ℕ → ℕ → ℕ → ℕ → ℕ × ℕ
month_and_day zero year month days = (month, days)
month_and_day (suc months) year month days =
    if nat_lt days (days_in_month (pos year) month) then (month, days)
    else month_and_day months year (month + 1) (days - days_in_month (pos year) month)

-- the year of the day that is so many days after 1 January 1970, and its place there; no year has fewer than 365 days
abbrev pub year_of_day : ℕ → ℕ × ℕ
year_of_day days = year_and_day (days / 365) 1970 days

-- what a clock shows so many seconds after the beginning of 1970
unfoldable pub clock_of : ℕ → Clock
clock_of seconds =
    let in_year = year_of_day (seconds / 86_400) in
    let in_month = month_and_day 11 in_year.0 1 in_year.1 in
    record {
      year = in_year.0;
      month = in_month.0;
      day = in_month.1 + 1;
      hour = seconds % 86_400 / 3600;
      minute = seconds % 3600 / 60;
      second = seconds % 60;
    }

-- the calendar and a clock have it, and it is so many seconds after the beginning of 1970
pub record IsClockOf (seconds : ℕ) (clock : Clock) : Type 0 where
  pub date : IsCivilDate (pos clock.year) clock.month clock.day
  pub hour : clock.hour < 24
  pub minute : clock.minute < 60
  pub second : clock.second < 60
  pub sum :
      days_from_civil (pos clock.year) clock.month clock.day *ℤ pos 86_400 +ℤ pos (clock.hour * 3600 + clock.minute * 60 + clock.second)
      ≡ pos seconds

-- it is the one date and time that is so many seconds after the beginning of 1970
pub record IsTheClockOf (seconds : ℕ) (clock : Clock) : Type 0 where
  pub is : IsClockOf seconds clock
  pub only : (other : Clock) → IsClockOf seconds other → other ≡ clock

-- a number below 100 in two digits
abbrev pub two_digits : ℕ → List ℕ
two_digits n = (48 + n / 10) ∷ (48 + n % 10) ∷ []

-- `2001-09-09 01:46:40`
abbrev pub clock_text : Clock → List ℕ
clock_text clock =
    two_digits (clock.year / 100) ++ two_digits (clock.year % 100) ++ codes "-" ++ two_digits clock.month ++ codes "-" ++ two_digits clock.day
    ++ codes " " ++ two_digits clock.hour ++ codes ":" ++ two_digits clock.minute ++ codes ":" ++ two_digits clock.second

-- the date of a moment, for a reader whose clock is so many minutes ahead
unfoldable pub date_text : ℕ → ℤ → List ℕ
date_text moment offset = clock_text (clock_of (shown_seconds moment offset))
