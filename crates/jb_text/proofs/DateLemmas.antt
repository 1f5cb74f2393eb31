-- The clock so many seconds after the beginning of 1970 is a date of the calendar, and that many seconds after.
use Rattle.std.proofs.Common.{unsigned_abs, ◌≡◌, ℕ, zero, suc, ◌+◌, ◌-◌, ◌*◌, ◌/◌, ◌%◌, ◌<◌, ◌≤◌, inl, inr, Bool, true, false, if◌then◌else◌, nat_lt, ℤ, pos, ◌+ℤ◌, ◌*ℤ◌, refl, ap, sym, subst, ◌∙◌, arith}
use Rattle.std.proofs.lemmas.Bool.{cases_lt}
use Rattle.std.proofs.lemmas.Bool.Decides.{nat_tests}
use Rattle.std.specs.Int.{IsInRange}
use Rattle.jiff_core.specs.declared.civil.date.Date.{Date}
use Rattle.jiff_core.specs.declared.civil.datetime.DateTime.{DateTime}
use Rattle.jiff_core.specs.Calendar.{day_count, days_from_civil, days_in_month, days_in_year, IsYear}
use Rattle.jiff_core.specs.Date.{epoch_day}
use Rattle.jiff_core.specs.DateTime.{civil_nanos}
use Rattle.jiff_core.specs.Time.{time_nanos}
use Rattle.jiff_core.proofs.DateLemmas.{epoch_day_injective}
use Rattle.jiff_core.proofs.DateTimeLemmas.{civil_nanos-parts, time_nanos_bound}
use Rattle.jiff_core.proofs.CalendarLemmas.{day_count-day, day_count-epoch, day_count-last_of_year, day_count-next_month, day_count-next_year, days_from_civil-day_count, days_in_year_bounds}
use Rattle.jiff_core.proofs.SignedLemmas.{signed_arith}
use Rattle.jb_text.specs.declared.dates.Clock.{Clock}
use Rattle.jb_text.specs.Date.{IsClockOf, IsTheClockOf, clock_of, month_and_day, year_and_day, year_of_day}

-- a test that holds, and one that does not
below : (m n : ℕ) → m < n → nat_lt m n ≡ true
below m n h = grind (arith, nat_tests)

not_below : (m n : ℕ) → n ≤ m → nat_lt m n ≡ false
not_below m n h = grind (arith, nat_tests)

-- a day lies in this year, at this place
pub record LiesIn (from years days : ℕ) (found : ℕ × ℕ) : Type 0 where
  pub within : found.1 < days_in_year (pos found.0)
  pub count : day_count (pos found.0) 1 1 + found.1 ≡ day_count (pos from) 1 1 + days
  pub latest : found.0 ≤ from + years

year_stops : (years year days : ℕ) → days < days_in_year (pos year) → year_and_day (suc years) year days ≡ (year, days)
unfolding year_and_day
year_stops years year days h =
    ap (λ (b : Bool). if b then (year, days) else year_and_day years (year + 1) (days - days_in_year (pos year))) (below days (days_in_year (pos year)) h)

year_goes_on : (years year days : ℕ) → days_in_year (pos year) ≤ days
    → year_and_day (suc years) year days ≡ year_and_day years (year + 1) (days - days_in_year (pos year))
unfolding year_and_day
year_goes_on years year days h =
    ap (λ (b : Bool). if b then (year, days) else year_and_day years (year + 1) (days - days_in_year (pos year)))
    (not_below days (days_in_year (pos year)) h)

year_of_none : (year days : ℕ) → year_and_day 0 year days ≡ (year, days)
unfolding year_and_day
year_of_none year days = refl

next_year : (year : ℕ) → day_count (pos (year + 1)) 1 1 ≡ day_count (pos year) 1 1 + days_in_year (pos year)
next_year year = day_count-next_year (pos year) (pos (year + 1)) (omega (arith, signed_arith)) refl

pub year_and_day_is : (years year days : ℕ) → days < 365 * (years + 1) → LiesIn year years days (year_and_day years year days)
year_and_day_is zero year days h =
    let long = days_in_year_bounds (pos year) in
    subst (LiesIn year 0 days) (sym (year_of_none year days)) (record { within = omega (arith, long); count = refl; latest = omega arith })
year_and_day_is (suc years) year days h =
    let long = days_in_year_bounds (pos year) in
    elim (cases_lt days (days_in_year (pos year))) [
      | inl here ↦
          subst (LiesIn year (suc years) days) (sym (year_stops years year days here)) (record { within = here; count = refl; latest = omega arith })
      | inr later ↦
          let left : days - days_in_year (pos year) < 365 * (years + 1) = omega (arith, long) in
          let found = year_and_day_is years (year + 1) (days - days_in_year (pos year)) left in
          subst (LiesIn year (suc years) days) (sym (year_goes_on years year days later))
          (record { within = found.within; count = omega (arith, found.count, next_year year); latest = omega (arith, found.latest) })
    ]

-- a day lies in this month of a year, at this place
pub record LiesInMonth (year month days : ℕ) (found : ℕ × ℕ) : Type 0 where
  pub first : 1 ≤ found.0
  pub last : found.0 ≤ 12
  pub within : found.1 < days_in_month (pos year) found.0
  pub count : day_count (pos year) found.0 1 + found.1 ≡ day_count (pos year) month 1 + days

month_stops : (months year month days : ℕ) → days < days_in_month (pos year) month → month_and_day (suc months) year month days ≡ (month, days)
unfolding month_and_day
month_stops months year month days h =
    ap (λ (b : Bool). if b then (month, days) else month_and_day months year (month + 1) (days - days_in_month (pos year) month))
    (below days (days_in_month (pos year) month) h)

month_goes_on : (months year month days : ℕ) → days_in_month (pos year) month ≤ days
    → month_and_day (suc months) year month days ≡ month_and_day months year (month + 1) (days - days_in_month (pos year) month)
unfolding month_and_day
month_goes_on months year month days h =
    ap (λ (b : Bool). if b then (month, days) else month_and_day months year (month + 1) (days - days_in_month (pos year) month))
    (not_below days (days_in_month (pos year) month) h)

month_of_none : (year month days : ℕ) → month_and_day 0 year month days ≡ (month, days)
unfolding month_and_day
month_of_none year month days = refl

-- the days that are left at the last month lie in it
december : (year days : ℕ) → day_count (pos year) 12 1 + days < day_count (pos year) 1 1 + days_in_year (pos year) → days < 31
december year days h =
    let one : 1 ≤ 1 = omega arith in
    let end : 1 ≤ 31 = omega arith in
    omega (arith, day_count-last_of_year (pos year), day_count-day (pos year) 12 1 31 one end)

pub month_and_day_is : (months year month days : ℕ) → months + month ≡ 12 → 1 ≤ month
    → day_count (pos year) month 1 + days < day_count (pos year) 1 1 + days_in_year (pos year)
    → LiesInMonth year month days (month_and_day months year month days)
month_and_day_is zero year month days twelve some left =
    let last : 12 ≡ month = omega arith in
    let F : ℕ → Type 0 = λ m. LiesInMonth year m days (month_and_day 0 year m days) in
    let before : day_count (pos year) 12 1 + days < day_count (pos year) 1 1 + days_in_year (pos year) =
    subst (λ (m : ℕ). day_count (pos year) m 1 + days < day_count (pos year) 1 1 + days_in_year (pos year)) (omega arith) left in
    subst F last
    (subst (LiesInMonth year 12 days) (sym (month_of_none year 12 days))
    (record { first = omega arith; last = omega arith; within = december year days before; count = refl }))
month_and_day_is (suc months) year month days twelve some left =
    let size = days_in_month (pos year) month in
    elim (cases_lt days size) [
      | inl here ↦
          subst (LiesInMonth year month days) (sym (month_stops months year month days here))
          (record { first = some; last = omega arith; within = here; count = refl })
      | inr later ↦
          let next = day_count-next_month (pos year) month some in
          let fewer : months + (month + 1) ≡ 12 = omega arith in
          let more : 1 ≤ month + 1 = omega arith in
          let behind : day_count (pos year) (month + 1) 1 + (days - size) < day_count (pos year) 1 1 + days_in_year (pos year) = omega (arith, next) in
          let found = month_and_day_is months year (month + 1) (days - size) fewer more behind in
          subst (LiesInMonth year month days) (sym (month_goes_on months year month days later))
          (record { first = found.first; last = found.last; within = found.within; count = omega (arith, found.count, next) })
    ]

-- the place of a day in its year lies in the year
in_year : (seconds : ℕ) → LiesIn 1970 (seconds / 86_400 / 365) (seconds / 86_400) (year_of_day (seconds / 86_400))
in_year seconds =
    let days = seconds / 86_400 in
    let enough : days < 365 * (days / 365 + 1) = omega arith in
    year_and_day_is (days / 365) 1970 days enough

-- the same of the month
in_month : (seconds : ℕ) → (let found = year_of_day (seconds / 86_400) in LiesInMonth found.0 1 found.1 (month_and_day 11 found.0 1 found.1))
in_month seconds =
    let found = year_of_day (seconds / 86_400) in
    let first : 1 ≤ 1 = omega arith in
    let twelve : 11 + 1 ≡ 12 = refl in
    let left : day_count (pos found.0) 1 1 + found.1 < day_count (pos found.0) 1 1 + days_in_year (pos found.0) = omega (arith, (in_year seconds).within) in
    month_and_day_is 11 found.0 1 found.1 twelve first left

-- the date of the clock is so many days after the beginning of the calendar
counted : (seconds : ℕ) → day_count (pos (clock_of seconds).year) (clock_of seconds).month (clock_of seconds).day ≡ 4_371_953 + seconds / 86_400
unfolding clock_of
counted seconds =
    let found = year_of_day (seconds / 86_400) in
    let month = month_and_day 11 found.0 1 found.1 in
    let first : 1 ≤ 1 = omega arith in
    let some : 1 ≤ month.1 + 1 = omega arith in
    omega (arith, (in_year seconds).count, (in_month seconds).count, day_count-day (pos found.0) month.0 1 (month.1 + 1) first some, day_count-epoch)

-- the day number of its date
numbered : (seconds : ℕ) → days_from_civil (pos (clock_of seconds).year) (clock_of seconds).month (clock_of seconds).day ≡ pos (seconds / 86_400)
numbered seconds =
    let clock = clock_of seconds in
    omega (arith, signed_arith, counted seconds, days_from_civil-day_count (pos clock.year) clock.month clock.day)

-- the year of the clock has four digits
four_digits : (seconds : ℕ) → seconds < 4_295_017_696 → (clock_of seconds).year ≤ 9999
unfolding clock_of
four_digits seconds h = omega (arith, (in_year seconds).latest)

month_in : (seconds : ℕ) → IsInRange 1 12 (clock_of seconds).month
unfolding clock_of
month_in seconds = ((in_month seconds).first, (in_month seconds).last)

day_in : (seconds : ℕ) → IsInRange 1 (days_in_month (pos (clock_of seconds).year) (clock_of seconds).month) (clock_of seconds).day
unfolding clock_of
day_in seconds = (omega arith, omega (arith, (in_month seconds).within))

year_in : (seconds : ℕ) → seconds < 4_295_017_696 → IsYear (pos (clock_of seconds).year)
year_in seconds h = omega (arith, signed_arith, four_digits seconds h)

-- the time of the clock
abbrev pub IsTimeOf : ℕ → ℕ → ℕ → ℕ → Type 0
IsTimeOf seconds hour minute second = (hour < 24) × (minute < 60) × (second < 60) × (hour * 3600 + minute * 60 + second ≡ seconds % 86_400)

time_is : (seconds : ℕ) → IsTimeOf seconds (clock_of seconds).hour (clock_of seconds).minute (clock_of seconds).second
unfolding clock_of
time_is seconds = (omega arith, omega arith, omega arith, omega arith)

-- the clock of a moment is a date of the calendar with a time of day, and so many seconds after the beginning of 1970
pub clock_is : (seconds : ℕ) → seconds < 4_295_017_696 → IsClockOf seconds (clock_of seconds)
clock_is seconds h =
    let clock = clock_of seconds in
    let time = time_is seconds in
    let passed = clock.hour * 3600 + clock.minute * 60 + clock.second in
    let whole : seconds / 86_400 * 86_400 + passed ≡ seconds = omega (arith, time.3) in
    record {
      date = (year_in seconds h, month_in seconds, day_in seconds);
      hour = time.0;
      minute = time.1;
      second = time.2;
      sum = ap (λ (z : ℤ). z *ℤ pos 86_400 +ℤ pos passed) (numbered seconds) ∙ ap (λ (n : ℕ). pos n) whole;
    }

-- a date and time is what this clock shows
pub record Shows (civil : DateTime) (clock : Clock) : Type 0 where
  pub year : civil.date.year ≡ pos clock.year
  pub month : civil.date.month ≡ clock.month
  pub day : civil.date.day ≡ clock.day
  pub hour : civil.time.hour ≡ clock.hour
  pub minute : civil.time.minute ≡ clock.minute
  pub second : civil.time.second ≡ clock.second

-- the date and time at so many nanoseconds is what the clock shows
pub shows_clock : (civil : DateTime) (seconds : ℕ) → seconds < 4_295_017_696 → civil_nanos civil ≡ pos (seconds * 1_000_000_000) → Shows civil (clock_of seconds)
shows_clock civil seconds h nanos =
    let clock = clock_of seconds in
    let law = clock_is seconds h in
    let date : Date = record {
      year = pos clock.year;
      month = clock.month;
      day = clock.day;
      year_in = law.date.0;
      month_in = law.date.1;
      day_in = law.date.2;
    } in
    let parts = civil_nanos-parts civil in
    let bound = time_nanos_bound civil.time in
    let day : epoch_day civil.date ≡ pos (seconds / 86_400) = omega (arith, signed_arith, parts, bound, nanos) in
    let same = epoch_day_injective civil.date date (day ∙ sym (numbered seconds)) in
    let time : time_nanos civil.time ≡ seconds % 86_400 * 1_000_000_000 = omega (arith, signed_arith, parts, bound, nanos) in
    let of = time_is seconds in
    record {
      year = same.0;
      month = same.1;
      day = same.2;
      hour = omega (arith, time, of);
      minute = omega (arith, time, of);
      second = omega (arith, time, of);
    }

-- no other date and time is so many seconds after the beginning of 1970
pub only_clock : (seconds : ℕ) → seconds < 4_295_017_696 → IsTheClockOf seconds (clock_of seconds)
only_clock seconds h = record {
  is = clock_is seconds h;
  only = λ other is.
      let clock = clock_of seconds in
      let law = clock_is seconds h in
      let of = time_is seconds in
      let there : Date = record {
        year = pos other.year;
        month = other.month;
        day = other.day;
        year_in = is.date.0;
        month_in = is.date.1;
        day_in = is.date.2;
      } in
      let here : Date = record {
        year = pos clock.year;
        month = clock.month;
        day = clock.day;
        year_in = law.date.0;
        month_in = law.date.1;
        day_in = law.date.2;
      } in
      let passed = other.hour * 3600 + other.minute * 60 + other.second in
      let within : passed < 86_400 = omega (arith, is.hour, is.minute, is.second) in
      let day : epoch_day there ≡ pos (seconds / 86_400) = omega (arith, signed_arith, is.sum, within) in
      let time : passed ≡ seconds % 86_400 = omega (arith, signed_arith, is.sum, within) in
      let same = epoch_day_injective there here (day ∙ sym (numbered seconds)) in
      let year : other.year ≡ clock.year = ap unsigned_abs same.0 in
      let hour : other.hour ≡ clock.hour = omega (arith, time, of, is.hour, is.minute, is.second) in
      let minute : other.minute ≡ clock.minute = omega (arith, time, of, is.hour, is.minute, is.second) in
      let second : other.second ≡ clock.second = omega (arith, time, of, is.hour, is.minute, is.second) in
      λ i. record { year = year i; month = same.1 i; day = same.2 i; hour = hour i; minute = minute i; second = second i };
}
