use Rattle.std.proofs.Common.{◌≡◌, ℕ, ◌^◌, ◌<◌, ℤ, ap, sym, subst, ◌∙◌, arith, pos, unsigned_abs, to_z, of_z, w8, w16}
use Rattle.jiff_core.proofs.CalendarLemmas.{days_in_month_bounds}
use Rattle.jiff_core.proofs.SignedLemmas.{back_small, signed_arith}
use Rattle.jb_text.specs.Date.{IsClockOf, clock_of}
use Rattle.jb_text.proofs.DateLemmas.{clock_is, shows_clock}
use Rattle.jb_text.proofs.dates.clock_at.Goals as goal
use mir.Val.{hbits}

-- the magnitude of a small number that is not negative
magnitude : (size : ℕ) (z : ℤ) (n k : ℕ) → size ≡ unsigned_abs (to_z w8 (of_z w8 z)) → z ≡ pos n → n ≡ k → k < 100 → size ≡ k
magnitude size z n k size_is z_is n_is small =
    let fits : unsigned_abs (pos k) < 2 ^ hbits w8 = omega arith in
    size_is ∙ ap (λ (y : ℤ). unsigned_abs (to_z w8 (of_z w8 y))) (z_is ∙ ap (λ (m : ℕ). pos m) n_is) ∙ ap unsigned_abs (back_small w8 (pos k) fits)

-- the same of a year
magnitude_of_year : (size : ℕ) (z y : ℤ) (k : ℕ) → size ≡ unsigned_abs (to_z w16 (of_z w16 z)) → z ≡ y → y ≡ pos k → k < 10_000 → size ≡ k
magnitude_of_year size z y k size_is z_is y_is small =
    let fits : unsigned_abs (pos k) < 2 ^ hbits w16 = omega arith in
    size_is ∙ ap (λ (x : ℤ). unsigned_abs (to_z w16 (of_z w16 x))) (z_is ∙ y_is) ∙ ap unsigned_abs (back_small w16 (pos k) fits)

pub returns-clause-value : goal.returns-clause-value
returns-clause-value c =
    let seconds = c.args.seconds in
    let clock = clock_of seconds in
    let shows = shows_clock c.civil_at-civil.result seconds c.requires c.civil_at-civil.ensures in
    let law = clock_is seconds c.requires in
    let long = days_in_month_bounds (pos clock.year) clock.month in
    let year_fits : clock.year < 10_000 = omega (arith, signed_arith, law.date.0) in
    let month_fits : clock.month < 100 = omega (arith, law.date.1) in
    let day_fits : clock.day < 100 = omega (arith, law.date.2, long) in
    let hour_fits : clock.hour < 100 = omega (arith, law.hour) in
    let minute_fits : clock.minute < 100 = omega (arith, law.minute) in
    let second_fits : clock.second < 100 = omega (arith, law.second) in
    let year : c.unsigned_abs.result ≡ clock.year = magnitude_of_year _ _ _ clock.year c.unsigned_abs.ensures.value c.year.ensures shows.year year_fits in
    let month : c.unsigned_abs-2.result ≡ clock.month = magnitude _ _ _ clock.month c.unsigned_abs-2.ensures.value c.month.ensures shows.month month_fits in
    let day : c.unsigned_abs-3.result ≡ clock.day = magnitude _ _ _ clock.day c.unsigned_abs-3.ensures.value c.day.ensures shows.day day_fits in
    let hour : c.unsigned_abs-4.result ≡ clock.hour = magnitude _ _ _ clock.hour c.unsigned_abs-4.ensures.value c.hour.ensures shows.hour hour_fits in
    let minute : c.unsigned_abs-5.result ≡ clock.minute = magnitude _ _ _ clock.minute c.unsigned_abs-5.ensures.value c.minute.ensures shows.minute minute_fits in
    let second : c.unsigned_abs-6.result ≡ clock.second = magnitude _ _ _ clock.second c.unsigned_abs-6.ensures.value c.second.ensures shows.second second_fits in
    λ i. record { year = year i; month = month i; day = day i; hour = hour i; minute = minute i; second = second i }

pub returns-clause-calendar : goal.returns-clause-calendar
returns-clause-calendar c = subst (IsClockOf c.args.seconds) (sym (returns-clause-value c)) (clock_is c.args.seconds c.requires)
