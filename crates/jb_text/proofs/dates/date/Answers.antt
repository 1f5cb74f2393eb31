use Rattle.std.proofs.Common.{◌≡◌, ℕ, ap, subst, ◌∙◌, FitsSigned, w32}
use Rattle.std.proofs.lemmas.Int.{to_z-of_z}
use Rattle.jb_text.specs.Date.{IsTheClockOf, clock_of, clock_text, date_text, shown_seconds}
use Rattle.jb_text.proofs.DateLemmas.{only_clock}
use Rattle.jb_text.proofs.dates.date.Goals as goal

pub returns-clause-text : goal.returns-clause-text
unfolding date_text
returns-clause-text c =
    let fits : FitsSigned w32 c.args.offset = c.ranges.offset in
    let seconds : c.seconds_of.result ≡ shown_seconds c.args.moment c.args.offset = simp to_z-of_z at c.seconds_of.ensures.value in
    c.text_of.ensures ∙ ap clock_text c.clock_at.ensures.value ∙ ap (λ (n : ℕ). clock_text (clock_of n)) seconds

pub returns-clause-calendar : goal.returns-clause-calendar
returns-clause-calendar c =
    let fits : FitsSigned w32 c.args.offset = c.ranges.offset in
    let seconds : c.seconds_of.result ≡ shown_seconds c.args.moment c.args.offset = simp to_z-of_z at c.seconds_of.ensures.value in
    subst (λ (n : ℕ). IsTheClockOf n (clock_of n)) seconds (only_clock c.seconds_of.result c.seconds_of.ensures.bound)
