use Rattle.std.proofs.Common.{◌≡◌, ℕ, ◌++◌, List, ap, ◌∙◌, FitsSigned, w32}
use Rattle.std.proofs.lemmas.Int.{to_z-of_z}
use Rattle.std.specs.Prelude.{codes, decimal}
use Rattle.jb_text.specs.Date.{date_text}
use Rattle.jb_text.specs.Letter.{heading, heading_text}
use Rattle.jb_text.specs.Lines.{line_end}
use Rattle.jb_text.specs.Shown.{shown}
use Rattle.jb_text.proofs.Growing.{longer}
use Rattle.jb_text.proofs.letters.heading_of.Goals as goal

-- a text that is known, and grows by a line of the heading whose value is known
with_line : (before now first label value of : List ℕ) → now ≡ before ++ heading label (shown value) → value ≡ of → before ≡ first
    → now ≡ first ++ heading label (shown of)
with_line before now first label value of now_is value_is before_is =
    longer before now first (heading label (shown of)) (now_is ∙ ap (λ (l : List ℕ). before ++ heading label (shown l)) value_is) before_is

pub returns : goal.returns
unfolding heading_text
returns c =
    let letter = c.args.letter.now in
    let digits = decimal letter.number in
    let fits : FitsSigned w32 c.args.offset = c.ranges.offset in
    let date = heading (codes "Date: ") (date_text letter.written c.args.offset) in
    let dated : c.append_date.new.text ≡ c.append_heading-3.new.text ++ date = simp to_z-of_z at c.in_ok-append_date.ensures in
    let number = heading (codes "Message ") digits in
    let from = heading (codes "From: ") (shown letter.from) in
    let to = heading (codes "To: ") (shown letter.to) in
    let subject = heading (codes "Subject: ") (shown letter.subject) in
    let counted : c.append_number.new.text ≡ codes "Message " ++ digits =
    longer c.in_ok-text.text c.append_number.new.text (codes "Message ") digits
    (c.in_ok-append_number.ensures ∙ ap (λ (n : ℕ). c.in_ok-text.text ++ decimal n) c.from.ensures) c.in_ok-text.ensures in
    let one : c.append_line_end.new.text ≡ number =
    longer c.append_number.new.text c.append_line_end.new.text (codes "Message " ++ digits) line_end c.in_ok-append_line_end.ensures counted in
    let two : c.append_heading.new.text ≡ number ++ from =
    with_line c.append_line_end.new.text c.append_heading.new.text number (codes "From: ") c.as_slice.result.now letter.from
    c.in_ok-append_heading.ensures c.as_slice.ensures one in
    let three : c.append_heading-2.new.text ≡ number ++ from ++ to =
    with_line c.append_heading.new.text c.append_heading-2.new.text (number ++ from) (codes "To: ") c.as_slice-2.result.now letter.to
    c.in_ok-append_heading-2.ensures c.as_slice-2.ensures two in
    let four : c.append_heading-3.new.text ≡ number ++ from ++ to ++ subject =
    with_line c.append_heading-2.new.text c.append_heading-3.new.text (number ++ from ++ to) (codes "Subject: ") c.as_slice-3.result.now letter.subject
    c.in_ok-append_heading-3.ensures c.as_slice-3.ensures three in
    longer c.append_heading-3.new.text c.append_date.new.text (number ++ from ++ to ++ subject) date dated four
