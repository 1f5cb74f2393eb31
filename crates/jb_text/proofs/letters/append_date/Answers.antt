use Rattle.std.proofs.Common.{◌≡◌, ℕ, ◌++◌, List, ap, ◌∙◌, FitsSigned, w32}
use Rattle.std.proofs.lemmas.Int.{to_z-of_z}
use Rattle.std.specs.Prelude.{codes}
use Rattle.jb_text.specs.Date.{date_text}
use Rattle.jb_text.specs.Lines.{line_end}
use Rattle.jb_text.proofs.Growing.{three_parts}
use Rattle.jb_text.proofs.letters.append_date.Goals as goal

pub returns : goal.returns
returns c =
    let fits : FitsSigned w32 c.args.offset = c.ranges.offset in
    let date : c.date.result ≡ date_text c.args.moment c.args.offset = simp to_z-of_z at c.date.ensures.text in
    three_parts c.args.text.now c.append.new.self c.append-2.new.self c.append_line_end.new.text
    (codes "Date: ") (date_text c.args.moment c.args.offset) line_end
    c.in_ok-append.ensures.ok
    (c.in_ok-append-2.ensures.ok ∙ ap (λ (l : List ℕ). c.append.new.self ++ l) date)
    c.in_ok-append_line_end.ensures
