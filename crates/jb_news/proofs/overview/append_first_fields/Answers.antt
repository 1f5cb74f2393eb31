use Rattle.std.proofs.Common.{ℕ, ◌++◌, List, ap, ◌∙◌}
use Rattle.std.specs.Prelude.{codes, decimal}
use Rattle.jb_news.specs.Charsets.{field_text, sender_text, whole_name, whole_subject}
use Rattle.jb_news.specs.Overview.{tab}
use Rattle.jb_news.proofs.Growing.{longer}
use Rattle.jb_news.proofs.overview.append_first_fields.Goals as goal

pub returns : goal.returns
returns c =
    let text = c.args.text.now in
    let subject = whole_subject c.args.subject.now in
    let from = whole_name c.args.from.now in
    let number = decimal c.args.number in
    let field = field_text (codes " ") subject in
    let two = longer text c.append_number.new.text c.append.new.self number tab c.in_ok-append.ensures.ok c.in_ok-append_number.ensures in
    let three = longer text c.append.new.self c.append_field.new.text (number ++ tab) field
    (c.in_ok-append_field.ensures ∙ ap (λ (l : List ℕ). c.append.new.self ++ field_text (codes " ") l) c.whole_subject.ensures) two in
    let four = longer text c.append_field.new.text c.append-2.new.self (number ++ tab ++ field) tab c.in_ok-append-2.ensures.ok three in
    longer text c.append-2.new.self c.append_sender.new.text (number ++ tab ++ field ++ tab) (sender_text (codes " ") from)
    (c.in_ok-append_sender.ensures ∙ ap (λ (l : List ℕ). c.append-2.new.self ++ sender_text (codes " ") l) c.whole_name.ensures) four
