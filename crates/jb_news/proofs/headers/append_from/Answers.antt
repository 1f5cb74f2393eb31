use Rattle.std.proofs.Common.{ℕ, ◌++◌, List, ap, ◌∙◌}
use Rattle.std.specs.Prelude.{codes}
use Rattle.jb_text.specs.Lines.{line_end}
use Rattle.jb_news.specs.Charsets.{folded, sender_text, whole_name}
use Rattle.jb_news.proofs.Growing.{three_parts}
use Rattle.jb_news.proofs.headers.append_from.Goals as goal

pub returns : goal.returns
returns c =
    three_parts c.args.text.now c.append.new.self c.append_sender.new.text c.append_line_end.new.text (codes "From: ")
    (sender_text folded (whole_name c.args.from.now)) line_end c.in_ok-append.ensures.ok
    (c.in_ok-append_sender.ensures ∙ ap (λ (l : List ℕ). c.append.new.self ++ sender_text folded l) c.whole_name.ensures) c.in_ok-append_line_end.ensures
