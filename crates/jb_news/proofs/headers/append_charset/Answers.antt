use Rattle.std.proofs.Common.{◌++◌, List, ℕ, ap, ◌∙◌}
use Rattle.std.specs.Prelude.{codes}
use Rattle.jb_text.specs.Lines.{line_end}
use Rattle.jb_news.specs.Charsets.{charset_name}
use Rattle.jb_news.proofs.Growing.{three_parts}
use Rattle.jb_news.proofs.headers.append_charset.Goals as goal

pub returns : goal.returns
returns c =
    three_parts c.args.text.now c.append.new.self c.append-2.new.self c.append_line_end.new.text (codes "Content-Type: text/plain; charset=")
    (charset_name c.args.charset) line_end c.in_ok-append.ensures.ok
    (c.in_ok-append-2.ensures.ok ∙ ap (λ (l : List ℕ). c.append.new.self ++ l) c.charset_name.ensures) c.in_ok-append_line_end.ensures
