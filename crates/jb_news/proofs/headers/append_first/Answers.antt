use Rattle.std.specs.Prelude.{codes}
use Rattle.jb_text.specs.Letter.{heading, line}
use Rattle.jb_news.specs.Charsets.{folded, sender_text, whole_name}
use Rattle.jb_news.proofs.Growing.{longer}
use Rattle.jb_news.proofs.headers.append_first.Goals as goal

pub returns : goal.returns
returns c =
    longer c.args.text.now c.append.new.self c.append_from.new.text (line (codes "Path: jam.invalid!not-for-mail"))
    (heading (codes "From: ") (sender_text folded (whole_name c.args.from.now))) c.in_ok-append_from.ensures c.in_ok-append.ensures.ok
