use Rattle.std.specs.Prelude.{codes}
use Rattle.jb_news.proofs.Growing.{three_parts}
use Rattle.jb_news.proofs.charset.append_quoted_sender.Goals as goal

pub returns : goal.returns
returns c =
    three_parts c.args.text.now c.append.new.self c.append-2.new.self c.append-3.new.self (codes "\"") c.args.name.now (codes "\" <board@jam.invalid>")
    c.in_ok-append.ensures.ok c.in_ok-append-2.ensures.ok c.in_ok-append-3.ensures.ok
