use Rattle.std.specs.Prelude.{codes}
use Rattle.jb_news.specs.Charsets.{encoded}
use Rattle.jb_news.proofs.Growing.{three_parts}
use Rattle.jb_news.proofs.charset.append_encoded_sender.Goals as goal

pub returns : goal.returns
returns c =
    three_parts c.args.text.now c.append_encoded.new.text c.append.new.self c.append-2.new.self (encoded c.args.fold.now c.args.charset c.args.name.now)
    c.args.fold.now (codes "<board@jam.invalid>") c.in_ok-append_encoded.ensures c.in_ok-append.ensures.ok c.in_ok-append-2.ensures.ok
