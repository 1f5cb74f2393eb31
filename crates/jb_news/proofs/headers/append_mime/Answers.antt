use Rattle.std.specs.Prelude.{codes}
use Rattle.jb_text.specs.Letter.{heading, line}
use Rattle.jb_news.specs.Charsets.{charset_name}
use Rattle.jb_news.proofs.Growing.{three_parts}
use Rattle.jb_news.proofs.headers.append_mime.Goals as goal

pub returns : goal.returns
returns c =
    three_parts c.args.text.now c.append.new.self c.append_charset.new.text c.append-2.new.self (line (codes "MIME-Version: 1.0"))
    (heading (codes "Content-Type: text/plain; charset=") (charset_name c.args.charset)) (line (codes "Content-Transfer-Encoding: 8bit"))
    c.in_ok-append.ensures.ok c.in_ok-append_charset.ensures c.in_ok-append-2.ensures.ok
