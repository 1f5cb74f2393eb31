use Rattle.std.specs.Prelude.{codes}
use Rattle.jb_text.specs.Letter.{heading}
use Rattle.jb_news.specs.Names.{group_text, message_id}
use Rattle.jb_news.proofs.Growing.{longer}
use Rattle.jb_news.proofs.headers.append_names.Goals as goal

pub returns : goal.returns
returns c =
    longer c.args.text.now c.append_newsgroups.new.text c.append_id_heading.new.text (heading (codes "Newsgroups: ") (group_text c.args.area))
    (heading (codes "Message-ID: ") (message_id c.args.area c.args.number)) c.in_ok-append_id_heading.ensures c.in_ok-append_newsgroups.ensures
