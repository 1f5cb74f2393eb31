use Rattle.std.specs.Prelude.{codes}
use Rattle.jb_text.specs.Lines.{line_end}
use Rattle.jb_news.specs.Names.{group_text}
use Rattle.jb_news.proofs.Growing.{three_parts}
use Rattle.jb_news.proofs.headers.append_newsgroups.Goals as goal

pub returns : goal.returns
returns c =
    three_parts c.args.text.now c.append.new.self c.append_group.new.text c.append_line_end.new.text (codes "Newsgroups: ") (group_text c.args.area) line_end
    c.in_ok-append.ensures.ok c.in_ok-append_group.ensures c.in_ok-append_line_end.ensures
