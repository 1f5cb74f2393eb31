use Rattle.jb_text.specs.Lines.{line_end}
use Rattle.jb_news.specs.Names.{message_id}
use Rattle.jb_news.proofs.Growing.{three_parts}
use Rattle.jb_news.proofs.headers.append_id_heading.Goals as goal

pub returns : goal.returns
returns c =
    three_parts c.args.text.now c.append.new.self c.append_id.new.text c.append_line_end.new.text c.args.label.now (message_id c.args.area c.args.number) line_end
    c.in_ok-append.ensures.ok c.in_ok-append_id.ensures c.in_ok-append_line_end.ensures
