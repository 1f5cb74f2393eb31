use Rattle.std.proofs.Common.{◌++◌, ◌∙◌, List, ap, length, reverse}
use Rattle.jb_page.specs.Pagers.{PagerView}
use Rattle.jb_run.specs.Lines.{first_lines}
use Rattle.jb_run.specs.Workers.{HasLine}
use Rattle.jb_run.proofs.Crew.{stops_all}
use Rattle.jb_run.proofs.Numbers.{length-first_lines}
use Rattle.jb_run.proofs.Zips.{zip_long}
use Rattle.jb_run.proofs.lines.open_lines.Goals as goal

pub open_news-requires-clause-count : goal.open_news-requires-clause-count
open_news-requires-clause-count g c =
    let board = c.args.board.now in
    zip_long HasLine (first_lines board c.args.calls board.nodes) c.open_nodes.new.workers.items c.in_ok-open_nodes.ensures.ok.each ∙ length-first_lines board c.args.calls board.nodes

-- the bell was refused
pub returns-clause-err : goal.returns-clause-err
returns-clause-err g c =
    let old = g.H.Host.desk c.args.host.now in
    let has = c.in_ok-open_news.ensures.ok old c.in_ok-open_nodes.ensures.ok in
    stops_all g.H.Door.Door.gate g.H.Clock.Clock.readings g.H.Host.door_for c.args.calls c.args.board.now (length c.as_slice.result.now) c.bell.result
    c.open_news.new.workers.items old (g.H.Host.desk c.open_news.new.host) (g.H.Host.desk c.bell.new.self) (ap length c.as_slice.ensures) has c.bell.ensures.err

-- the pagers are those of the nodes
pub returns-in_err-open_news-clause-pagers : goal.returns-in_err-open_news-clause-pagers
returns-in_err-open_news-clause-pagers g c =
    ap (λ (l : List PagerView). c.open_nodes.new.pagers.items ++ reverse l) c.open_news.ensures.pagers ∙ c.in_ok-open_nodes.ensures.pagers

pub returns-clause-pagers : goal.returns-clause-pagers
returns-clause-pagers g c =
    ap (λ (l : List PagerView). c.open_nodes.new.pagers.items ++ reverse l) c.in_ok-open_news.ensures.pagers ∙ c.in_ok-open_nodes.ensures.pagers
