use Rattle.std.proofs.Common.{◌++◌}
use Rattle.jb_news.specs.Dates.{mail_date}
use Rattle.jb_news.specs.Names.{message_id}
use Rattle.jb_news.specs.Overview.{answered_id, tab, two_ends}
use Rattle.jb_news.proofs.Growing.{longer}
use Rattle.jb_news.proofs.overview.append_last_fields.Goals as goal

pub returns : goal.returns
returns c =
    let text = c.args.text.now in
    let date = mail_date c.args.moment in
    let id = message_id c.args.area c.args.number in
    let answered = answered_id c.args.area c.args.parent in
    let two = longer text c.append.new.self c.append_mail_date.new.text tab date c.in_ok-append_mail_date.ensures c.in_ok-append.ensures.ok in
    let three = longer text c.append_mail_date.new.text c.append-2.new.self (tab ++ date) tab c.in_ok-append-2.ensures.ok two in
    let four = longer text c.append-2.new.self c.append_id.new.text (tab ++ date ++ tab) id c.in_ok-append_id.ensures three in
    let five = longer text c.append_id.new.text c.append-3.new.self (tab ++ date ++ tab ++ id) tab c.in_ok-append-3.ensures.ok four in
    let six = longer text c.append-3.new.self c.append_answered.new.text (tab ++ date ++ tab ++ id ++ tab) answered c.in_ok-append_answered.ensures five in
    longer text c.append_answered.new.text c.append-4.new.self (tab ++ date ++ tab ++ id ++ tab ++ answered) two_ends c.in_ok-append-4.ensures.ok six
