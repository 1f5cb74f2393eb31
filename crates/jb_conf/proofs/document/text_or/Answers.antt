use Rattle.std.proofs.Common.{false}
use Rattle.jb_conf.specs.Faults.{is_text}
use Rattle.toml.specs.View.{table_view, view}
use Rattle.jb_conf.proofs.FoundFields.{absent_fault, text_absent, text_found, text_other}
use Rattle.jb_conf.proofs.document.text_or.Goals as goal

pub returns-in-None : goal.returns-in-None
returns-in-None c =
    let members = table_view c.args.table.now in
    (absent_fault c.args.field false is_text members c.in-None.ensures, text_absent c.args.field c.args.absent.now members c.in-None.ensures)

pub returns-in-Some-as_str : goal.returns-in-Some-as_str
returns-in-Some-as_str c =
    text_found c.args.field false c.args.absent.now c.in-Some-as_str.text.now (table_view c.args.table.now) (view c.in-Some.value.now) c.in-Some.ensures c.in-Some-as_str.ensures

pub returns-in-None-as_str : goal.returns-in-None-as_str
returns-in-None-as_str c =
    text_other c.args.field false (table_view c.args.table.now) (view c.in-Some.value.now) c.in-Some.ensures c.in-None-as_str.ensures
