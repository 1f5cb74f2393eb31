use Rattle.toml.proofs.Views.{table_get}
use Rattle.jb_conf.proofs.document.found.Goals as goal

pub returns : goal.returns
returns c = rw (← c.key.ensures.key) (table_get c.get.result c.key.result.now c.args.table.now.entries c.get.ensures.value)
