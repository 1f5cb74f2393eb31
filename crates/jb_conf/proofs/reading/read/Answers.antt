use Rattle.jb_conf.proofs.Answering.{answered_not_toml, only_not_toml, only_settings}
use Rattle.jb_conf.proofs.reading.read.Goals as goal

pub returns-clause-settings : goal.returns-clause-settings
returns-clause-settings c = only_settings c.args.bytes.now c.read_document.result c.read_document.ensures

pub returns-clause-not_toml : goal.returns-clause-not_toml
returns-clause-not_toml c = only_not_toml c.args.bytes.now c.read_document.result c.read_document.ensures

pub returns-clause-only_not_toml : goal.returns-clause-only_not_toml
returns-clause-only_not_toml c = answered_not_toml c.args.bytes.now c.read_document.result c.read_document.ensures
