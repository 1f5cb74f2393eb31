use Rattle.std.proofs.Common.{◌∙◌, sym}
use Rattle.jb_tool.proofs.LoadBaseLemmas.{base_made, header_shut}
use Rattle.jb_tool.proofs.load_base.make.Goals as goal

pub write_header-requires-clause-empty : goal.write_header-requires-clause-empty
write_header-requires-clause-empty g c = λ files there. c.requires.empty files (sym c.in_ok-sync_all.ensures.kept ∙ there)

pub prepare-requires : goal.prepare-requires
prepare-requires g c =
    let device = g.D.Disk.device in
    header_shut (device c.sync_all.new.disk).contents (device c.write_header.new.disk).contents
    (λ files there. c.requires.empty files (sym c.in_ok-sync_all.ensures.kept ∙ there)) c.in_ok-write_header.ensures.told

pub returns-in-Ok-clause-made : goal.returns-in-Ok-clause-made
returns-in-Ok-clause-made g c =
    let device = g.D.Disk.device in
    base_made (device c.sync_all.new.disk).contents (device c.write_header.new.disk).contents (device c.prepare.new.disk).contents
    (λ files there. c.requires.empty files (sym c.in_ok-sync_all.ensures.kept ∙ there)) c.in_ok-write_header.ensures.told c.in-Ok.ensures.made
