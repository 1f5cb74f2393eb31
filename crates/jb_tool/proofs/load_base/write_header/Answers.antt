use Rattle.std.proofs.Common.{◌≡◌, ℕ, List, length, ap, ◌∙◌}
use Rattle.std.specs.Option.{option_map}
use Rattle.jb_disk.proofs.RunLemmas.{keeps-resize, keeps-sync, keeps-then, keeps-write}
use Rattle.jb_disk.specs.Files.{with_file}
use Rattle.jb_disk.specs.declared.file.FileId.TheVariants.{Jhr}
use Rattle.jb_tool.proofs.LoadBaseLemmas.{header_size, synced_header, told_whole}
use Rattle.jb_tool.specs.LoadBase.{AgreeButHeaders}
use Rattle.jb_journal.proofs.Told.{on_ok_both, on_ok}
use Rattle.jb_tool.proofs.load_base.write_header.Goals as goal

pub returns-clause-told : goal.returns-clause-told
returns-clause-told g c =
    let device = g.D.Disk.device in
    let bytes = c.header-bytes.result in
    let size : length bytes ≡ 1024 = ap (λ (l : List ℕ). length l) c.header-bytes.ensures ∙ header_size in
    let told = told_whole Jhr bytes 1024 (device c.args.disk.now).contents (device c.set_len.new.self).contents (device c.write_at.new.self).contents size
    c.in_ok-set_len.ensures.changed.done c.in_ok-write_at.ensures.ok in
    on_ok c.sync.result _ _ (λ kept. kept ∙ told ∙ ap (λ (l : List ℕ). option_map (with_file Jhr l) (device c.args.disk.now).contents) c.header-bytes.ensures) c.sync.ensures.changed.kept

pub returns-clause-synced : goal.returns-clause-synced
returns-clause-synced g c =
    let device = g.D.Disk.device in
    let bytes = c.header-bytes.result in
    let size : length bytes ≡ 1024 = ap (λ (l : List ℕ). length l) c.header-bytes.ensures ∙ header_size in
    let told = told_whole Jhr bytes 1024 (device c.args.disk.now).contents (device c.set_len.new.self).contents (device c.write_at.new.self).contents size
    c.in_ok-set_len.ensures.changed.done c.in_ok-write_at.ensures.ok in
    on_ok_both c.sync.result _ _ _ (λ kept done. synced_header bytes (device c.args.disk.now) (device c.write_at.new.self) (device c.sync.new.self) told kept done
    (λ start. keeps-then (AgreeButHeaders start) _ _ _
    (keeps-then (AgreeButHeaders start) _ _ _
    (keeps-resize (AgreeButHeaders start) Jhr _ _ _ _ (g.met.D.Disk.told c.args.disk.now) (g.met.D.Disk.told c.set_len.new.self) c.set_len.ensures.changed
    (λ before after was step. λ file other. step.others file other ∙ was file other))
    (keeps-write (AgreeButHeaders start) Jhr 0 bytes _ _ _ (g.met.D.Disk.told c.write_at.new.self) c.write_at.ensures.changed c.write_at.ensures.ok c.write_at.ensures.cause
    (λ before after was step. λ file other. step.others file other ∙ was file other)))
    (keeps-sync (AgreeButHeaders start) Jhr _ _ _ (g.met.D.Disk.told c.write_at.new.self) (g.met.D.Disk.told c.sync.new.self) c.sync.ensures.changed)))
    c.sync.ensures.changed.kept c.sync.ensures.changed.done
