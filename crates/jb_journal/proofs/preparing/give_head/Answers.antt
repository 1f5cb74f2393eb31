use Rattle.std.proofs.Common.{sym, ℕ, ◌∙◌, refl, arith, length}
use Rattle.jb_disk.specs.declared.file.FileId.TheVariants.{Jnl}
use Rattle.jb_disk.specs.Files.{written, with_file}
use Rattle.jb_disk.specs.Images.{torn}
use Rattle.jb_disk.proofs.RunLemmas.{keeps-then, keeps-write, keeps-sync}
use Rattle.jb_journal.specs.Prepare.{AgreeBut, IsPreparing, IsShort, plain_head}
use Rattle.jb_journal.proofs.Told.{told_ended, told_back, durable_at, on_ok, on_ok_both}
use Rattle.jb_journal.proofs.PrepareLemmas.{short_torn, short_preparing, keeps_by, newest_change, newest_then, newest_synced}
use Rattle.jb_journal.proofs.preparing.give_head.Goals as goal

pub returns-in_err-write_at-clause-keeps : goal.returns-in_err-write_at-clause-keeps
returns-in_err-write_at-clause-keeps g c = λ start wants.
    keeps_by (IsPreparing start) (IsShort start) _ _ _ (λ files short. short_preparing start files wants short) (c.cut_to_head.ensures.keeps start wants) (c.in_ok-cut_to_head.ensures.short start wants)
    (keeps-write (IsShort start) Jnl 0 plain_head _ _ _ (g.met.D.Disk.told c.write_at.new.self) c.write_at.ensures.changed c.write_at.ensures.ok c.write_at.ensures.cause
    (λ before after was step. short_torn start before after _ _ was step))

pub returns-clause-keeps : goal.returns-clause-keeps
returns-clause-keeps g c = λ start wants.
    keeps_by (IsPreparing start) (IsShort start) _ _ _ (λ files short. short_preparing start files wants short) (c.cut_to_head.ensures.keeps start wants) (c.in_ok-cut_to_head.ensures.short start wants)
    (keeps-then (IsShort start) _ _ _
    (keeps-write (IsShort start) Jnl 0 plain_head _ _ _ (g.met.D.Disk.told c.write_at.new.self) c.write_at.ensures.changed c.write_at.ensures.ok c.write_at.ensures.cause
    (λ before after was step. short_torn start before after _ _ was step))
    (keeps-sync (IsShort start) Jnl _ _ _ (g.met.D.Disk.told c.write_at.new.self) (g.met.D.Disk.told c.sync.new.self) c.sync.ensures.changed))

pub returns-clause-told : goal.returns-clause-told
returns-clause-told g c =
    let told = told_ended Jnl 0 16 plain_head _ _ _ (λ files is. omega arith) refl c.in_ok-cut_to_head.ensures.told c.in_ok-write_at.ensures.ok in
    on_ok c.sync.result _ _ (λ kept. kept ∙ told) c.sync.ensures.changed.kept

pub returns-clause-durable : goal.returns-clause-durable
returns-clause-durable g c =
    let told = told_ended Jnl 0 16 plain_head _ _ _ (λ files is. omega arith) refl c.in_ok-cut_to_head.ensures.told c.in_ok-write_at.ensures.ok in
    on_ok c.sync.result _ _ (λ done. durable_at Jnl (with_file Jnl plain_head) _ (g.D.Disk.device c.write_at.new.self) (g.D.Disk.device c.sync.new.self) told done) c.sync.ensures.changed.done

pub returns-clause-own : goal.returns-clause-own
returns-clause-own g c =
    let before = g.D.Disk.device c.args.disk.now in
    let short = g.D.Disk.device c.cut_to_head.new.disk in
    let wrote = g.D.Disk.device c.write_at.new.self in
    let after = g.D.Disk.device c.sync.new.self in
    on_ok_both c.sync.result _ _ _ (λ kept done files there.
    let back = told_back short.contents wrote.contents (written Jnl 0 plain_head) files c.in_ok-write_at.ensures.ok (sym kept ∙ there) in
    newest_synced files before.moments wrote.moments after.moments
    (newest_then (AgreeBut Jnl) (AgreeBut Jnl) (AgreeBut Jnl) _ _ _ (λ x y z p q other ne. q other ne ∙ p other ne)
    (c.in_ok-cut_to_head.ensures.others back.0 back.1) (newest_change Jnl (torn 0 (length {A = ℕ} plain_head)) _ _ c.write_at.ensures.changed.moments))
    (done files (sym kept ∙ there)))
    c.sync.ensures.changed.kept c.sync.ensures.changed.done
