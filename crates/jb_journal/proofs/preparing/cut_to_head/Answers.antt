use Rattle.std.proofs.Common.{◌≡◌, ◌∙◌, inr, sym, length}
use Rattle.std.specs.Option.{ForSome}
use Rattle.jb_disk.specs.declared.file.FileId.TheVariants.{Jnl}
use Rattle.jb_disk.specs.Images.{cut, just_synced}
use Rattle.jb_disk.specs.Files.{InFile, IsResized}
use Rattle.jb_disk.specs.Runs.{LeavesNow, Keeps}
use Rattle.jb_disk.proofs.RunLemmas.{durable, keeps-then, keeps-resize, keeps-sync}
use Rattle.jb_journal.specs.Prepare.{AgreeBut, IsPreparing}
use Rattle.jb_redo.proofs.ApplyLemmas.{turns_from}
use Rattle.jb_journal.proofs.Told.{on_ok_both}
use Rattle.jb_journal.proofs.PrepareLemmas.{preparing_cut, shows_short, newest_change, newest_then}
use Rattle.jb_journal.proofs.preparing.cut_to_head.Goals as goal

pub returns-in_err-set_len-clause-keeps : goal.returns-in_err-set_len-clause-keeps
returns-in_err-set_len-clause-keeps g c = λ start wants.
    keeps-resize (IsPreparing start) Jnl _ _ _ _ (g.met.D.Disk.told c.args.disk.now) (g.met.D.Disk.told c.set_len.new.self) c.set_len.ensures.changed
    (λ before after was step. preparing_cut start before after wants was step)

pub returns-clause-keeps : goal.returns-clause-keeps
returns-clause-keeps g c = λ start wants. keeps-then (IsPreparing start) _ _ _
    (keeps-resize (IsPreparing start) Jnl _ _ _ _ (g.met.D.Disk.told c.args.disk.now) (g.met.D.Disk.told c.set_len.new.self) c.set_len.ensures.changed
    (λ before after was step. preparing_cut start before after wants was step))
    (keeps-sync (IsPreparing start) Jnl _ _ _ (g.met.D.Disk.told c.set_len.new.self) (g.met.D.Disk.told c.sync.new.self) c.sync.ensures.changed)

pub returns-clause-short : goal.returns-clause-short
returns-clause-short g c =
    let old = g.D.Disk.device c.args.disk.now in
    let mid = g.D.Disk.device c.set_len.new.self in
    let new = g.D.Disk.device c.sync.new.self in
    on_ok_both c.sync.result _ _ _ (λ kept done. λ start wants shows.
    let keeps : Keeps (IsPreparing start) old new = keeps-then (IsPreparing start) _ _ _
    (keeps-resize (IsPreparing start) Jnl _ _ _ _ (g.met.D.Disk.told c.args.disk.now) (g.met.D.Disk.told c.set_len.new.self) c.set_len.ensures.changed
    (λ before after was step. preparing_cut start before after wants was step))
    (keeps-sync (IsPreparing start) Jnl _ _ _ (g.met.D.Disk.told c.set_len.new.self) (g.met.D.Disk.told c.sync.new.self) c.sync.ensures.changed) in
    let sixteen : ForSome new.contents (λ files. length (files Jnl) ≡ 16) = λ files there.
    (turns_from (InFile Jnl (IsResized 16)) old.contents mid.contents files c.in_ok-set_len.ensures.changed.done (sym kept ∙ there)).2.here.size in
    let synced : ForSome new.contents (λ files. LeavesNow (λ left. left Jnl ≡ files Jnl) new.moments) = λ files there. durable Jnl files mid new (sym kept ∙ there) done in
    shows_short start new (keeps.shows shows) sixteen synced (g.met.D.Disk.told c.sync.new.self))
    c.sync.ensures.changed.kept c.sync.ensures.changed.done

pub returns-clause-others : goal.returns-clause-others
returns-clause-others g c = on_ok_both c.sync.result _ _ _ (λ kept done. λ files there.
    newest_then (AgreeBut Jnl) (AgreeBut Jnl) (AgreeBut Jnl) _ _ _ (λ x y z p q other ne. q other ne ∙ p other ne)
    (newest_change Jnl (cut 16) _ _ c.set_len.ensures.changed.moments) (newest_change Jnl (λ _. just_synced (files Jnl)) _ _ (inr (done files (sym kept ∙ there)))))
    c.sync.ensures.changed.kept c.sync.ensures.changed.done
