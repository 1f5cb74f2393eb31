use Rattle.std.proofs.Common.{[], ◌∷◌, ℕ, subst, ◌+◌, ap, sym, ◌∙◌, arith}
use Rattle.jb_disk.specs.declared.file.FileId.TheVariants.{Jnl}
use Rattle.jb_disk.specs.declared.version.Version.TheVariants.{Two}
use Rattle.jb_disk.proofs.RunLemmas.{keeps-then, keeps-resize, keeps-sync}
use Rattle.jb_redo.specs.Record.{record_bytes}
use Rattle.jb_journal.specs.Stages.{KeepsHead, with_record}
use Rattle.jb_journal.specs.Coming.{ComeBy, journal_length}
use Rattle.jb_journal.proofs.ComingLemmas.{come_on, come_then, come_resized, come_synced}
use Rattle.jb_journal.proofs.RecordLemmas.{same_size}
use Rattle.jb_journal.proofs.Touching.{untouched_cut}
use Rattle.jb_journal.proofs.Told.{told_ended, durable_at, on_ok}
use Rattle.jb_journal.proofs.recording.write_record.Goals as goal

pub returns-in_err-set_len-clause-keeps : goal.returns-in_err-set_len-clause-keeps
returns-in_err-set_len-clause-keeps g c = λ start. keeps-resize (KeepsHead start) Jnl _ _ _ _ (g.met.D.Disk.told c.args.disk.now) (g.met.D.Disk.told c.set_len.new.self) c.set_len.ensures.changed
    (λ before after was step. untouched_cut start before after _ (omega arith) was step)

pub returns-in_err-put_gathered-clause-keeps : goal.returns-in_err-put_gathered-clause-keeps
returns-in_err-put_gathered-clause-keeps g c = λ start. keeps-then (KeepsHead start) _ _ _
    (keeps-resize (KeepsHead start) Jnl _ _ _ _ (g.met.D.Disk.told c.args.disk.now) (g.met.D.Disk.told c.set_len.new.self) c.set_len.ensures.changed
    (λ before after was step. untouched_cut start before after _ (omega arith) was step))
    (c.put_gathered.ensures.keeps start)

pub returns-clause-keeps : goal.returns-clause-keeps
returns-clause-keeps g c = λ start. keeps-then (KeepsHead start) _ _ _
    (keeps-then (KeepsHead start) _ _ _
    (keeps-resize (KeepsHead start) Jnl _ _ _ _ (g.met.D.Disk.told c.args.disk.now) (g.met.D.Disk.told c.set_len.new.self) c.set_len.ensures.changed
    (λ before after was step. untouched_cut start before after _ (omega arith) was step))
    (c.put_gathered.ensures.keeps start))
    (keeps-sync (KeepsHead start) Jnl _ _ _ (g.met.D.Disk.told c.put_gathered.new.disk) (g.met.D.Disk.told c.sync.new.self) c.sync.ensures.changed)

pub returns-clause-told : goal.returns-clause-told
returns-clause-told g c =
    let told = told_ended Jnl 16 _ (record_bytes Two c.args.change c.args.redo.now.lengths c.args.redo.now.pieces) _ _ _ c.requires.room (ap (λ n. 16 + n) (c.record_size-size.ensures ∙ sym (same_size c.args.change c.args.redo.now))) c.in_ok-set_len.ensures.changed.done c.in_ok-put_gathered.ensures.told in
    on_ok c.sync.result _ _ (λ kept. kept ∙ told) c.sync.ensures.changed.kept

pub returns-clause-durable : goal.returns-clause-durable
returns-clause-durable g c =
    let told = told_ended Jnl 16 _ (record_bytes Two c.args.change c.args.redo.now.lengths c.args.redo.now.pieces) _ _ _ c.requires.room (ap (λ n. 16 + n) (c.record_size-size.ensures ∙ sym (same_size c.args.change c.args.redo.now))) c.in_ok-set_len.ensures.changed.done c.in_ok-put_gathered.ensures.told in
    on_ok c.sync.result _ _ (λ done. durable_at Jnl (with_record c.args.change c.args.redo.now) _ (g.D.Disk.device c.put_gathered.new.disk) (g.D.Disk.device c.sync.new.self) told done) c.sync.ensures.changed.done

pub returns-clause-come : goal.returns-clause-come
returns-clause-come g c =
    let redo = c.args.redo.now in
    let old = g.D.Disk.device c.args.disk.now in
    let sized = subst (λ (n : ℕ). ComeBy (record { file = Jnl; len = n } ∷ []) [] old.moments (g.D.Disk.device c.set_len.new.self).moments) (ap (λ n. 16 + n) c.record_size-size.ensures)
    (come_resized (record { file = Jnl; len = 16 + c.record_size-size.result }) _ _ c.in_ok-set_len.ensures.crash) in
    on_ok c.sync.result _ _ (come_then (journal_length redo ∷ []) [] [] (Jnl ∷ []) _ _ _ (come_on (journal_length redo ∷ []) [] _ _ _ sized c.in_ok-put_gathered.ensures.come))
    (come_synced Jnl (g.D.Disk.device c.put_gathered.new.disk) (g.D.Disk.device c.sync.new.self) c.sync.result (g.met.D.Disk.told c.put_gathered.new.disk) (g.met.D.Disk.told c.sync.new.self) c.sync.ensures.changed)
