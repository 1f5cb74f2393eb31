use Rattle.std.proofs.Common.{[], ◌+◌, ◌∙◌, ap, sym, subst, Option}
use Rattle.jb_disk.specs.declared.file.FileId.TheVariants.{Jnl}
use Rattle.jb_disk.specs.Files.{Files}
use Rattle.jb_disk.specs.declared.version.Version.TheVariants.{Two}
use Rattle.jb_disk.proofs.RunLemmas.{keeps-then}
use Rattle.jb_redo.specs.Record.{record_bytes}
use Rattle.jb_journal.specs.Pending.{Pending, told_with}
use Rattle.jb_journal.specs.Stages.{KeepsHead}
use Rattle.jb_journal.specs.Writing.{Reaches}
use Rattle.jb_journal.proofs.ComingLemmas.{come_on}
use Rattle.jb_journal.proofs.GatherLemmas.{seen-none}
use Rattle.jb_journal.proofs.PutsLemmas.{puts_flushed}
use Rattle.jb_journal.proofs.Told.{on_ok}
use Rattle.jb_journal.proofs.recording.put_gathered.Goals as goal

pub put_record-requires-clause-room : goal.put_record-requires-clause-room
put_record-requires-clause-room g c =
    let contents = (g.D.Disk.device c.args.disk.now).contents in
    subst (λ (o : Option Files). Reaches o Jnl (16 + c.args.size)) (sym (ap (λ (p : Pending). told_with p contents) c.new-gathering.ensures ∙ seen-none Jnl 16 contents)) c.requires.room

pub returns-clause-told : goal.returns-clause-told
returns-clause-told g c =
    puts_flushed 16 (record_bytes Two c.args.change c.args.redo.now.lengths c.args.redo.now.pieces) c.new-gathering.result _ _ _ _ _ _ c.flush.result (ap (λ (p : Pending). p.bytes) c.new-gathering.ensures) c.in_ok-put_record.ensures c.flush.ensures

pub returns-clause-keeps : goal.returns-clause-keeps
returns-clause-keeps g c = λ start. keeps-then (KeepsHead start) _ _ _ (c.put_record.ensures.keeps start) (c.flush.ensures.head c.in_ok-put_record.ensures.bound.head start)

pub returns-clause-come : goal.returns-clause-come
returns-clause-come g c = on_ok c.flush.result _ _ (come_on [] [] _ _ _ c.in_ok-put_record.ensures.come) c.flush.ensures.come
