use Rattle.std.proofs.Common.{inl, inr, length}
use Rattle.jb_disk.specs.declared.file.FileId.TheVariants.{Jnl}
use Rattle.jb_redo.specs.Walk.{journal_from}
use Rattle.jb_redo.proofs.FieldLemmas.{begins_read, cut_short}
use Rattle.jb_redo.proofs.field.read_bytes.Goals as goal
use Rattle.jb_redo.proofs.field.read_bytes.Goals.{then-at-end-via-then-at-end, then-at-end-via-else-at-end+then-end-at}

pub returns-then-at-end-clause-none : goal.returns-then-at-end-clause-none
returns-then-at-end-clause-none g c = λ _ files is.
    cut_short (files Jnl) c.args.end c.args.at (length c.args.into.now) c.requires.some (c.requires.end files is)
    (elim c.then-at-end.branch [ then-at-end-via-then-at-end w ↦ inl w.if-at-end.true | then-at-end-via-else-at-end+then-end-at w ↦ inr w.if-end-at.true ])

pub returns-clause-found : goal.returns-clause-found
returns-clause-found g c = λ _ files is. begins_read (journal_from files c.args.at) c.read_at.new.into (length c.args.into.now) (c.in_ok-read_at.ensures.found files is)
