use Rattle.std.proofs.Common.{◌∙◌, ap, sym, subst}
use Rattle.std.specs.Prelude.{Option, Some}
use Rattle.jb_board.specs.Run.{AnswersWords}
use Rattle.jb_board.specs.Words.{Words, words_of}
use Rattle.jb_board.specs.declared.command.CommandLine.{CommandLine}
use Rattle.jb_board.proofs.top.answer.Goals as goal

pub returns-in-Some-Backup-clause-found : goal.returns-in-Some-Backup-clause-found
returns-in-Some-Backup-clause-found g c =
    subst (λ (w : Option Words). AnswersWords g.H.Host.door_for g.H.Host.bell_over w c.args.moment (g.H.Host.desk c.args.host.now) (g.H.Host.desk c.use_backup.new.host) c.use_backup.result)
    (sym (c.in-Some-Backup.ensures.found ∙ ap (λ (l : CommandLine). Some (words_of l)) c.in-Some-Backup.field-0-is)) c.use_backup.ensures
