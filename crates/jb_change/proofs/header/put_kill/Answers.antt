use Rattle.std.proofs.Common.{◌+◌, ℕ, List, subst}
use Rattle.jb_disk.specs.declared.file.FileId.TheVariants.{Jhr}
use Rattle.jb_change.specs.Changing.{Puts}
use Rattle.jb_change.proofs.ChangeLemmas.{kill_makes, kill_header, kill_only}
use Rattle.jb_change.proofs.header.put_kill.Goals as goal

pub returns-clause-makes : goal.returns-clause-makes
returns-clause-makes c =
    kill_makes c.args.at c.args.attribute c.args.redo.now c.put_piece.new.redo c.requires.fits c.one_number.ensures.fits
    (subst (λ (l : List ℕ). Puts Jhr (c.args.at + 52) l c.args.redo.now c.put_piece.new.redo) c.one_number.ensures.exact c.put_piece.ensures.puts)

pub returns-clause-header : goal.returns-clause-header
returns-clause-header c =
    kill_header c.args.at c.args.attribute c.args.redo.now c.put_piece.new.redo c.requires.fits c.one_number.ensures.fits
    (subst (λ (l : List ℕ). Puts Jhr (c.args.at + 52) l c.args.redo.now c.put_piece.new.redo) c.one_number.ensures.exact c.put_piece.ensures.puts)

pub returns-clause-only : goal.returns-clause-only
returns-clause-only c =
    kill_only c.args.at c.args.attribute c.args.redo.now c.put_piece.new.redo c.requires.fits c.one_number.ensures.fits
    (subst (λ (l : List ℕ). Puts Jhr (c.args.at + 52) l c.args.redo.now c.put_piece.new.redo) c.one_number.ensures.exact c.put_piece.ensures.puts)
