use Rattle.std.proofs.Common.{◌+◌, ℕ, List, subst}
use Rattle.jb_disk.specs.declared.file.FileId.TheVariants.{Jhr}
use Rattle.jb_change.specs.Changing.{Puts}
use Rattle.jb_change.proofs.ReadingLemmas.{reading_makes, reading_header, reading_only}
use Rattle.jb_change.proofs.header.put_reading.Goals as goal

pub returns-clause-makes : goal.returns-clause-makes
returns-clause-makes c =
    reading_makes c.args.at c.args.reading.now c.args.redo.now c.put_piece.new.redo c.put_piece-2.new.redo c.put_piece-3.new.redo c.requires.fits c.requires.live
    c.one_number.ensures.fits c.one_number-2.ensures.fits c.one_number-3.ensures.fits
    (subst (λ (l : List ℕ). Puts Jhr (c.args.at + 12) l c.args.redo.now c.put_piece.new.redo) c.one_number.ensures.exact c.put_piece.ensures.puts)
    (subst (λ (l : List ℕ). Puts Jhr (c.args.at + 40) l c.put_piece.new.redo c.put_piece-2.new.redo) c.one_number-2.ensures.exact c.put_piece-2.ensures.puts)
    (subst (λ (l : List ℕ). Puts Jhr (c.args.at + 52) l c.put_piece-2.new.redo c.put_piece-3.new.redo) c.one_number-3.ensures.exact c.put_piece-3.ensures.puts)

pub returns-clause-header : goal.returns-clause-header
returns-clause-header c =
    reading_header c.args.at c.args.reading.now c.args.redo.now c.put_piece.new.redo c.put_piece-2.new.redo c.put_piece-3.new.redo c.requires.fits c.requires.live
    c.one_number.ensures.fits c.one_number-2.ensures.fits c.one_number-3.ensures.fits
    (subst (λ (l : List ℕ). Puts Jhr (c.args.at + 12) l c.args.redo.now c.put_piece.new.redo) c.one_number.ensures.exact c.put_piece.ensures.puts)
    (subst (λ (l : List ℕ). Puts Jhr (c.args.at + 40) l c.put_piece.new.redo c.put_piece-2.new.redo) c.one_number-2.ensures.exact c.put_piece-2.ensures.puts)
    (subst (λ (l : List ℕ). Puts Jhr (c.args.at + 52) l c.put_piece-2.new.redo c.put_piece-3.new.redo) c.one_number-3.ensures.exact c.put_piece-3.ensures.puts)

pub returns-clause-only : goal.returns-clause-only
returns-clause-only c =
    reading_only c.args.at c.args.reading.now c.args.redo.now c.put_piece.new.redo c.put_piece-2.new.redo c.put_piece-3.new.redo c.requires.fits c.requires.live
    c.one_number.ensures.fits c.one_number-2.ensures.fits c.one_number-3.ensures.fits
    (subst (λ (l : List ℕ). Puts Jhr (c.args.at + 12) l c.args.redo.now c.put_piece.new.redo) c.one_number.ensures.exact c.put_piece.ensures.puts)
    (subst (λ (l : List ℕ). Puts Jhr (c.args.at + 40) l c.put_piece.new.redo c.put_piece-2.new.redo) c.one_number-2.ensures.exact c.put_piece-2.ensures.puts)
    (subst (λ (l : List ℕ). Puts Jhr (c.args.at + 52) l c.put_piece-2.new.redo c.put_piece-3.new.redo) c.one_number-3.ensures.exact c.put_piece-3.ensures.puts)
