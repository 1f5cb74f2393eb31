use Rattle.std.proofs.Common.{ℕ, List, subst}
use Rattle.jb_disk.specs.declared.file.FileId.TheVariants.{Jhr}
use Rattle.jb_change.specs.Changing.{Puts}
use Rattle.jb_change.proofs.AreaLemmas.{counts_make, counts_only}
use Rattle.jb_change.proofs.area.put_counts.Goals as goal

pub returns-clause-makes : goal.returns-clause-makes
returns-clause-makes c =
    counts_make c.args.counter c.args.active c.args.redo.now c.put_piece.new.redo c.two_numbers.ensures.first_fits c.two_numbers.ensures.second_fits
    (subst (λ (l : List ℕ). Puts Jhr 8 l c.args.redo.now c.put_piece.new.redo) c.two_numbers.ensures.exact c.put_piece.ensures.puts)

pub returns-clause-only : goal.returns-clause-only
returns-clause-only c =
    counts_only c.args.counter c.args.active c.args.redo.now c.put_piece.new.redo
    (subst (λ (l : List ℕ). Puts Jhr 8 l c.args.redo.now c.put_piece.new.redo) c.two_numbers.ensures.exact c.put_piece.ensures.puts)
