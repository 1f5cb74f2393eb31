use Rattle.std.proofs.Common.{◌+◌, ℕ, List, subst}
use Rattle.jb_disk.specs.declared.file.FileId.TheVariants.{Jhr}
use Rattle.jb_change.specs.Changing.{Puts}
use Rattle.jb_change.proofs.ChangeLemmas.{links_make, links_header, links_only}
use Rattle.jb_change.proofs.header.put_links.Goals as goal

pub returns-clause-makes : goal.returns-clause-makes
returns-clause-makes c =
    links_make c.args.at c.args.reply_to c.args.first c.args.next c.args.redo.now c.put_piece.new.redo c.requires.fits
    c.three_numbers.ensures.first_fits c.three_numbers.ensures.second_fits c.three_numbers.ensures.third_fits
    (subst (λ (l : List ℕ). Puts Jhr (c.args.at + 24) l c.args.redo.now c.put_piece.new.redo) c.three_numbers.ensures.exact c.put_piece.ensures.puts)

pub returns-clause-header : goal.returns-clause-header
returns-clause-header c =
    links_header c.args.at c.args.reply_to c.args.first c.args.next c.args.redo.now c.put_piece.new.redo c.requires.fits
    c.three_numbers.ensures.first_fits c.three_numbers.ensures.second_fits c.three_numbers.ensures.third_fits
    (subst (λ (l : List ℕ). Puts Jhr (c.args.at + 24) l c.args.redo.now c.put_piece.new.redo) c.three_numbers.ensures.exact c.put_piece.ensures.puts)

pub returns-clause-only : goal.returns-clause-only
returns-clause-only c =
    links_only c.args.at c.args.reply_to c.args.first c.args.next c.args.redo.now c.put_piece.new.redo c.requires.fits
    c.three_numbers.ensures.first_fits c.three_numbers.ensures.second_fits c.three_numbers.ensures.third_fits
    (subst (λ (l : List ℕ). Puts Jhr (c.args.at + 24) l c.args.redo.now c.put_piece.new.redo) c.three_numbers.ensures.exact c.put_piece.ensures.puts)
