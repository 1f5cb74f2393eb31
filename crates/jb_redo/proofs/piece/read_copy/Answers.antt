use Rattle.std.proofs.Common.{sym, subst}
use Rattle.jb_redo.specs.Walk.{IsPartAt}
use Rattle.jb_redo.proofs.FieldLemmas.{on_none, on_some}
use Rattle.jb_redo.proofs.PieceLemmas.{copy_there, copy_cut, copy_not_there}
use Rattle.jb_redo.proofs.Spelling.{from_width}
use Rattle.jb_redo.proofs.piece.read_copy.Goals as goal

pub returns-in_default-clause-none : goal.returns-in_default-clause-none
returns-in_default-clause-none g c = λ files is.
    let none = rw c.in_default.is at c.in_ok-from_at.ensures.none in
    let few = rw (c.front_bytes.ensures, c.width-width.ensures) at (none files is) in
    copy_cut files c.args.ends.now c.args.at c.args.to_at c.args.len c.requires.place c.requires.size (c.requires.begins files is) few

pub returns-clause-found : goal.returns-clause-found
returns-clause-found g c =
    let found = rw c.in-Some.is at c.in_ok-from_at.ensures.found in
    let fits = rw c.in-Some.is at c.in_ok-from_at.ensures.fits in
    let low = from_width c.args.ends.now.version c.in-Some.from_at (rw c.width-width.ensures at fits) in
    on_some c.copied_part.result _ _ (rw (c.front_bytes.ensures, c.width-width.ensures) at c.copied_part.ensures.found) (λ part made files is.
    subst (IsPartAt files c.args.ends.now c.args.at) (sym made.0)
    (copy_there files c.args.ends.now c.args.at c.args.sizes.now c.in-Some.from_at c.args.to_at c.args.len (c.requires.sizes files is) c.requires.place c.requires.size low
    (c.requires.begins files is) (rw (c.front_bytes.ensures, c.width-width.ensures) at (found files is)) made.1 made.2))

pub returns-clause-none : goal.returns-clause-none
returns-clause-none g c =
    let found = rw c.in-Some.is at c.in_ok-from_at.ensures.found in
    let fits = rw c.in-Some.is at c.in_ok-from_at.ensures.fits in
    let low = from_width c.args.ends.now.version c.in-Some.from_at (rw c.width-width.ensures at fits) in
    on_none c.copied_part.result _ _ c.copied_part.ensures.none (λ none files is.
    copy_not_there files c.args.ends.now c.args.at c.args.sizes.now c.in-Some.from_at c.args.to_at c.args.len (c.requires.sizes files is) c.requires.place c.requires.size low
    (c.requires.begins files is) (rw (c.front_bytes.ensures, c.width-width.ensures) at (found files is)) none)
