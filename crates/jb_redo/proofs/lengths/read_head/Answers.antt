use Rattle.std.proofs.Common.{◌∙◌, subst}
use Rattle.jb_redo.specs.Reading.{BeginsWith}
use Rattle.jb_redo.specs.Walk.{journal_from}
use Rattle.jb_redo.proofs.WalkLemmas.{bad_mark, bad_change}
use Rattle.jb_redo.proofs.lengths.read_head.Goals as goal

pub returns-then-not-branch-clause-refused : goal.returns-then-not-branch-clause-refused
returns-then-not-branch-clause-refused g c = λ files is.
    bad_mark files c.args.sizes.now.version (c.requires.version files is) (rw c.start_mark.ensures at (c.in_ok-has_mark.ensures.none c.if-not-branch.true files is))

pub returns-in_default-clause-refused : goal.returns-in_default-clause-refused
returns-in_default-clause-refused g c = λ files is.
    let none = rw c.in_default.is at c.in_ok-change-in-Two.ensures.none in
    let now = c.has_mark.ensures.kept.contents ∙ is in
    bad_change files c.args.sizes.now.version (c.requires.version files is) c.in-Two.is
    (subst (BeginsWith (journal_from files 16)) c.start_mark.ensures (c.in_ok-has_mark.ensures.found c.if-not-branch.false files is)) (none files now)
