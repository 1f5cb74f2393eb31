use Rattle.std.proofs.Common.{◌∙◌, false, sym, arith, le-ltb}
use Rattle.jb_index.proofs.EditLemmas.{fits_new, fits_there, with_at, with_new}
use Rattle.jb_index.proofs.PlaceLemmas.{none_there}
use Rattle.jb_index.proofs.editing.put.Goals as goal

pub returns-in-Some-clause-fits : goal.returns-in-Some-clause-fits
returns-in-Some-clause-fits c =
    sym (fits_there c.args.slots c.args.one.now.number c.args.summaries.now.items c.in-Some.at c.in-Some.ensures.0 c.in-Some.ensures.1)

pub returns-in-Some-clause-items : goal.returns-in-Some-clause-items
returns-in-Some-clause-items c =
    c.set.ensures.items ∙ with_at c.args.summaries.now.items c.args.one.now c.in-Some.at c.requires.rising c.in-Some.ensures.0 c.in-Some.ensures.1

pub returns-then-len-slots-clause-fits : goal.returns-then-len-slots-clause-fits
returns-then-len-slots-clause-fits c =
    sym (fits_new c.args.slots c.args.one.now.number c.args.summaries.now.items false
    (none_there c.args.summaries.now.items c.args.one.now.number c.numbered_at.result c.numbered_at.ensures c.in_default.not-Some)
    (le-ltb _ _ (omega (arith, c.len.ensures, c.if-len-slots.true))))

pub returns-clause-items : goal.returns-clause-items
returns-clause-items c =
    c.insert.ensures.items
    ∙ with_new c.args.summaries.now.items c.args.one.now c.place_of-at.result c.place_of-at.ensures
    (none_there c.args.summaries.now.items c.args.one.now.number c.numbered_at.result c.numbered_at.ensures c.in_default.not-Some)
