use Rattle.std.proofs.Common.{◌∙◌, sym}
use Rattle.jb_image.proofs.Opened.{has_slot_whole}
use Rattle.jb_image.proofs.WholeAt.{whole_more, whole_there}
use Rattle.jb_image.proofs.loading.test_slot.Goals as goal

pub returns-then-contains-clause-passed : goal.returns-then-contains-clause-passed
returns-then-contains-clause-passed g c = λ files contents_is entry seen_as.
    whole_there files c.args.whole.now entry c.named-place.result (c.requires.whole files contents_is) (c.named-place.ensures files entry seen_as)
    (sym c.contains.ensures ∙ c.if-contains.true)

pub returns-in_ok-insert-in-Ok-clause-passed : goal.returns-in_ok-insert-in-Ok-clause-passed
returns-in_ok-insert-in-Ok-clause-passed g c = λ files contents_is entry seen_as.
    let named = rw c.in-Ok.is at c.in_ok-_loaded.ensures.named in
    has_slot_whole files entry c.in-Ok._loaded (named files contents_is entry seen_as)

pub returns-in_ok-insert-in-Ok-clause-whole : goal.returns-in_ok-insert-in-Ok-clause-whole
returns-in_ok-insert-in-Ok-clause-whole g c = λ files contents_is entry seen_as.
    let named = rw c.in-Ok.is at c.in_ok-_loaded.ensures.named in
    whole_more files c.args.whole.now c.insert.new.self entry c.named-place.result (c.requires.whole files contents_is) (c.named-place.ensures files entry seen_as)
    (has_slot_whole files entry c.in-Ok._loaded (named files contents_is entry seen_as)) c.in_ok-insert-in-Ok.ensures.updates.2
