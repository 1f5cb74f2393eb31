use Rattle.std.proofs.Common.{sym, ◌∙◌, subst}
use Rattle.jb_image.specs.declared.seen.SeenSlot.{SeenSlot}
use Rattle.jb_image.specs.Reading.{IsSeenAs}
use Rattle.jb_image.proofs.message.load_slot.Goals as goal

pub returns-in-Ok-clause-named : goal.returns-in-Ok-clause-named
returns-in-Ok-clause-named g c = λ files contents_is entry seen_as.
    let seen = subst (λ (s : SeenSlot). IsSeenAs files entry s) c.in-Live.is seen_as in
    let live = rw c.in-Ok.is at c.in_ok-message-in-Live.ensures.live in
    let found = rw c.in-Ok.is at c.in_ok-message-in-Live.ensures.found in
    let named = live files contents_is entry seen in
    (named.0, sym seen.at ∙ sym found.0, named.1)
