use Rattle.std.proofs.Common.{Some, refl, ap, ◌∙◌}
use Rattle.std.proofs.lemmas.Option.{slice_get_read}
use Rattle.jb_link.specs.Ids.{number_of}
use Rattle.jb_link.proofs.ParentLemmas.{parent_by_kept, parent_by_lowest, parent_of_no_message}
use Rattle.jb_link.proofs.parents.parent_at.Goals as goal

pub returns-in_default : goal.returns-in_default
returns-in_default c =
    parent_of_no_message c.args.base c.args.place c.args.slots.now c.index-slots-place.result
    (slice_get_read c.args.slots.now _ c.args.place c.index-slots-place.result refl c.requires.place c.index-slots-place.is) c.in_default.not-Live

pub returns-in-Some : goal.returns-in-Some
returns-in-Some c =
    parent_by_lowest c.args.base c.args.place c.number_of.result c.args.slots.now c.in-Live.message (number_of c.args.base c.args.slots.now c.args.ids.now) c.in-Some.id.now
    (slice_get_read c.args.slots.now _ c.args.place c.index-slots-place.result refl c.requires.place c.index-slots-place.is ∙ ap Some c.in-Live.is)
    c.in-Some.ensures c.requires.ids c.number_of.ensures

pub returns-in-None : goal.returns-in-None
returns-in-None c =
    parent_by_kept c.args.base c.args.place c.number_if_live.result c.args.slots.now c.in-Live.message
    (slice_get_read c.args.slots.now _ c.args.place c.index-slots-place.result refl c.requires.place c.index-slots-place.is ∙ ap Some c.in-Live.is)
    c.in-None.ensures c.number_if_live.ensures
