use Rattle.std.proofs.Common.{◌∙◌}
use Rattle.jb_image.proofs.AreaLemmas.{opens_to}
use Rattle.jb_image.proofs.opening.read_area.Goals as goal

pub returns-clause-opens : goal.returns-clause-opens
returns-clause-opens g c = λ files contents_is.
    let are = c.requires.lengths files contents_is in
    let fixed = c.in_ok-fixed.ensures.found files contents_is in
    let by_fixed = c.read_fixed.ensures.kept.contents ∙ contents_is in
    let by_slots = c.read_slots.ensures.kept.contents ∙ by_fixed in
    opens_to c.args.limit files c.in_ok-fixed.fixed c.args.lengths.now c.in_ok-count.count c.in_ok-slots.slots c.in_ok-marks.marks _
    are fixed.0 fixed.1 c.in_ok-fixed.ensures.base c.in_ok-count.ensures.found
    c.in_ok-slots.ensures.count_is c.in_ok-slots.ensures.apart (c.in_ok-slots.ensures.named files by_fixed) (c.in_ok-marks.ensures.found files by_slots)
    c.loaded_of.ensures.fixed c.loaded_of.ensures.slots c.loaded_of.ensures.marks c.loaded_of.ensures.headers_len c.loaded_of.ensures.texts_len
