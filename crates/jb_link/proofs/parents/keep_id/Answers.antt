use Rattle.std.proofs.Common.{◌+◌, refl}
use Rattle.std.proofs.lemmas.Option.{slice_get_read}
use Rattle.jb_link.specs.Ids.{IsSettled, number_of}
use Rattle.jb_link.proofs.IdLemmas.{nothing_kept, slot_kept_on_ok}
use Rattle.jb_link.proofs.parents.keep_id.Goals as goal

pub returns-in-Some : goal.returns-in-Some
returns-in-Some c =
    slot_kept_on_ok c.keep.result (IsSettled c.keep.new.self) (number_of c.args.base c.args.slots.now c.args.ids.now)
    (number_of c.args.base c.args.slots.now c.keep.new.self) c.in-Some.id.now (c.args.base + c.args.place) c.args.place c.args.slots.now
    c.index-slots-place.result
    (slice_get_read c.args.slots.now _ c.args.place c.index-slots-place.result refl c.requires.place c.index-slots-place.is) c.in-Some.ensures c.keep.ensures

pub returns-in-None : goal.returns-in-None
returns-in-None c = (
  c.requires.settled,
  nothing_kept (number_of c.args.base c.args.slots.now c.args.ids.now) (c.args.base + c.args.place) c.args.place c.args.slots.now c.index-slots-place.result
      (slice_get_read c.args.slots.now _ c.args.place c.index-slots-place.result refl c.requires.place c.index-slots-place.is) c.in-None.ensures,
)
