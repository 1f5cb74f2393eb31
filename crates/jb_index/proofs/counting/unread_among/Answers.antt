use Rattle.std.proofs.Common.{◌≡◌, filter, length, take, ap, arith, refl, ◌∙◌}
use Rattle.std.proofs.lemmas.List.{take_all}
use Rattle.jb_index.specs.Making.{is_unread, slots_listed}
use Rattle.jb_state.specs.LiveSlots.{linkables_from}
use Rattle.jb_index.proofs.MakingLemmas.{unread_more}
use Rattle.jb_index.proofs.counting.unread_among.Goals as goal

pub loop-place-preserved : goal.loop-place-preserved
loop-place-preserved c = record {
  counted = unread_more (is_unread c.args.rules.now c.args.user.now c.args.last) (linkables_from c.args.base c.args.slots.now) c.args.base c.loop-place.place c.args.slots.now c.index-slots-place.result c.loop-place.count c.unread_at-count.result _
      c.loop-place-test.true c.index-slots-place.is c.loop-place.invariant.counted (c.unread_at-count.ensures.count (linkables_from c.args.base c.args.slots.now)) refl;
  few = omega (arith, c.loop-place.invariant.few, c.unread_at-count.ensures.one);
}

pub returns : goal.returns
returns c =
    let all : take c.loop-place.place c.args.slots.now ≡ c.args.slots.now = take_all c.loop-place.place c.args.slots.now (omega arith) in
    c.loop-place.invariant.counted ∙ ap (λ l. length (filter (is_unread c.args.rules.now c.args.user.now c.args.last) (slots_listed (linkables_from c.args.base c.args.slots.now) c.args.base l))) all
