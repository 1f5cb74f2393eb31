use Rattle.std.proofs.Common.{[], ◌≡◌, ◌≤◌, ◌++◌, ◌∷◌, get_or, length, take, ap, ◌∙◌, arith}
use Rattle.std.proofs.lemmas.List.{get_or_default}
use Rattle.jb_state.specs.LiveSlots.{linkables_from}
use Rattle.jb_index.proofs.making.summaries_of.Goals as goal
use Rattle.jb_index.proofs.making.summaries_of.Goals.{in-Live+in_ok-reserve, in_default}
use Rattle.jb_index.proofs.MakingLemmas.{few_bytes_at, listed_few, listed_from, listed_none, listed_one, parent_within}

pub bounds-parents-at : goal.bounds-parents-at
bounds-parents-at c =
    parent_within c.args.base c.loop-place.place c.args.slots.now c.index-slots-place.result c.in-Live.message c.args.parents.now c.loop-place.list.items c.len-at.result
    c.loop-place-test.true c.index-slots-place.is c.in-Live.is c.requires.parents c.loop-place.invariant c.len-at.ensures

pub summary-one-requires : goal.summary-one-requires
summary-one-requires c =
    few_bytes_at c.args.slots.now c.index-slots-place.result c.in-Live.message c.loop-place.place c.requires.few_bytes c.loop-place-test.true c.index-slots-place.is c.in-Live.is

pub loop-place-preserved : goal.loop-place-preserved
loop-place-preserved c =
    elim c.match-slots-place.branch [
      | in-Live+in_ok-reserve w ↦
          listed_one c.args.base c.loop-place.place c.args.slots.now c.index-slots-place.result w.in-Live.message c.args.parents.now c.loop-place.list.items c.match-slots-place.list.items
          w.len-at.result (get_or c.args.parents.now w.len-at.result 0) w.summary-one.result
          c.loop-place-test.true c.index-slots-place.is w.in-Live.is c.requires.parents c.loop-place.invariant w.len-at.ensures
          (get_or_default c.args.parents.now w.len-at.result 0 _ (parent_within c.args.base c.loop-place.place c.args.slots.now c.index-slots-place.result w.in-Live.message c.args.parents.now c.loop-place.list.items w.len-at.result
          c.loop-place-test.true c.index-slots-place.is w.in-Live.is c.requires.parents c.loop-place.invariant w.len-at.ensures))
          w.summary-one.ensures
          (ap (λ l. l.items) w.list-is ∙ w.push.ensures.items ∙ ap (λ l. l ++ w.summary-one.result ∷ []) w.in_ok-reserve.ensures.items)
      | in_default w ↦
          listed_none c.args.base c.loop-place.place c.args.slots.now c.index-slots-place.result c.loop-place.list.items c.match-slots-place.list.items
          c.loop-place-test.true c.index-slots-place.is w.in_default.not-Live c.loop-place.invariant (ap (λ l. l.items) w.list-is)
    ]

pub offset_bounds-parents-at : goal.offset_bounds-parents-at
offset_bounds-parents-at c =
    let few : length (listed_from (linkables_from c.args.base c.args.slots.now) c.args.base (take c.loop-place.place c.args.slots.now)) ≤ c.loop-place.place
    = listed_few (linkables_from c.args.base c.args.slots.now) c.args.base c.loop-place.place c.args.slots.now in
    let count : c.len-at.result ≡ length (listed_from (linkables_from c.args.base c.args.slots.now) c.args.base (take c.loop-place.place c.args.slots.now))
    = c.len-at.ensures ∙ ap length c.loop-place.invariant in
    omega arith
