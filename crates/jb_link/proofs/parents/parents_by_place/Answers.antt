use Rattle.std.proofs.Common.{◌+◌, List, ℕ, subst, sym}
use Rattle.jb_link.specs.Ids.{number_of}
use Rattle.jb_link.specs.Parents.{AreParents}
use Rattle.jb_state.specs.LiveSlots.{linkables_from}
use Rattle.jb_link.proofs.ParentLemmas.{lowest_step, parents_step}
use Rattle.jb_link.proofs.parents.parents_by_place.Goals as goal

pub loop-place-preserved : goal.loop-place-preserved
loop-place-preserved c =
    let Goal : List ℕ → Type 0 = λ parents. AreParents (linkables_from c.args.base c.args.slots.now) c.args.base (c.loop-place.place + 1) parents in
    record {
      settled = c.in_ok-keep_id.ensures.0;
      ids =
          lowest_step c.args.base c.loop-place.place c.args.slots.now (number_of c.args.base c.args.slots.now c.loop-place.ids)
          (number_of c.args.base c.args.slots.now c.keep_id.new.ids) c.requires.base c.loop-place-test.true c.loop-place.invariant.ids c.in_ok-keep_id.ensures.1;
      parents =
          subst Goal (sym {A = List ℕ} c.in_ok-push.ensures.items)
          (parents_step (linkables_from c.args.base c.args.slots.now) c.args.base c.loop-place.place c.parent_at.result c.loop-place.parents.items
          c.loop-place.invariant.parents c.parent_at.ensures);
    }
