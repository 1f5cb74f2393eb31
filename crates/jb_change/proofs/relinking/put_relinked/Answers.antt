use Rattle.std.proofs.Common.{inl, inr, ◌+◌, ◌%◌, ◌^◌, ℕ, [], ap, subst, sym}
use Rattle.jb_state.specs.Linked.{with_links_of}
use Rattle.jb_state.specs.declared.loaded.Loaded.{Loaded}
use Rattle.jb_limits.specs.declared.limits.TheConstants.{MOST_SLOTS}
use Rattle.jb_change.specs.Headers.{Updates}
use Rattle.jb_change.specs.Put.{IsInLinks, MayWrite}
use Rattle.jb_state.specs.declared.change.Change.TheVariants.{Relinked}
use Rattle.jb_change.proofs.AfterLemmas.{counted_is, near_headers}
use Rattle.jb_change.proofs.PlanLemmas.{counter_of}
use Rattle.jb_state.proofs.LinkedLaws.{plan_is_placed}
use Rattle.jb_change.proofs.LeavesLemmas.{leaves_counts, leaves_more, leaves_nothing, leaves_rest}
use Rattle.jb_change.proofs.UpdateLemmas.{updates_counted, updates_ready}
use Rattle.jb_change.proofs.relinking.put_relinked.Goals as goal

pub put_plan-requires-clause-near : goal.put_plan-requires-clause-near
put_plan-requires-clause-near c = near_headers MOST_SLOTS c.args.loaded.now c.requires.sound

pub put_plan-requires-clause-placed : goal.put_plan-requires-clause-placed
put_plan-requires-clause-placed c = plan_is_placed c.args.loaded.now c.args.plan.now c.requires.fits

pub returns-clause-makes : goal.returns-clause-makes
returns-clause-makes c =
    let from : Loaded = c.args.loaded.now in
    let linked : Loaded = with_links_of c.args.plan.now from in
    subst (λ (l : Loaded). Updates c.put_counts.new.redo from l [])
    (counted_is linked _ c.args.active (ap (λ (n : ℕ). (n + 1) % 2 ^ 32) (sym (counter_of c.args.plan.now from))) c.requires.active)
    (updates_counted c.put_plan.new.redo c.put_counts.new.redo _ c.args.active c.put_counts.ensures.makes c.put_counts.ensures.only from linked []
    (c.put_plan.ensures.makes (updates_ready _ c.make_room.new.redo from c.in_ok-make_room.ensures.ready)))

pub returns-clause-leaves : goal.returns-clause-leaves
returns-clause-leaves c =
    let from : Loaded = c.args.loaded.now in
    let empty = c.in_ok-make_room.ensures.ready in
    let ready : Updates c.make_room.new.redo from from [] = updates_ready _ c.make_room.new.redo from empty in
    leaves_rest c.put_counts.new.redo from (Relinked c.args.plan.now) [] (returns-clause-makes c)
    (leaves_counts c.put_plan.new.redo c.put_counts.new.redo from (with_links_of c.args.plan.now from) [] (MayWrite from (Relinked c.args.plan.now)) c.put_counts.ensures.only
    (c.put_plan.ensures.makes ready) (λ i own. inl own)
    (leaves_more c.put_plan.new.redo from (IsInLinks from) (MayWrite from (Relinked c.args.plan.now)) (λ file i own. inr own)
    (c.put_plan.ensures.leaves ready (leaves_nothing c.make_room.new.redo from (IsInLinks from) empty.no_lengths empty.no_pieces))))
