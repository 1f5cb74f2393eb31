use Rattle.std.proofs.Common.{ℕ, List, ap, get_or, subst, sym, ◌∙◌, take}
use Rattle.std.proofs.lemmas.List.Elements.{All-get_or}
use Rattle.jb_state.specs.Plan.{loaded_at}
use Rattle.jb_state.specs.declared.links.Links.{Links}
use Rattle.jb_state.specs.declared.loaded.Loaded.{Loaded}
use Rattle.jb_state.specs.Linked.{IsPlaced, with_links_in}
use Rattle.jb_state.proofs.LinkedLaws.{plan_step, still_placed}
use Rattle.jb_held.proofs.applying.set_plan.Goals as goal

pub set_links_in-requires : goal.set_links_in-requires
set_links_in-requires c =
    let plan : List Links = c.args.plan.now in
    let k : ℕ = c.loop-links.links-index in
    let none : Links = record { number = 0; reply_to = 0; first = 0; next = 0 } in
    let from : Loaded = c.args.loaded.now in
    subst (λ (l : Loaded). IsPlaced l (get_or plan k none)) (sym c.loop-links.invariant)
    (still_placed (take k plan) from (get_or plan k none) (All-get_or (IsPlaced from) plan k none c.loop-links-test.true c.requires))

pub loop-links-preserved : goal.loop-links-preserved
loop-links-preserved c =
    let plan : List Links = c.args.plan.now in
    let k : ℕ = c.loop-links.links-index in
    let none : Links = record { number = 0; reply_to = 0; first = 0; next = 0 } in
    let links : Links = get_or plan k none in
    c.set_links_in.ensures
    ∙ ap (λ (l : Loaded). with_links_in links (loaded_at l links.number) l) c.loop-links.invariant
    ∙ plan_step plan k none c.args.loaded.now c.loop-links-test.true
