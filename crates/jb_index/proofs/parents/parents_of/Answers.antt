use Rattle.std.proofs.Common.{◌≡◌, ◌∙◌, ℕ, [], List, ap, map, subst}
use Rattle.std.specs.Prelude.{IfOk}
use Rattle.jb_state.specs.Plan.{links_of}
use Rattle.jb_state.specs.Links.{linkables_of}
use Rattle.jb_state.specs.State.{state_of}
use Rattle.jb_state.specs.declared.links.Links.{Links}
use Rattle.jb_state.proofs.RelinkLaws.{map-map}
use Rattle.jb_index.specs.Index.{parents_in}
use Rattle.jb_index.proofs.parents.parents_of.Goals as goal

pub returns : goal.returns
returns c =
    let live = linkables_of (state_of [] c.args.loaded.now) in
    let planned : map (λ (one : Links). one.reply_to) c.as_slice.result.now ≡ parents_in (state_of [] c.args.loaded.now)
    = ap (map (λ (one : Links). one.reply_to)) (c.as_slice.ensures ∙ c.in_ok-plan.ensures []) ∙ map-map (links_of live) (λ (one : Links). one.reply_to) live in
    let F : List ℕ → Type 0 = λ l. IfOk c.parents_among.result (λ parents. parents.items ≡ l) in
    subst F planned c.parents_among.ensures
