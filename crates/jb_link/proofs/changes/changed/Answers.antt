use Rattle.std.proofs.Common.{◌≡◌, ◌≤◌, count_by, length, [], sym, ◌∙◌, arith}
use Rattle.jb_state.specs.Relinked.{wrongly_linked}
use Rattle.jb_state.specs.State.{state_of}
use Rattle.jb_state.specs.Plan.{differs, loaded_at}
use Rattle.jb_link.proofs.ChangeLemmas.{count_within, counted_changes, none_wrong}
use Rattle.jb_link.proofs.changes.changed.Goals as goal

pub overflow_cast-result : goal.overflow_cast-result
overflow_cast-result c =
    let few : count_by (λ links. differs (loaded_at c.args.loaded.now links.number) links) c.args.plan.now ≤ length c.args.loaded.now.slots
    = count_within _ c.args.loaded.now c.args.plan.now (c.requires.plan []) in
    omega (arith, c.count_changed.ensures, c.requires.numbers)

pub returns-clause-count : goal.returns-clause-count
returns-clause-count c = λ texts. c.count_changed.ensures ∙ counted_changes texts c.args.loaded.now c.args.plan.now (c.requires.plan [])

pub returns-clause-linked : goal.returns-clause-linked
returns-clause-linked c = λ texts.
    let counted : c.count_changed.result ≡ wrongly_linked (state_of texts c.args.loaded.now)
    = c.count_changed.ensures ∙ counted_changes texts c.args.loaded.now c.args.plan.now (c.requires.plan []) in
    (λ none. (none_wrong (state_of texts c.args.loaded.now)).0 (sym counted ∙ none), λ linked. counted ∙ (none_wrong (state_of texts c.args.loaded.now)).1 linked)
