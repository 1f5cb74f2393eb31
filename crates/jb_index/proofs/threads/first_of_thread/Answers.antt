use Rattle.std.proofs.Common.{◌≡◌, ◌∙◌, sym, subst, List, take}
use Rattle.std.specs.Prelude.{IfOk}
use Rattle.jb_state.specs.declared.summary.Summary.{Summary}
use Rattle.jb_index.specs.Answer.{is_listed}
use Rattle.jb_index.proofs.ThreadLemmas.{root_of_place, thread_is}
use Rattle.jb_index.proofs.threads.first_of_thread.Goals as goal

pub returns : goal.returns
returns c =
    let F : List Summary → Type 0 = λ l. IfOk c.with_root.result (λ found. found ≡ take c.args.most l) in
    subst F (thread_is c.args.summaries.now.items (is_listed c.args.rules.now c.args.user.now) c.args.number c.index-root.result.now (sym c.in-Some.ensures.shown)
    (c.index-root.ensures ∙ root_of_place c.args.summaries.now.items _ c.in-Some.at c.args.number c.index-root.result.now c.in_ok-roots.ensures c.in-Some.ensures.place c.in-Some.ensures.number))
    c.with_root.ensures
