use Rattle.std.proofs.Common.{◌≡◌, List, take, sym, subst}
use Rattle.std.specs.Prelude.{IfOk}
use Rattle.jb_state.specs.declared.summary.Summary.{Summary}
use Rattle.jb_index.specs.Answer.{is_listed}
use Rattle.jb_index.specs.Cut.{IsSplitAt}
use Rattle.jb_index.specs.Wanted.{is_kind}
use Rattle.jb_index.proofs.PlaceLemmas.{kind_behind}
use Rattle.jb_index.proofs.listing.first_wanted.Goals as goal

pub returns : goal.returns
returns c =
    let F : List Summary → Type 0 = λ l. IfOk c.picked.result (λ found. found ≡ take c.args.most l) in
    subst F (sym (kind_behind (λ one. is_kind c.args.user.now c.args.wanted one) (is_listed c.args.rules.now c.args.user.now) c.args.summaries.now.items
    c.args.from c.lowest.result c.place_of-start.result (c.lowest.ensures c.args.user.now)
    (subst (λ n. IsSplitAt c.args.summaries.now.items n c.place_of-start.result) c.max.ensures c.place_of-start.ensures)))
    c.picked.ensures
