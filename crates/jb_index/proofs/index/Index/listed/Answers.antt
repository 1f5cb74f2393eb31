use Rattle.std.proofs.Common.{◌≡◌, List, filter, nat_le, subst, take}
use Rattle.std.specs.Prelude.{IfOk}
use Rattle.jb_state.specs.declared.summary.Summary.{Summary}
use Rattle.jb_index.specs.Answer.{first_from, is_listed, listed_to}
use Rattle.jb_index.specs.Index.{AreaIndex}
use Rattle.jb_index.proofs.ListLemmas.{filter_true}
use Rattle.jb_index.proofs.index.Index.listed.Goals as goal

pub returns : goal.returns
returns c =
    let F : List Summary → Type 0 = λ l. IfOk c.first_wanted.result (λ found. found ≡ take c.args.most (filter (λ one. nat_le c.args.from one.number) l)) in
    let G : AreaIndex → Type 0 = λ index. IfOk c.first_wanted.result (λ found. found ≡ first_from c.args.from c.args.most (listed_to index c.args.user.now)) in
    subst G c.self.view_is (subst F (filter_true (filter (is_listed c.self.inside.rules c.args.user.now) c.self.inside.summaries.items)) c.first_wanted.ensures)
