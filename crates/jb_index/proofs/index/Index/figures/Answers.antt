use Rattle.std.proofs.Common.{◌≡◌, ◌∙◌, ap, filter, length}
use Rattle.jb_index.specs.Answer.{is_listed, listed_to}
use Rattle.jb_index.specs.Index.{AreaIndex}
use Rattle.jb_index.proofs.ListLemmas.{filter_true}
use Rattle.jb_index.proofs.index.Index.figures.Goals as goal

pub count_wanted-requires : goal.count_wanted-requires
count_wanted-requires c = record { rising = c.self.invariant.rising; counted = c.self.invariant.counted }

pub returns : goal.returns
returns c =
    let base : c.self.inside.base ≡ c.args.self.now.base = ap (λ (index : AreaIndex). index.base) c.self.view_is in
    let next : c.self.inside.next ≡ c.args.self.now.next = ap (λ (index : AreaIndex). index.next) c.self.view_is in
    let visible : c.count_wanted.result ≡ length (listed_to c.args.self.now c.args.user.now)
    = c.count_wanted.ensures ∙ ap length (filter_true (filter (is_listed c.self.inside.rules c.args.user.now) c.self.inside.summaries.items))
    ∙ ap (λ (index : AreaIndex). length (listed_to index c.args.user.now)) c.self.view_is in
    cc (base, next, visible, c.unread_count.ensures, c.last.ensures, c.high.ensures)
