use Rattle.std.proofs.Common.{sym, ◌∙◌}
use Rattle.jb_index.proofs.PlaceLemmas.{not_at}
use Rattle.jb_index.proofs.listing.numbered_at.Goals as goal

pub returns-else-summary-number : goal.returns-else-summary-number
returns-else-summary-number c =
    not_at c.args.summaries.now.items c.args.number c.place_of-at.result c.in_ok-summary.summary c.requires c.place_of-at.ensures (sym c.get.ensures ∙ c.in_ok-summary.was) c.if-summary-number.false
