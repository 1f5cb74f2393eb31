use Rattle.std.proofs.Common.{subst, sym}
use Rattle.jb_run.specs.NodePages.{ArePagersOf}
use Rattle.jb_run.proofs.PagerLemmas.{none_missing}
use Rattle.jb_run.proofs.node_pages.close_pages.Goals as goal

-- there is a pager for each node
pub unreachable-requires : goal.unreachable-requires
unreachable-requires g c =
    none_missing c.args.node_pages.pages c.reverse.new.self.items c.in_default.field-0.2
    (subst (ArePagersOf c.args.node_pages.pages) (sym c.reverse.ensures.items) c.requires) c.in_default.ensures.missing
