use Rattle.std.proofs.Common.{subst, sym}
use Rattle.std.specs.Prelude.{IfOk}
use Rattle.jb_state.specs.declared.loaded.LoadedSlot.{LoadedSlot}
use Rattle.jb_tool.proofs.CountLemmas.{counts_answered}
use Rattle.jb_tool.specs.Check.{CountsSlot}
use Rattle.jb_tool.proofs.counting.has_id.Goals as goal

pub returns-in-Live : goal.returns-in-Live
returns-in-Live c = subst (λ (s : LoadedSlot). IfOk c.has_readable_id.result (CountsSlot s)) (sym c.in-Live.is) (counts_answered c.in-Live.message c.has_readable_id.result c.has_readable_id.ensures)
