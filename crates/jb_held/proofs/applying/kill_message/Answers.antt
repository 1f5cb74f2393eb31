use Rattle.std.proofs.Common.{List, sym, subst}
use Rattle.jb_state.specs.declared.loaded.LoadedSlot.{LoadedSlot}
use Rattle.jb_link.specs.Index.{IsIndexOf}
use Rattle.jb_held.proofs.IndexLaws.{index_there}
use Rattle.jb_held.proofs.applying.kill_message.Goals as goal

pub returns-clause-index : goal.returns-clause-index
returns-clause-index c =
    subst (λ (slots : List LoadedSlot). IsIndexOf c.killed.new.self (record c.args.loaded.now { slots = slots })) (sym c.set.ensures)
    (index_there c.killed.new.self c.args.loaded.now c.args.place c.in-Live.message.header_at c.killed.ensures.index)
