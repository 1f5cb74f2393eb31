use Rattle.std.proofs.Common.{ap, sym, ◌∙◌}
use Rattle.jb_area.specs.Area.{rules_of}
use Rattle.jb_base.specs.declared.area.AreaRules.{AreaRules}
use Rattle.jb_index.specs.Index.{index_of}
use Rattle.jb_state.specs.State.{state_of}
use Rattle.jb_state.specs.declared.loaded.Loaded.{Loaded}
use Rattle.jb_shared.proofs.making.indexes.Goals as goal

pub returns-clause-first : goal.returns-clause-first
returns-clause-first g c = λ texts.
    c.in_ok-first.ensures texts ∙ ap (λ (r : AreaRules). index_of r (state_of texts c.loaded-2.result.now)) c.rules.ensures
    ∙ ap (λ (l : Loaded). index_of (rules_of c.args.area.now) (state_of texts l)) c.loaded-2.ensures

pub returns-clause-alike : goal.returns-clause-alike
returns-clause-alike g c = sym c.in_ok-second.ensures
