use Rattle.std.proofs.Common.{List, ℕ, ap, subst, sym, ◌∙◌}
use Rattle.jb_change.proofs.LeavesLemmas.{index_on_kill}
use Rattle.jb_change.specs.Headers.{UpdatesBut}
use Rattle.jb_change.specs.Put.{IsMoved}
use Rattle.jb_state.specs.Change.{after}
use Rattle.jb_state.specs.declared.change.Change.{Change}
use Rattle.jb_state.specs.declared.loaded.Loaded.{Loaded}
use Rattle.jb_decide.specs.StepOf.{text_behind}
use Rattle.jb_decide.proofs.DecidedLemmas.{step_decided}
use Rattle.jb_decide.proofs.deciding.decide_long.Goals as goal

pub returns-clause-decided : goal.returns-clause-decided
returns-clause-decided c =
    let room = rw (← c.loaded.ensures) at c.in_ok-room.ensures in
    rw (← c.loaded.ensures) (λ rules user moment command shows texts contents sound are step posted answer.
    let from : Loaded = c.loaded.result.now in
    let change : Change = c.args.outcome.change in
    step_decided rules from texts contents c.put.new.redo user moment command shows _ step answer
    (λ some. record {
      updates = subst (λ (t : List ℕ). UpdatesBut (IsMoved change) c.put.new.redo from (after change from) t) (c.text_behind-text.ensures ∙ ap (text_behind change) (sym posted)) c.in_ok-put.ensures.makes;
      numbered = c.in_ok-put.ensures.numbered;
      index = index_on_kill c.put.new.redo from change c.in_ok-put.ensures.leaves.index;
      writable = c.in_ok-put.ensures.writable;
    }) room are.sized)
