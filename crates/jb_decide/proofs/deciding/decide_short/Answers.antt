use Rattle.std.proofs.Common.{List, [], ℕ, subst, sym}
use Rattle.jb_change.proofs.LeavesLemmas.{index_on_kill}
use Rattle.jb_change.specs.Headers.{Updates}
use Rattle.jb_change.specs.Put.{IsMoved}
use Rattle.jb_held.specs.Pending.{BringsRoom}
use Rattle.jb_held.specs.declared.pending.Room.{Room}
use Rattle.jb_state.specs.Change.{after}
use Rattle.jb_state.specs.declared.change.Change.{Change}
use Rattle.jb_state.specs.declared.loaded.Loaded.{Loaded}
use Rattle.jb_decide.specs.StepOf.{written_text}
use Rattle.jb_decide.proofs.DecidedLemmas.{short_is, short_room, step_decided}
use Rattle.jb_decide.proofs.HeaderLemmas.{moves_none}
use Rattle.jb_decide.proofs.deciding.decide_short.Goals as goal

pub returns-clause-decided : goal.returns-clause-decided
returns-clause-decided c = rw (← c.loaded.ensures) (λ rules user moment command shows texts contents sound are step answer.
    let from : Loaded = c.loaded.result.now in
    let change : Change = c.args.outcome.change in
    step_decided rules from texts contents c.put_short.new.redo user moment command shows _ step answer
    (λ some. record {
      updates = moves_none (IsMoved change) c.put_short.new.redo from (after change from) _
          (subst (λ (t : List ℕ). Updates c.put_short.new.redo from (after change from) t) (sym (short_is c.put_short.new.redo from change (written_text command) c.requires.kind).1) c.put_short.ensures.makes);
      numbered = (short_is c.put_short.new.redo from change [] c.requires.kind).0;
      index = index_on_kill c.put_short.new.redo from change c.put_short.ensures.leaves.index;
      writable = c.put_short.ensures.writable;
    }) (subst (λ (room : Room). BringsRoom change room from) (sym c.none-room.ensures) (short_room change from c.requires.kind)) are.sized)
