use Rattle.std.proofs.Common.{[], subst, sym}
use Rattle.jb_state.specs.Change.{after}
use Rattle.jb_state.specs.declared.change.Change.{Change}
use Rattle.jb_state.specs.declared.change.Change.TheVariants.{Nothing}
use Rattle.jb_state.specs.declared.loaded.Loaded.{Loaded}
use Rattle.jb_change.specs.Headers.{Updates}
use Rattle.jb_change.specs.Put.{LeavesRest, MayWrite}
use Rattle.jb_change.proofs.LeavesLemmas.{leaves_nothing, leaves_rest}
use Rattle.jb_change.proofs.UpdateLemmas.{updates_cleared}
use Rattle.jb_change.proofs.changes.put_short.Goals as goal

pub returns-in-Nothing-clause-makes : goal.returns-in-Nothing-clause-makes
returns-in-Nothing-clause-makes c =
    let from : Loaded = c.args.loaded.now in
    subst (λ (change : Change). Updates c.clear.new.redo from (after change from) []) (sym c.in-Nothing.is)
    (updates_cleared c.clear.new.redo from c.clear.ensures.cleared)

pub returns-in-Nothing-clause-leaves : goal.returns-in-Nothing-clause-leaves
returns-in-Nothing-clause-leaves c =
    let from : Loaded = c.args.loaded.now in
    let empty = c.clear.ensures.cleared in
    subst (LeavesRest c.clear.new.redo from) (sym c.in-Nothing.is)
    (leaves_rest c.clear.new.redo from Nothing [] (updates_cleared c.clear.new.redo from empty) (leaves_nothing c.clear.new.redo from (MayWrite from Nothing) empty.no_lengths empty.no_pieces))
