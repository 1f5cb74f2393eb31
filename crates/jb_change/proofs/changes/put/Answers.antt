use Rattle.std.proofs.Common.{◌≡◌, List, ℕ, [], subst, sym}
use Rattle.jb_state.specs.Change.{after}
use Rattle.jb_state.specs.declared.change.Change.{Change}
use Rattle.jb_state.specs.declared.change.Change.TheVariants.{Nothing}
use Rattle.jb_state.specs.declared.loaded.Loaded.{Loaded}
use Rattle.jb_change.specs.Headers.{Updates}
use Rattle.jb_change.specs.Put.{IsMoved, IsTextOf, LeavesRest, MayWrite}
use Rattle.jb_change.proofs.LeavesLemmas.{leaves_nothing, leaves_rest}
use Rattle.jb_change.proofs.UpdateLemmas.{updates_but, updates_emptied}
use Rattle.jb_change.proofs.changes.put.Goals as goal

pub returns-in-Nothing-clause-makes : goal.returns-in-Nothing-clause-makes
returns-in-Nothing-clause-makes c =
    let from : Loaded = c.args.loaded.now in
    let none : c.args.text.now ≡ [] = subst (λ (change : Change). IsTextOf change c.args.text.now) c.in-Nothing.is c.requires.text in
    updates_but (IsMoved c.args.change.now) c.empty.new.redo from (after c.args.change.now from) c.args.text.now
    (subst (λ (change : Change). Updates c.empty.new.redo from (after change from) c.args.text.now) (sym c.in-Nothing.is)
    (subst (λ (text : List ℕ). Updates c.empty.new.redo from from text) (sym none) (updates_emptied c.empty.new.redo from c.empty.ensures.emptied)))

pub returns-in-Nothing-clause-leaves : goal.returns-in-Nothing-clause-leaves
returns-in-Nothing-clause-leaves c =
    let from : Loaded = c.args.loaded.now in
    let empty = c.empty.ensures.emptied in
    subst (LeavesRest c.empty.new.redo from) (sym c.in-Nothing.is)
    (leaves_rest c.empty.new.redo from Nothing [] (updates_emptied c.empty.new.redo from empty) (leaves_nothing c.empty.new.redo from (MayWrite from Nothing) empty.no_lengths empty.no_pieces))
