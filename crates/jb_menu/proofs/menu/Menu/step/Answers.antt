use Rattle.std.proofs.Common.{◌≡◌, ap, sym, subst, ◌∙◌}
use Rattle.jb_menu.specs.Awaits.{AsksHere, Awaits, IsFor, Reaches, awaited_in, wanted_by}
use Rattle.jb_menu.specs.Menu.{menu_turn}
use Rattle.jb_menu.specs.declared.moves.Moved.{Moved}
use Rattle.jb_menu.specs.declared.state.State.{State}
use Rattle.jb_menu.proofs.Keeping.{holds_everywhere}
use Rattle.jb_menu.proofs.menu.Menu.step.Goals as goal

pub returns-clause-of : goal.returns-clause-of
returns-clause-of c =
    let board = c.args.board.now in
    let given = c.args.given.now in
    let moved : menu_turn board c.args.self.now given ≡ c.in_ok-moved.moved =
    sym (c.in_ok-moved.ensures ∙ ap (λ (s : State). menu_turn board s given) (c.replace-state.ensures.value ∙ c.self.view_is)) in
    subst (λ (m : Moved). IsFor board m.state) moved (holds_everywhere board c.args.self.now given c.requires.of).board

pub returns-clause-awaits : goal.returns-clause-awaits
returns-clause-awaits c =
    let board = c.args.board.now in
    let given = c.args.given.now in
    let moved : menu_turn board c.args.self.now given ≡ c.in_ok-moved.moved =
    sym (c.in_ok-moved.ensures ∙ ap (λ (s : State). menu_turn board s given) (c.replace-state.ensures.value ∙ c.self.view_is)) in
    subst (λ (m : Moved). Awaits c.args.self.now given → awaited_in m.state ≡ wanted_by m.step) moved
    (holds_everywhere board c.args.self.now given c.requires.of).awaits

pub returns-clause-here : goal.returns-clause-here
returns-clause-here c =
    let board = c.args.board.now in
    let given = c.args.given.now in
    let moved : menu_turn board c.args.self.now given ≡ c.in_ok-moved.moved =
    sym (c.in_ok-moved.ensures ∙ ap (λ (s : State). menu_turn board s given) (c.replace-state.ensures.value ∙ c.self.view_is)) in
    subst (λ (m : Moved). AsksHere m.step m.state) moved (holds_everywhere board c.args.self.now given c.requires.of).here

pub returns-clause-reaches : goal.returns-clause-reaches
returns-clause-reaches c =
    let board = c.args.board.now in
    let given = c.args.given.now in
    let moved : menu_turn board c.args.self.now given ≡ c.in_ok-moved.moved =
    sym (c.in_ok-moved.ensures ∙ ap (λ (s : State). menu_turn board s given) (c.replace-state.ensures.value ∙ c.self.view_is)) in
    subst (λ (m : Moved). Reaches board m.step) moved (holds_everywhere board c.args.self.now given c.requires.of).reaches
