use Rattle.std.proofs.Common.{◌≡◌, ℕ, ◌+◌, ◌-◌, sym, ◌∙◌, ap, arith}
use Rattle.jb_state.specs.Change.{after, live_messages}
use Rattle.jb_state.specs.declared.change.Change.{Change}
use Rattle.jb_state.specs.declared.change.Change.TheVariants.{Killed}
use Rattle.jb_held.proofs.LiveLaws.{live_edited, live_headed, live_killed, live_packed, live_posted, live_relinked}
use Rattle.jb_held.proofs.held.HeldArea.live_after.Goals as goal

pub overflow_sub-result : goal.overflow_sub-result
overflow_sub-result c =
    let live : c.self.inside.live ≡ live_messages c.args.self.now = c.self.invariant.live ∙ ap live_messages c.self.view_is in
    let one = live_killed c.in-Killed.place c.args.self.now (rw c.in-Killed.is at c.requires.fits) in
    omega (arith, live, one)

pub returns-in-Posted : goal.returns-in-Posted
returns-in-Posted c =
    let live : c.self.inside.live ≡ live_messages c.args.self.now = c.self.invariant.live ∙ ap live_messages c.self.view_is in
    let fits = rw c.in-Posted.is at c.requires.fits in
    ap (λ (n : ℕ). n + 1) live ∙ sym (live_posted c.in-Posted.message c.in-Posted.neighbour c.args.self.now fits.1)
    ∙ sym (ap (λ (change : Change). live_messages (after change c.args.self.now)) c.in-Posted.is)

pub returns-in-Headed : goal.returns-in-Headed
returns-in-Headed c =
    c.self.invariant.live ∙ ap live_messages c.self.view_is ∙ sym (live_headed c.in-Headed.at c.args.self.now (rw c.in-Headed.is at c.requires.fits))
    ∙ sym (ap (λ (change : Change). live_messages (after change c.args.self.now)) c.in-Headed.is)

pub returns-in-Edited : goal.returns-in-Edited
returns-in-Edited c =
    c.self.invariant.live ∙ ap live_messages c.self.view_is
    ∙ sym (live_edited c.in-Edited.place c.in-Edited.message c.args.self.now (rw c.in-Edited.is at c.requires.fits))
    ∙ sym (ap (λ (change : Change). live_messages (after change c.args.self.now)) c.in-Edited.is)

pub returns-in-Killed : goal.returns-in-Killed
returns-in-Killed c =
    let live : c.self.inside.live ≡ live_messages c.args.self.now = c.self.invariant.live ∙ ap live_messages c.self.view_is in
    let one = live_killed c.in-Killed.place c.args.self.now (rw c.in-Killed.is at c.requires.fits) in
    let less : c.self.inside.live - 1 ≡ live_messages (after (Killed c.in-Killed.place) c.args.self.now) = omega (arith, live, one) in
    less ∙ sym (ap (λ (change : Change). live_messages (after change c.args.self.now)) c.in-Killed.is)

pub returns-in-Relinked : goal.returns-in-Relinked
returns-in-Relinked c =
    c.self.invariant.live ∙ ap live_messages c.self.view_is ∙ sym (live_relinked c.in-Relinked.plan c.args.self.now)
    ∙ sym (ap (λ (change : Change). live_messages (after change c.args.self.now)) c.in-Relinked.is)

pub returns-in-Packed : goal.returns-in-Packed
returns-in-Packed c =
    c.self.invariant.live ∙ ap live_messages c.self.view_is ∙ sym (live_packed c.in-Packed.plan c.in-Packed.base c.args.self.now)
    ∙ sym (ap (λ (change : Change). live_messages (after change c.args.self.now)) c.in-Packed.is)
