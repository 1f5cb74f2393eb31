use Rattle.std.proofs.Common.{◌≡◌, ◌+◌, sym, ◌∙◌, ap, subst, length}
use Rattle.std.specs.Int.{IsPowerOfTwo}
use Rattle.jb_state.specs.Change.{live_messages}
use Rattle.jb_state.specs.declared.loaded.Loaded.{Loaded}
use Rattle.jb_link.specs.Index.{IsIndexOf}
use Rattle.jb_held.proofs.IndexLaws.{linked_index}
use Rattle.jb_held.proofs.KeptLemmas.{kept_counted}
use Rattle.jb_state.proofs.LinkedLaws.{length_of, links_keep_live, marks_of, plan_is_placed}
use Rattle.jb_held.proofs.held.HeldArea.relink.Goals as goal

pub set_plan-requires : goal.set_plan-requires
set_plan-requires c =
    let fits = rw (← c.self.view_is) at c.requires.fits in
    plan_is_placed c.self.inside.loaded c.args.plan.now fits

pub count_change-requires : goal.count_change-requires
count_change-requires c =
    c.self.invariant.live ∙ sym (links_keep_live c.args.plan.now c.self.inside.loaded) ∙ sym (ap live_messages c.set_plan.ensures)

pub invariant_of-self : goal.invariant_of-self
invariant_of-self c =
    let fits = rw (← c.self.view_is) at c.requires.fits in
    let sound = rw (← c.self.view_is) at c.requires.sound in
    let loaded : Loaded = c.self.inside.loaded in
    let count : c.self.inside.live ≡ live_messages c.set_plan.new.loaded =
    c.self.invariant.live ∙ sym (links_keep_live c.args.plan.now loaded) ∙ sym (ap live_messages c.set_plan.ensures) in
    kept_counted c.self.inside c.set_plan.new.loaded c.count_change.new.loaded c.self.inside.live c.self.inside.replies c.self.invariant c.count_change.ensures count
    (ap (λ (l : Loaded). l.marks) c.set_plan.ensures ∙ marks_of c.args.plan.now loaded)
    (subst (IsIndexOf c.self.inside.replies) (sym c.set_plan.ensures) (linked_index c.self.inside.replies c.args.plan.now loaded sound.base fits c.self.invariant.replies))
    (subst IsPowerOfTwo (sym (ap (λ (l : Loaded). length l.slots + c.self.inside.replies.room) c.set_plan.ensures
    ∙ ap (λ n. n + c.self.inside.replies.room) (length_of c.args.plan.now loaded))) c.self.invariant.reply_room)
