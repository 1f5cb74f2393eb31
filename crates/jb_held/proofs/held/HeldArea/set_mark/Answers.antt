use Rattle.std.proofs.Common.{◌≡◌, ap, length, refl, subst, sym, ◌+◌, ◌∙◌}
use Rattle.std.specs.Int.{IsPowerOfTwo}
use Rattle.jb_marks.specs.Order.{IsOrdered}
use Rattle.jb_state.specs.declared.loaded.Loaded.{Loaded}
use Rattle.jb_link.proofs.LawLemmas.{rests_on_slots}
use Rattle.jb_link.specs.Index.{IsIndexOf}
use Rattle.jb_state.specs.Change.{after, live_messages}
use Rattle.jb_state.specs.declared.change.Change.TheVariants.{Marked}
use Rattle.jb_held.proofs.held.HeldArea.set_mark.Goals as goal

pub set_loaded_mark-requires : goal.set_loaded_mark-requires
set_loaded_mark-requires c = record { fits = rw (← c.self.view_is) at c.requires.fits; index = c.self.invariant.marks; room = c.self.invariant.mark_room }

pub invariant_of-self : goal.invariant_of-self
invariant_of-self c =
    let kept = c.self.invariant in
    let from : Loaded = c.self.inside.loaded in
    let to : Loaded = after (Marked c.args.place c.args.mark) from in
    let same : c.set_loaded_mark.new.loaded ≡ to = c.set_loaded_mark.ensures.loaded in
    record {
      live = kept.live ∙ sym (ap live_messages same);
      marks = subst (λ (l : Loaded). IsOrdered l.marks c.set_loaded_mark.new.index.order) (sym same) c.set_loaded_mark.ensures.index;
      mark_room = c.set_loaded_mark.ensures.room;
      replies = subst (IsIndexOf c.self.inside.replies) (sym same) (rests_on_slots c.self.inside.replies from to refl refl kept.replies);
      reply_room = subst IsPowerOfTwo (sym (ap (λ (l : Loaded). length l.slots + c.self.inside.replies.room) same)) kept.reply_room;
    }

pub returns : goal.returns
returns c = c.set_loaded_mark.ensures.loaded ∙ ap (after (Marked c.args.place c.args.mark)) c.self.view_is
