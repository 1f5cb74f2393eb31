use Rattle.std.proofs.Common.{◌≡◌, ◌+◌, sym, ◌∙◌, ap, subst, length}
use Rattle.std.specs.Int.{IsPowerOfTwo}
use Rattle.std.proofs.lemmas.List.{length-set}
use Rattle.std.proofs.lemmas.Option.{slice_get_within}
use Rattle.jb_state.specs.Change.{live_messages}
use Rattle.jb_state.specs.declared.loaded.Loaded.{Loaded}
use Rattle.jb_state.specs.declared.loaded.LoadedSlot.TheVariants.{Live}
use Rattle.jb_link.specs.Index.{IsIndexOf}
use Rattle.jb_held.proofs.EditLemmas.{edited_index}
use Rattle.jb_held.proofs.KeptLemmas.{kept_counted}
use Rattle.jb_held.proofs.LiveLaws.{live_edited}
use Rattle.jb_held.proofs.held.HeldArea.edit.Goals as goal

pub replace_message-requires : goal.replace_message-requires
replace_message-requires c =
    let fits = rw (← c.self.view_is) at c.requires.fits in
    record { place = slice_get_within c.self.inside.loaded.slots c.args.place (Live fits.was) fits.here; headers = fits.headers; texts = fits.texts }

pub count_change-requires : goal.count_change-requires
count_change-requires c =
    let fits = rw (← c.self.view_is) at c.requires.fits in
    c.self.invariant.live ∙ sym (live_edited c.args.place c.args.message c.self.inside.loaded fits) ∙ sym (ap live_messages c.replace_message.ensures)

pub invariant_of-self : goal.invariant_of-self
invariant_of-self c =
    let fits = rw (← c.self.view_is) at c.requires.fits in
    let loaded : Loaded = c.self.inside.loaded in
    let count : c.self.inside.live ≡ live_messages c.replace_message.new.loaded =
    c.self.invariant.live ∙ sym (live_edited c.args.place c.args.message loaded fits) ∙ sym (ap live_messages c.replace_message.ensures) in
    kept_counted c.self.inside c.replace_message.new.loaded c.count_change.new.loaded c.self.inside.live c.self.inside.replies c.self.invariant c.count_change.ensures count
    (ap (λ (l : Loaded). l.marks) c.replace_message.ensures)
    (subst (IsIndexOf c.self.inside.replies) (sym c.replace_message.ensures) (edited_index c.self.inside.replies c.args.place c.args.message loaded fits c.self.invariant.replies))
    (subst IsPowerOfTwo (sym (ap (λ (l : Loaded). length l.slots + c.self.inside.replies.room) c.replace_message.ensures
    ∙ ap (λ n. n + c.self.inside.replies.room) (length-set loaded.slots c.args.place (Live c.args.message)))) c.self.invariant.reply_room)
