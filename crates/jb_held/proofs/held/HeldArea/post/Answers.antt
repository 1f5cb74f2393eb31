use Rattle.std.proofs.Common.{◌≡◌, ℕ, ◌+◌, ◌<◌, length, subst, sym, ◌∙◌, ap}
use Rattle.std.specs.Int.{IsPowerOfTwo}
use Rattle.std.specs.Prelude.{unwrap_or}
use Rattle.jb_link.specs.Index.{IsIndexOf, ReplyIndex}
use Rattle.jb_state.specs.Change.{live_messages}
use Rattle.jb_state.specs.declared.loaded.Loaded.{Loaded}
use Rattle.jb_held.proofs.KeptLemmas.{kept_counted}
use Rattle.jb_held.proofs.LiveLaws.{live_posted}
use Rattle.jb_held.proofs.RoomLemmas.{posted_power, room_for_one}
use Rattle.jb_state.proofs.PlaceLaws.{marks_beside}
use Rattle.jb_held.proofs.held.HeldArea.post.Goals as goal

pub post_message-requires : goal.post_message-requires
post_message-requires c =
    let fits = rw (← c.self.view_is) at c.requires.fits in
    let brings = rw (← c.self.view_is) at c.requires.room in
    let kept = c.self.invariant in
    let has = room_for_one c.self.inside.replies c.self.inside.loaded kept.replies kept.reply_room c.args.room brings in
    let index : c.put_index.new.index ≡ unwrap_or c.args.room.replies c.self.inside.replies = c.put_index.ensures in
    record {
      fits = fits.0;
      neighbour = fits.1;
      index = subst (λ (r : ReplyIndex). IsIndexOf r c.self.inside.loaded) (sym index) has.is;
      room = subst (λ (r : ReplyIndex). 0 < r.room) (sym index) has.more;
      place = has.place;
    }

pub count_change-requires : goal.count_change-requires
count_change-requires c =
    let fits = rw (← c.self.view_is) at c.requires.fits in
    ap (λ (n : ℕ). n + 1) c.self.invariant.live ∙ sym (live_posted c.args.message c.args.neighbour c.self.inside.loaded fits.1)
    ∙ sym (ap live_messages c.post_message.ensures.loaded)

pub invariant_of-self : goal.invariant_of-self
invariant_of-self c =
    let fits = rw (← c.self.view_is) at c.requires.fits in
    let brings = rw (← c.self.view_is) at c.requires.room in
    let kept = c.self.invariant in
    let has = room_for_one c.self.inside.replies c.self.inside.loaded kept.replies kept.reply_room c.args.room brings in
    let index : c.put_index.new.index ≡ unwrap_or c.args.room.replies c.self.inside.replies = c.put_index.ensures in
    let room : IsPowerOfTwo (length c.post_message.new.loaded.slots + c.post_message.new.replies.room) =
    posted_power c.args.message c.args.neighbour c.self.inside.loaded c.post_message.new.loaded c.post_message.ensures.loaded
    c.post_message.new.replies.room (unwrap_or c.args.room.replies c.self.inside.replies).room
    (c.post_message.ensures.room ∙ ap (λ (r : ReplyIndex). r.room) index) has.power in
    let count : c.self.inside.live + 1 ≡ live_messages c.post_message.new.loaded =
    ap (λ (n : ℕ). n + 1) c.self.invariant.live ∙ sym (live_posted c.args.message c.args.neighbour c.self.inside.loaded fits.1)
    ∙ sym (ap live_messages c.post_message.ensures.loaded) in
    kept_counted c.self.inside c.post_message.new.loaded c.count_change.new.loaded (c.self.inside.live + 1) c.post_message.new.replies c.self.invariant
    c.count_change.ensures count (ap (λ (l : Loaded). l.marks) c.post_message.ensures.loaded ∙ marks_beside c.args.neighbour c.self.inside.loaded)
    c.post_message.ensures.index room
