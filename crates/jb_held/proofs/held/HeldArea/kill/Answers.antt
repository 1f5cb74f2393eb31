use Rattle.std.proofs.Common.{◌≡◌, ◌+◌, ◌-◌, ap, arith, length, subst, sym}
use Rattle.std.specs.Int.{IsPowerOfTwo}
use Rattle.jb_state.specs.Change.{killed_slot, live_messages}
use Rattle.jb_state.specs.declared.loaded.Loaded.{Loaded}
use Rattle.jb_held.proofs.KeptLemmas.{kept_counted}
use Rattle.jb_held.proofs.LiveLaws.{live_killed}
use Rattle.jb_state.proofs.PlaceLaws.{length_changed}
use Rattle.jb_held.proofs.held.HeldArea.kill.Goals as goal

pub overflow_sub-self : goal.overflow_sub-self
overflow_sub-self c =
    let fits = rw (← c.self.view_is) at c.requires.fits in
    omega (arith, c.self.invariant.live, live_killed c.args.place c.self.inside.loaded fits)

pub count_change-requires : goal.count_change-requires
count_change-requires c =
    let fits = rw (← c.self.view_is) at c.requires.fits in
    omega (arith, c.self.invariant.live, live_killed c.args.place c.self.inside.loaded fits, ap live_messages c.kill_message.ensures.loaded)

pub invariant_of-self : goal.invariant_of-self
invariant_of-self c =
    let fits = rw (← c.self.view_is) at c.requires.fits in
    let loaded : Loaded = c.self.inside.loaded in
    let count : c.self.inside.live - 1 ≡ live_messages c.kill_message.new.loaded =
    omega (arith, c.self.invariant.live, live_killed c.args.place loaded fits, ap live_messages c.kill_message.ensures.loaded) in
    let room : length c.kill_message.new.loaded.slots + c.kill_message.new.replies.room ≡ length loaded.slots + c.self.inside.replies.room =
    omega (
      arith,
      ap (λ (l : Loaded). length l.slots) c.kill_message.ensures.loaded,
      length_changed c.args.place killed_slot loaded,
      c.kill_message.ensures.room,
    ) in
    kept_counted c.self.inside c.kill_message.new.loaded c.count_change.new.loaded (c.self.inside.live - 1) c.kill_message.new.replies c.self.invariant
    c.count_change.ensures count (ap (λ (l : Loaded). l.marks) c.kill_message.ensures.loaded) c.kill_message.ensures.index (subst IsPowerOfTwo (sym room) c.self.invariant.reply_room)
