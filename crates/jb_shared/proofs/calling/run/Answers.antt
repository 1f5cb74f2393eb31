use Rattle.std.proofs.Common.{◌+◌, ◌∷◌, ◌++◌, [], length, Ok, Err, true, refl, sym, ◌∙◌, ap, subst}
use Rattle.jb_area.specs.Area.{device_of}
use Rattle.jb_decide.specs.declared.error.AreaError.{AreaError}
use Rattle.jb_decide.specs.declared.error.AreaError.TheVariants as failing
use Rattle.jb_index.specs.Edit.{absorbed}
use Rattle.jb_model.specs.declared.entry.Entry.{Entry}
use Rattle.jb_model.specs.declared.entry.Outcome.TheVariants.{InDoubt, Replied}
use Rattle.jb_publish.specs.Publications.{publication_of}
use Rattle.jb_turn.specs.Seats.{HoldsTurn, front, row_of}
use Rattle.jb_shared.specs.InTurn.{SeatRow, next_call}
use Rattle.jb_shared.specs.Keeping.{IsKept, IsKeptSettled}
use Rattle.jb_shared.specs.Showing.{value_with}
use Rattle.jb_shared.specs.Standing.{StandsSettled}
use Rattle.jb_shared.proofs.CallLemmas.{leads_called, leads_still}
use Rattle.jb_shared.proofs.KeepingLemmas.{can_show, is_firm, kept_replied, kept_stopped, kept_wanting, leaves_replied, leaves_stopped, leaves_wanting, meets_as, out_rests, shown_as, shows_replied}
use Rattle.jb_shared.proofs.StandingLemmas.{stands_replied}
use Rattle.jb_shared.proofs.KnowingLemmas.{knows_noted, knows_still, next_number}
use Rattle.jb_shared.proofs.calling.run.Goals as goal

pub run-requires-clause-rests : goal.run-requires-clause-rests
run-requires-clause-rests g c = out_rests g.D.Disk.device c.args.held.state (row_of c.args.seat.now) c.requires.out.0.knows

pub show-requires-clause-can : goal.show-requires-clause-can
show-requires-clause-can g c =
    let shown = g.D.Disk.device in
    let known = row_of c.args.seat.now in
    let call = c.args.call in
    let knows = c.requires.out.0.knows in
    let old = c.args.held.state in
    let entry : Entry = next_call known call (Replied c.in-Ok.reply) in
    let meets = meets_as shown old.area c.run.new.area call.user.now call.moment call.command.now c.run.result (Ok c.in-Ok.reply) c.in-Ok.is c.run.ensures.meets in
    can_show shown (IsKeptSettled shown) known (row_of c.note.new.seat) old c.note.new.held.state true entry (absorbed (publication_of old.shower).value c.run.new.change.op)
    knows.stands_for (ap (λ s. s.shower) c.note.ensures.kept) (ap (λ s. value_with s true) c.note.ensures.kept) (ap (λ (r : SeatRow). r.front) c.note.ensures.row)
    (λ first was. (
      was.index,
      (shows_replied shown old c.run.new.area c.run.new.change first known.front known.node (length known.mine + 1) call.user.now call.moment call.command.now c.in-Ok.reply was meets c.in-Ok.ensures.done
          (next_number (IsKeptSettled shown) (IsKeptSettled shown) old known knows)).1,
    ))

pub returns-in-Ok-clause-out : goal.returns-in-Ok-clause-out
returns-in-Ok-clause-out g c =
    let shown = g.D.Disk.device in
    let known = row_of c.args.seat.now in
    let call = c.args.call in
    let knows = c.requires.out.0.knows in
    let old = c.args.held.state in
    let kept = c.note.ensures.kept in
    let entry : Entry = next_call known call (Replied c.in-Ok.reply) in
    let meets = meets_as shown old.area c.run.new.area call.user.now call.moment call.command.now c.run.result (Ok c.in-Ok.reply) c.in-Ok.is c.run.ensures.meets in
    record {
      holds = subst (HoldsTurn c.args.turn.now c.note.new.seat) (sym c.show.ensures.count) c.note.ensures.seat;
      knows =
          knows_noted (IsKeptSettled shown) (IsKept shown) old c.show.result.state known (row_of c.note.new.seat) entry c.note.ensures.row knows
          (λ first was. kept_replied shown old c.show.result.state c.run.new.area c.run.new.change first known.front known.node (length known.mine + 1) call.user.now call.moment call.command.now c.in-Ok.reply was meets c.in-Ok.ensures.done
          (next_number (IsKeptSettled shown) (IsKept shown) old known knows)
          (c.show.ensures.shown.area ∙ ap (λ s. s.area) kept)
          (shown_as shown old c.note.new.held.state c.show.result.state true (front c.note.new.seat) (known.front ++ entry ∷ []) (absorbed (publication_of old.shower).value c.run.new.change.op)
          c.show.ensures.shown (ap (λ s. s.shower) kept) (ap (λ s. value_with s true) kept) (ap (λ (r : SeatRow). r.front) c.note.ensures.row)));
    }

pub returns-in-Err-StoreFault-clause-out : goal.returns-in-Err-StoreFault-clause-out
returns-in-Err-StoreFault-clause-out g c =
    let shown = g.D.Disk.device in
    let known = row_of c.args.seat.now in
    let call = c.args.call in
    let knows = c.requires.out.0.knows in
    let old = c.args.held.state in
    let faults = (device_of shown c.run.new.area).faults in
    let meets = meets_as shown old.area c.run.new.area call.user.now call.moment call.command.now c.run.result (Err failing.StoreFault) (c.in-Err-StoreFault.is ∙ ap (λ (e : AreaError). Err e) c.in-Err-StoreFault.field-0-is) c.run.ensures.meets in
    record {
      holds = c.note-in-Err-StoreFault.ensures.seat;
      knows =
          knows_noted (IsKeptSettled shown) (IsKept shown) old c.note-in-Err-StoreFault.new.held.state known (row_of c.note-in-Err-StoreFault.new.seat) (next_call known call (InDoubt faults)) c.note-in-Err-StoreFault.ensures.row knows
          (λ first was. kept_stopped shown old c.note-in-Err-StoreFault.new.held.state c.run.new.area c.run.new.change first known.front known.node (length known.mine + 1) call.user.now call.moment call.command.now was meets
          c.in-Err-StoreFault.ensures.doubted (next_number (IsKeptSettled shown) (IsKept shown) old known knows) c.note-in-Err-StoreFault.ensures.kept);
    }

pub returns-in-Err-OutOfMemory-clause-out : goal.returns-in-Err-OutOfMemory-clause-out
returns-in-Err-OutOfMemory-clause-out g c =
    let shown = g.D.Disk.device in
    let known = row_of c.args.seat.now in
    let call = c.args.call in
    let old = c.args.held.state in
    let meets = meets_as shown old.area c.run.new.area call.user.now call.moment call.command.now c.run.result (Err failing.OutOfMemory) (c.in-Err-OutOfMemory.is ∙ ap (λ (e : AreaError). Err e) c.in-Err-OutOfMemory.field-0-is) c.run.ensures.meets in
    record {
      holds = c.requires.out.0.holds;
      knows =
          knows_still (IsKeptSettled shown) (IsKept shown) old (record { area = c.run.new.area; shower = old.shower; doubted = c.run.new.change }) known c.requires.out.0.knows
          (λ first was. kept_wanting shown old (record { area = c.run.new.area; shower = old.shower; doubted = c.run.new.change }) c.run.new.area c.run.new.change first known.front call.user.now call.moment call.command.now was meets (c.run.ensures.wanting (c.in-Err-OutOfMemory.is ∙ ap (λ (e : AreaError). Err e) c.in-Err-OutOfMemory.field-0-is)) refl);
    }

pub returns-in-Ok-clause-runs : goal.returns-in-Ok-clause-runs
returns-in-Ok-clause-runs g c =
    let call = c.args.call in
    leads_called _ (row_of c.args.seat.now) (row_of c.note.new.seat) call.user.now call.moment call.command.now (Replied c.in-Ok.reply) c.note.ensures.row (λ account. refl)

pub returns-in-Err-StoreFault-clause-runs : goal.returns-in-Err-StoreFault-clause-runs
returns-in-Err-StoreFault-clause-runs g c =
    let call = c.args.call in
    leads_called _ (row_of c.args.seat.now) (row_of c.note-in-Err-StoreFault.new.seat) call.user.now call.moment call.command.now (InDoubt (device_of g.D.Disk.device c.run.new.area).faults) c.note-in-Err-StoreFault.ensures.row (λ account. (_, refl))

pub returns-in-Err-OutOfMemory-clause-runs : goal.returns-in-Err-OutOfMemory-clause-runs
returns-in-Err-OutOfMemory-clause-runs g c = leads_still _ (row_of c.args.seat.now) (λ account. refl)

pub show-requires-clause-firm : goal.show-requires-clause-firm
show-requires-clause-firm g c =
    let shown = g.D.Disk.device in
    let known = row_of c.args.seat.now in
    let call = c.args.call in
    let knows = c.requires.out.0.knows in
    let old = c.args.held.state in
    let kept = c.note.ensures.kept in
    let entry : Entry = next_call known call (Replied c.in-Ok.reply) in
    let meets = meets_as shown old.area c.run.new.area call.user.now call.moment call.command.now c.run.result (Ok c.in-Ok.reply) c.in-Ok.is c.run.ensures.meets in
    is_firm shown (IsKeptSettled shown) known (row_of c.note.new.seat) old c.note.new.held.state entry knows.stands_for (ap (λ s. s.shower) kept) (ap (λ (r : SeatRow). r.front) c.note.ensures.row)
    (λ first was. (
      was.index,
      subst (λ a. StandsSettled shown a first.opening (known.front ++ entry ∷ [])) (sym (ap (λ s. s.area) kept))
          (stands_replied shown old.area c.run.new.area first.opening known.front known.node (length known.mine + 1) call.user.now call.moment call.command.now c.in-Ok.reply was.area meets
          (next_number (IsKeptSettled shown) (IsKeptSettled shown) old known knows)).0,
    ))

pub returns-in-Ok-clause-crash : goal.returns-in-Ok-clause-crash
returns-in-Ok-clause-crash g c =
    let shown = g.D.Disk.device in
    let call = c.args.call in
    let old = c.args.held.state in
    leaves_replied shown (row_of c.args.seat.now) (row_of c.note.new.seat) old c.run.new.area c.show.result.state.area call.user.now call.moment call.command.now c.in-Ok.reply c.requires.out.0.knows
    (meets_as shown old.area c.run.new.area call.user.now call.moment call.command.now c.run.result (Ok c.in-Ok.reply) c.in-Ok.is c.run.ensures.meets)
    (ap (λ (r : SeatRow). r.front) c.note.ensures.row) (c.show.ensures.shown.area ∙ ap (λ s. s.area) c.note.ensures.kept)

pub returns-in-Err-StoreFault-clause-crash : goal.returns-in-Err-StoreFault-clause-crash
returns-in-Err-StoreFault-clause-crash g c =
    let shown = g.D.Disk.device in
    let call = c.args.call in
    let old = c.args.held.state in
    let note = c.note-in-Err-StoreFault in
    leaves_stopped shown (row_of c.args.seat.now) (row_of note.new.seat) old c.run.new.area note.new.held.state.area call.user.now call.moment call.command.now c.requires.out.0.knows
    (meets_as shown old.area c.run.new.area call.user.now call.moment call.command.now c.run.result (Err failing.StoreFault) (c.in-Err-StoreFault.is ∙ ap (λ (e : AreaError). Err e) c.in-Err-StoreFault.field-0-is) c.run.ensures.meets)
    (ap (λ (r : SeatRow). r.front) note.ensures.row) (ap (λ s. s.area) note.ensures.kept)

pub returns-in-Err-OutOfMemory-clause-crash : goal.returns-in-Err-OutOfMemory-clause-crash
returns-in-Err-OutOfMemory-clause-crash g c =
    let shown = g.D.Disk.device in
    let call = c.args.call in
    let old = c.args.held.state in
    let is = c.in-Err-OutOfMemory.is ∙ ap (λ (e : AreaError). Err e) c.in-Err-OutOfMemory.field-0-is in
    leaves_wanting shown (row_of c.args.seat.now) old c.run.new.area call.user.now call.moment call.command.now c.requires.out.0.knows
    (meets_as shown old.area c.run.new.area call.user.now call.moment call.command.now c.run.result (Err failing.OutOfMemory) is c.run.ensures.meets) (c.run.ensures.wanting is)
