use Rattle.std.proofs.Common.{◌+◌, length, Ok, Err, refl, sym, ◌∙◌, ap, subst}
use Rattle.jb_area.specs.Area.{device_of, loaded_of, rules_of}
use Rattle.jb_decide.specs.Packs.{is_pack_refused}
use Rattle.jb_decide.specs.declared.error.AreaError.{AreaError}
use Rattle.jb_decide.specs.declared.error.AreaError.TheVariants as failing
use Rattle.jb_model.specs.declared.command.Command.TheVariants.{Pack}
use Rattle.jb_model.specs.declared.entry.Outcome.TheVariants.{InDoubt}
use Rattle.jb_turn.specs.Seats.{row_of}
use Rattle.jb_shared.specs.Calls.{call_of}
use Rattle.jb_shared.specs.InTurn.{SeatRow}
use Rattle.jb_shared.specs.Keeping.{IsKept, IsKeptSettled}
use Rattle.jb_shared.specs.Stepping.{CopiesOnePart}
use Rattle.jb_shared.proofs.CallLemmas.{leads_called, leads_still}
use Rattle.jb_shared.proofs.KeepingLemmas.{kept_stopped, leaves_stopped, leaves_wanting, out_rests}
use Rattle.jb_shared.proofs.KnowingLemmas.{knows_noted, knows_still, next_number}
use Rattle.jb_shared.proofs.SteppingLemmas.{copies_by, kept_step, kept_without, leaves_as, meets_step, none_more, step_leaves, step_no_change, steps_as, texts_few}
use Rattle.jb_shared.proofs.stepping.copy_part.Goals as goal

pub pack_some-requires-clause-rests : goal.pack_some-requires-clause-rests
pack_some-requires-clause-rests g c = out_rests g.D.Disk.device c.args.held.state (row_of c.args.seat.now) c.requires.out.0.knows

pub returns-in-Ok-clause-out : goal.returns-in-Ok-clause-out
returns-in-Ok-clause-out g c =
    let shown = g.D.Disk.device in
    let known = row_of c.args.seat.now in
    let old = c.args.held.state in
    let steps = steps_as shown old.area c.pack_some.new.self c.pack_some.result (Ok c.in-Ok.more) c.in-Ok.is c.pack_some.ensures.steps in
    record {
      holds = c.requires.out.0.holds;
      knows =
          knows_still (IsKeptSettled shown) (IsKept shown) old (record { area = c.pack_some.new.self; shower = old.shower; doubted = old.doubted }) known c.requires.out.0.knows
          (λ first was. kept_step shown old (record { area = c.pack_some.new.self; shower = old.shower; doubted = old.doubted }) c.pack_some.new.self first known.front c.args.user.now c.args.moment c.in-Ok.more was steps refl);
    }

pub returns-in-Ok-clause-copied : goal.returns-in-Ok-clause-copied
returns-in-Ok-clause-copied g c =
    let old = c.args.held.state.area in
    let new = c.pack_some.new.self in
    let rest = out_rests g.D.Disk.device c.args.held.state (row_of c.args.seat.now) c.requires.out.0.knows in
    let more = c.in-Ok.more in
    subst (CopiesOnePart old new) (sym c.bytes_where_left-left.ensures.some)
    (copies_by old new more (is_pack_refused (rules_of old) rest.texts (loaded_of old) c.args.user.now)
    (λ is. let none = c.pack_some.ensures.refused rest.texts rest.rests is in (none_more c.pack_some.result more c.in-Ok.is none.0, none.1))
    (λ is. c.in-Ok.ensures.copied rest.texts rest.rests is))

pub bytes_where_left-left-requires : goal.bytes_where_left-left-requires
bytes_where_left-left-requires g c =
    texts_few g.D.Disk.device c.args.held.state.area c.pack_some.new.self (out_rests g.D.Disk.device c.args.held.state (row_of c.args.seat.now) c.requires.out.0.knows) c.pack_some.ensures.steps.loaded

pub returns-in-Ok-clause-left : goal.returns-in-Ok-clause-left
returns-in-Ok-clause-left g c =
    let old = c.args.held.state in
    let rest = out_rests g.D.Disk.device old (row_of c.args.seat.now) c.requires.out.0.knows in
    let more = c.in-Ok.more in
    leaves_as g.D.Disk.device old.area (record { state = record { area = c.pack_some.new.self; shower = old.shower; doubted = old.doubted }; count = c.args.held.count }) c.args.user.now more c.bytes_where_left-left.result rest
    c.pack_some.ensures.steps.loaded c.bytes_where_left-left.ensures.some c.bytes_where_left-left.ensures.bytes
    (λ texts rests refused. let none = c.pack_some.ensures.refused texts rests refused in (none_more c.pack_some.result more c.in-Ok.is none.0, none.1))
    c.in-Ok.ensures.copied

pub returns-in-Err-StoreFault-clause-out : goal.returns-in-Err-StoreFault-clause-out
returns-in-Err-StoreFault-clause-out g c =
    let shown = g.D.Disk.device in
    let known = row_of c.args.seat.now in
    let knows = c.requires.out.0.knows in
    let old = c.args.held.state in
    let area = c.pack_some.new.self in
    let faults = (device_of shown area).faults in
    let rest = out_rests shown old known knows in
    let steps = steps_as shown old.area area c.pack_some.result (Err failing.StoreFault) (c.in-Err-StoreFault.is ∙ ap (λ (e : AreaError). Err e) c.in-Err-StoreFault.field-0-is) c.pack_some.ensures.steps in
    let meets = meets_step shown old.area area c.args.user.now c.args.moment failing.StoreFault steps in
    record {
      holds = c.note.ensures.seat;
      knows =
          knows_noted (IsKeptSettled shown) (IsKept shown) old c.note.new.held.state known (row_of c.note.new.seat) (call_of known.node known.mine c.args.user.now c.args.moment Pack (InDoubt faults))
          c.note.ensures.row knows
          (λ first was. kept_stopped shown old c.note.new.held.state area old.doubted first known.front known.node (length known.mine + 1) c.args.user.now c.args.moment Pack was meets
          (λ change. absurd (step_no_change shown old.area area rest.texts rest.rests steps change)) (next_number (IsKeptSettled shown) (IsKept shown) old known knows) c.note.ensures.kept);
    }

pub returns-in-Err-StoreFault-clause-steps : goal.returns-in-Err-StoreFault-clause-steps
returns-in-Err-StoreFault-clause-steps g c =
    leads_called _ (row_of c.args.seat.now) (row_of c.note.new.seat) c.args.user.now c.args.moment Pack (InDoubt (device_of g.D.Disk.device c.pack_some.new.self).faults) c.note.ensures.row (λ account. (_, refl))

pub returns-in-Err-OutOfMemory-clause-steps : goal.returns-in-Err-OutOfMemory-clause-steps
returns-in-Err-OutOfMemory-clause-steps g c = leads_still _ (row_of c.args.seat.now) (λ account. refl)

pub returns-in-Err-OutOfMemory-clause-out : goal.returns-in-Err-OutOfMemory-clause-out
returns-in-Err-OutOfMemory-clause-out g c =
    let shown = g.D.Disk.device in
    let known = row_of c.args.seat.now in
    let old = c.args.held.state in
    let area = c.pack_some.new.self in
    let steps = steps_as shown old.area area c.pack_some.result (Err failing.OutOfMemory) (c.in-Err-OutOfMemory.is ∙ ap (λ (e : AreaError). Err e) c.in-Err-OutOfMemory.field-0-is) c.pack_some.ensures.steps in
    record {
      holds = c.requires.out.0.holds;
      knows =
          knows_still (IsKeptSettled shown) (IsKept shown) old (record { area = area; shower = old.shower; doubted = old.doubted }) known c.requires.out.0.knows
          (λ first was. kept_without shown old (record { area = area; shower = old.shower; doubted = old.doubted }) area first known.front c.args.user.now c.args.moment was steps refl);
    }

pub returns-in-Ok-clause-crash : goal.returns-in-Ok-clause-crash
returns-in-Ok-clause-crash g c =
    let shown = g.D.Disk.device in
    let old = c.args.held.state in
    step_leaves shown (row_of c.args.seat.now) old c.pack_some.new.self c.args.user.now c.args.moment c.in-Ok.more c.requires.out.0.knows (steps_as shown old.area c.pack_some.new.self c.pack_some.result (Ok c.in-Ok.more) c.in-Ok.is c.pack_some.ensures.steps)

pub returns-in-Err-StoreFault-clause-crash : goal.returns-in-Err-StoreFault-clause-crash
returns-in-Err-StoreFault-clause-crash g c =
    let shown = g.D.Disk.device in
    let old = c.args.held.state in
    let area = c.pack_some.new.self in
    let steps = steps_as shown old.area area c.pack_some.result (Err failing.StoreFault) (c.in-Err-StoreFault.is ∙ ap (λ (e : AreaError). Err e) c.in-Err-StoreFault.field-0-is) c.pack_some.ensures.steps in
    leaves_stopped shown (row_of c.args.seat.now) (row_of c.note.new.seat) old area c.note.new.held.state.area c.args.user.now c.args.moment Pack c.requires.out.0.knows
    (meets_step shown old.area area c.args.user.now c.args.moment failing.StoreFault steps) (ap (λ (r : SeatRow). r.front) c.note.ensures.row) (ap (λ s. s.area) c.note.ensures.kept)

pub returns-in-Err-OutOfMemory-clause-crash : goal.returns-in-Err-OutOfMemory-clause-crash
returns-in-Err-OutOfMemory-clause-crash g c =
    let shown = g.D.Disk.device in
    let old = c.args.held.state in
    let area = c.pack_some.new.self in
    let steps = steps_as shown old.area area c.pack_some.result (Err failing.OutOfMemory) (c.in-Err-OutOfMemory.is ∙ ap (λ (e : AreaError). Err e) c.in-Err-OutOfMemory.field-0-is) c.pack_some.ensures.steps in
    leaves_wanting shown (row_of c.args.seat.now) old area c.args.user.now c.args.moment Pack c.requires.out.0.knows (meets_step shown old.area area c.args.user.now c.args.moment failing.OutOfMemory steps) steps.crash
