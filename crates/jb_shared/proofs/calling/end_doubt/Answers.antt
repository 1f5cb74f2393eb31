use Rattle.std.proofs.Common.{◌+◌, ◌∷◌, ◌++◌, [], length, inr, refl, sym, ◌∙◌, ap, subst, arith}
use Rattle.jb_area.specs.Area.{device_of}
use Rattle.jb_model.specs.declared.entry.Entry.TheVariants.{Reopened}
use Rattle.jb_model.specs.declared.entry.Outcome.TheVariants.{NotBegun}
use Rattle.jb_turn.specs.Seats.{HoldsTurn, front, row_of}
use Rattle.jb_shared.specs.InTurn.{SeatRow, next_call}
use Rattle.jb_shared.specs.Keeping.{IsKept, IsKeptInDoubt, IsKeptSettled}
use Rattle.jb_shared.specs.Showing.{value_with}
use Rattle.jb_shared.specs.Standing.{StandsSettled}
use Rattle.jb_shared.proofs.CallLemmas.{leads_called, leads_ended}
use Rattle.jb_shared.proofs.KeepingLemmas.{can_show, is_firm, kept_not_begun, kept_reopened, leaves_noted, out_doubts, shown_as, shows_reopened}
use Rattle.jb_shared.proofs.StandingLemmas.{stands_not_begun, stands_reopened}
use Rattle.jb_shared.proofs.KnowingLemmas.{knows_noted, next_number}
use Rattle.jb_shared.proofs.calling.end_doubt.Goals as goal

pub reopen-requires : goal.reopen-requires
reopen-requires g c = record { doubt = out_doubts g.D.Disk.device c.args.held.state (row_of c.args.seat.now) c.requires.out.0.knows }

pub show-requires-clause-can : goal.show-requires-clause-can
show-requires-clause-can g c =
    let shown = g.D.Disk.device in
    let known = row_of c.args.seat.now in
    let stands = c.in-Ok.stands in
    can_show shown (IsKeptInDoubt shown) known (row_of c.note.new.seat) c.args.held.state c.note.new.held.state stands (Reopened stands) (value_with c.args.held.state stands)
    c.requires.out.0.knows.stands_for (ap (λ s. s.shower) c.note.ensures.kept) (ap (λ s. value_with s stands) c.note.ensures.kept) (ap (λ (r : SeatRow). r.front) c.note.ensures.row)
    (λ first was. (was.index, (shows_reopened shown c.args.held.state c.reopen.new.self first known.front stands was c.in-Ok.ensures.settled c.reopen.ensures.crash c.reopen.ensures.rules c.reopen.ensures.alike c.in-Ok.ensures.faults.quiet c.in-Ok.ensures.packs).1))

pub returns-in-Ok-clause-ended : goal.returns-in-Ok-clause-ended
returns-in-Ok-clause-ended g c = (c.in-Ok.stands, leads_ended (row_of c.args.seat.now) (row_of c.note.new.seat) c.in-Ok.stands c.note.ensures.row)

pub returns-in-Ok-clause-ok : goal.returns-in-Ok-clause-ok
returns-in-Ok-clause-ok g c =
    let shown = g.D.Disk.device in
    let known = row_of c.args.seat.now in
    let stands = c.in-Ok.stands in
    let kept = c.note.ensures.kept in (
      record {
        holds = subst (HoldsTurn c.args.turn.now c.note.new.seat) (sym c.show.ensures.count) c.note.ensures.seat;
        knows =
            knows_noted (IsKeptInDoubt shown) (IsKeptSettled shown) c.args.held.state c.show.result.state known (row_of c.note.new.seat) (Reopened stands) c.note.ensures.row c.requires.out.0.knows
            (λ first was. kept_reopened shown c.args.held.state c.show.result.state c.reopen.new.self first known.front stands was c.in-Ok.ensures.settled c.reopen.ensures.crash c.reopen.ensures.rules c.reopen.ensures.alike c.in-Ok.ensures.faults.quiet c.in-Ok.ensures.packs
            (c.show.ensures.shown.area ∙ ap (λ s. s.area) kept)
            (shown_as shown c.args.held.state c.note.new.held.state c.show.result.state stands (front c.note.new.seat) (known.front ++ Reopened stands ∷ []) (value_with c.args.held.state stands)
            c.show.ensures.shown (ap (λ s. s.shower) kept) (ap (λ s. value_with s stands) kept) (ap (λ (r : SeatRow). r.front) c.note.ensures.row)));
      },
      omega (arith, c.show.ensures.count, c.note.ensures.count, c.requires.out.1),
    )

pub returns-in-Err-clause-err : goal.returns-in-Err-clause-err
returns-in-Err-clause-err g c = (
  refl,
  leads_called _ (row_of c.args.seat.now) (row_of c.note-in-Err.new.seat) c.args.call.user.now c.args.call.moment c.args.call.command.now (NotBegun (device_of g.D.Disk.device c.reopen.new.self).faults)
      c.note-in-Err.ensures.row (λ account. inr (_, refl)),
)

pub returns-in-Err-clause-out : goal.returns-in-Err-clause-out
returns-in-Err-clause-out g c =
    let shown = g.D.Disk.device in
    let known = row_of c.args.seat.now in
    let knows = c.requires.out.0.knows in
    let faults = (device_of shown c.reopen.new.self).faults in
    record {
      holds = c.note-in-Err.ensures.seat;
      knows =
          knows_noted (IsKeptInDoubt shown) (IsKept shown) c.args.held.state c.note-in-Err.new.held.state known (row_of c.note-in-Err.new.seat) (next_call known c.args.call (NotBegun faults)) c.note-in-Err.ensures.row knows
          (λ first was. kept_not_begun shown c.args.held.state c.note-in-Err.new.held.state c.reopen.new.self first known.front known.node (length known.mine + 1) c.args.call.user.now c.args.call.moment c.args.call.command.now was
          c.in-Err.ensures.still c.in-Err.ensures.loaded c.reopen.ensures.crash c.in-Err.ensures.opens c.reopen.ensures.rules c.reopen.ensures.alike c.in-Err.ensures.faults.cause c.in-Err.ensures.unpacked (next_number (IsKeptInDoubt shown) (IsKept shown) c.args.held.state known knows)
          c.note-in-Err.ensures.kept);
    }

pub show-requires-clause-firm : goal.show-requires-clause-firm
show-requires-clause-firm g c =
    let shown = g.D.Disk.device in
    let known = row_of c.args.seat.now in
    let stands = c.in-Ok.stands in
    let old = c.args.held.state in
    let kept = c.note.ensures.kept in
    is_firm shown (IsKeptInDoubt shown) known (row_of c.note.new.seat) old c.note.new.held.state (Reopened stands)
    c.requires.out.0.knows.stands_for (ap (λ s. s.shower) kept) (ap (λ (r : SeatRow). r.front) c.note.ensures.row)
    (λ first was. (
      was.index,
      subst (λ a. StandsSettled shown a first.opening (known.front ++ Reopened stands ∷ [])) (sym (ap (λ s. s.area) kept))
          (stands_reopened shown old.area c.reopen.new.self first.opening known.front stands was.area c.in-Ok.ensures.settled c.reopen.ensures.crash c.reopen.ensures.rules c.reopen.ensures.alike c.in-Ok.ensures.faults.quiet c.in-Ok.ensures.packs).0,
    ))

pub returns-in-Ok-clause-crash : goal.returns-in-Ok-clause-crash
returns-in-Ok-clause-crash g c =
    let shown = g.D.Disk.device in
    let known = row_of c.args.seat.now in
    let stands = c.in-Ok.stands in
    let old = c.args.held.state in
    leaves_noted shown (IsKeptInDoubt shown) known (row_of c.note.new.seat) old c.reopen.new.self c.show.result.state.area (Reopened stands) c.requires.out.0.knows.stands_for (ap (λ (r : SeatRow). r.front) c.note.ensures.row)
    (c.show.ensures.shown.area ∙ ap (λ s. s.area) c.note.ensures.kept)
    (λ first was.
    (stands_reopened shown old.area c.reopen.new.self first.opening known.front stands was.area c.in-Ok.ensures.settled c.reopen.ensures.crash c.reopen.ensures.rules c.reopen.ensures.alike c.in-Ok.ensures.faults.quiet c.in-Ok.ensures.packs).1)

pub returns-in-Err-clause-crash : goal.returns-in-Err-clause-crash
returns-in-Err-clause-crash g c =
    let shown = g.D.Disk.device in
    let known = row_of c.args.seat.now in
    let knows = c.requires.out.0.knows in
    let old = c.args.held.state in
    leaves_noted shown (IsKeptInDoubt shown) known (row_of c.note-in-Err.new.seat) old c.reopen.new.self c.note-in-Err.new.held.state.area (next_call known c.args.call (NotBegun (device_of shown c.reopen.new.self).faults)) knows.stands_for
    (ap (λ (r : SeatRow). r.front) c.note-in-Err.ensures.row) (ap (λ s. s.area) c.note-in-Err.ensures.kept)
    (λ first was.
    (stands_not_begun shown old.area c.reopen.new.self first.opening known.front known.node (length known.mine + 1) c.args.call.user.now c.args.call.moment c.args.call.command.now was.area
    c.in-Err.ensures.still c.in-Err.ensures.loaded c.reopen.ensures.crash c.in-Err.ensures.opens c.reopen.ensures.rules c.reopen.ensures.alike c.in-Err.ensures.faults.cause c.in-Err.ensures.unpacked (next_number (IsKeptInDoubt shown) (IsKept shown) old known knows)).1)
