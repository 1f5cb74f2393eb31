use Rattle.std.proofs.Common.{◌≡◌, ◌≢◌, ℕ, ◌==◌, false, refl, arith}
use Rattle.std.proofs.lemmas.Bool.Decides.{nat_tests}
use Rattle.jb_area.specs.Area.{device_of}
use Rattle.jb_turn.specs.Rows.{IsOwn}
use Rattle.jb_turn.specs.Seats.{row_of}
use Rattle.jb_shared.specs.InTurn.{SeatRow}
use Rattle.jb_shared.specs.Noting.{entry_of}
use Rattle.jb_shared.specs.Standing.{caller_of}
use Rattle.jb_shared.specs.declared.noting.Noted.{Noted}
use Rattle.jb_shared.specs.declared.noting.Noted.TheVariants as noting
use Rattle.jb_shared.proofs.noting.note.Goals as goal

-- a node is no other one
no_other : (n node : ℕ) → n ≢ node → (node == n) ≡ false
no_other n node other = grind (arith, nat_tests)

-- what is recorded is no call of another node
is_own : (known : SeatRow) (faults : ℕ) (what : Noted) → IsOwn caller_of known.node (entry_of known faults what)
is_own known faults (noting.Reopened stands) = λ n other. refl
is_own known faults (noting.Replied call reply) = λ n other. no_other n known.node other
is_own known faults (noting.InDoubt call) = λ n other. no_other n known.node other
is_own known faults (noting.NotBegun call) = λ n other. no_other n known.node other

pub note-requires-clause-entry : goal.note-requires-clause-entry
note-requires-clause-entry g c =
    let known = row_of c.args.seat.now in
    let faults = (device_of g.D.Disk.device c.args.held.now.state.area).faults in
    (entry_of known faults c.args.what, c.requires.entry, is_own known faults c.args.what)
