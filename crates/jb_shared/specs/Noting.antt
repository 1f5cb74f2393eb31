-- What a turn records.
use Rattle.std.specs.Prelude.{ℕ}
use Rattle.jb_model.specs.declared.entry.Entry.{Entry}
use Rattle.jb_model.specs.declared.entry.Entry.TheVariants.{Reopened}
use Rattle.jb_model.specs.declared.entry.Outcome.TheVariants.{Replied, InDoubt, NotBegun}
use Rattle.jb_shared.specs.InTurn.{SeatRow, next_call}
use Rattle.jb_shared.specs.declared.noting.Noted.{Noted}
use Rattle.jb_shared.specs.declared.noting.Noted.TheVariants as noting

-- the entry that is recorded so, where the device has failed so often
abbrev pub entry_of : SeatRow → ℕ → Noted → Entry
entry_of known faults (noting.Reopened stands) = Reopened stands
entry_of known faults (noting.Replied call reply) = next_call known call (Replied reply.now)
entry_of known faults (noting.InDoubt call) = next_call known call (InDoubt faults)
entry_of known faults (noting.NotBegun call) = next_call known call (NotBegun faults)
