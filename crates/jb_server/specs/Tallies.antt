-- How many callers were served, and how their sessions ended.
use Rattle.std.specs.Prelude.{ℕ, ◌+◌, ◌-◌, ◌^◌, min, Bool, true, false, List}
use Rattle.std.specs.List.{fold}
use Rattle.jb_session.specs.declared.end.SessionEnd.{SessionEnd}
use Rattle.jb_session.specs.declared.end.SessionEnd.TheVariants.{Quit, Hangup, LoginRefused, LinkFault, Spent, OutOfMemory}
use Rattle.jb_server.specs.declared.tally.Tally.{Tally}

-- one more, up to the greatest number that is tallied
abbrev pub more_of : ℕ → ℕ
more_of n = min (n + 1) (2 ^ 32 - 1)

-- a session more, under its end
abbrev pub tallied : Tally → SessionEnd → Tally
tallied tally Quit = record tally { calls = more_of tally.calls; quit = more_of tally.quit }
tallied tally Hangup = record tally { calls = more_of tally.calls; hangup = more_of tally.hangup }
tallied tally LoginRefused = record tally { calls = more_of tally.calls; refused = more_of tally.refused }
tallied tally Spent = record tally { calls = more_of tally.calls; spent = more_of tally.spent }
tallied tally LinkFault = record tally { calls = more_of tally.calls; link_faults = more_of tally.link_faults }
tallied tally OutOfMemory = record tally { calls = more_of tally.calls; no_memory = more_of tally.no_memory }

-- these sessions more
abbrev pub counted_all : Tally → List SessionEnd → Tally
counted_all tally ends = fold tallied tally ends

-- the same, and whether the door failed besides
abbrev pub and_failed : Bool → Tally → Tally
and_failed true tally = record tally { door_failed = true }
and_failed false tally = tally

-- nothing is tallied yet
abbrev pub no_tally : Tally
no_tally = record { calls = 0; quit = 0; hangup = 0; refused = 0; spent = 0; link_faults = 0; no_memory = 0; door_failed = false }
