-- The calls that an object in memory was told to fail.
use Rattle.std.specs.Prelude.{◌+◌, ◌-◌, ◌^◌, min, Contains}
use Rattle.jb_host.specs.declared.failing.Failing.{Failing}

-- the call that comes next is one of them
abbrev pub IsFailingNext : Failing → Type 0
IsFailingNext failing = Contains failing.numbers.items (min (failing.calls + 1) (2 ^ 64 - 1))
