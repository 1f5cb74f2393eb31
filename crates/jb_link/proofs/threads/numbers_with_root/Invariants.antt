use Rattle.std.proofs.Common.{◌≡◌, ◌==◌, filter, map, take}
use Rattle.jb_state.specs.Links.{thread_root}
use Rattle.jb_state.specs.LiveSlots.{linkables_from}
use Rattle.jb_link.proofs.threads.numbers_with_root.Given as goal

abbrev pub invariant-loop-place : goal.invariant-loop-place
invariant-loop-place l =
    l.numbers.items ≡ map (λ one. one.number) (filter (λ one. thread_root (linkables_from l.base l.slots) one.number == l.root) (linkables_from l.base (take l.place l.slots)))
