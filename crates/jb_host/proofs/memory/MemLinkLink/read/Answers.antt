use Rattle.std.proofs.Common.{◌≡◌, ◌-◌, ◌≤◌, List, ℕ, Some, length, take, drop, ap, arith}
use Rattle.std.proofs.lemmas.List.{places}
use Rattle.jb_host.proofs.Wires.{drop_then}
use Rattle.jb_host.proofs.memory.MemLinkLink.read.Goals as goal

pub returns-else-is_end-clause-found : goal.returns-else-is_end-clause-found
returns-else-is_end-clause-found c =
    let all = c.fill-n.ensures.all in
    let len : length (take (length c.as_slice.result.now - c.args.self.now.at) (drop c.args.self.now.at c.as_slice.result.now)) ≡ length c.as_slice.result.now - c.args.self.now.at = grind (arith, places) in
    let small : c.fill-n.result ≤ length c.as_slice.result.now - c.args.self.now.at = omega (arith, all, len) in
    let is = drop_then c.args.self.now.at c.fill-n.result c.as_slice.result.now small in
    rw (c.fill-n.ensures.bytes, ← c.as_slice.ensures) (ap (λ (w : List ℕ). Some w) is)
