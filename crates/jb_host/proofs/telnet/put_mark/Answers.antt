use Rattle.std.proofs.Common.{◌≡◌, ◌≤◌, ◌∷◌, [], ℕ, List, length, slice_index, slice_index_or, slice_set, take, refl, arith}
use Rattle.jb_host.proofs.telnet.put_mark.Goals as goal

-- the mark stands first, and behind it the byte that was first
marked : (xs : List ℕ) → 2 ≤ length xs → take 2 (slice_set (slice_set xs 1 (slice_index_or xs 0 0)) 0 242) ≡ 242 ∷ slice_index xs 0 ∷ []
marked [] room = absurd (omega arith)
marked (x ∷ []) room = absurd (omega arith)
marked (x ∷ y ∷ rest) room = refl

pub returns-clause-mark : goal.returns-clause-mark
returns-clause-mark c = marked c.args.into.now c.requires.room
