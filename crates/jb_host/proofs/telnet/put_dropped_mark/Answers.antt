use Rattle.std.proofs.Common.{◌≡◌, ◌≤◌, ◌∷◌, [], ℕ, List, length, slice_set, take, refl, arith}
use Rattle.jb_host.proofs.telnet.put_dropped_mark.Goals as goal

-- the three bytes are written
marked : (xs : List ℕ) → 3 ≤ length xs → take 3 (slice_set (slice_set (slice_set xs 0 242) 1 255) 2 242) ≡ 242 ∷ 255 ∷ 242 ∷ []
marked [] room = absurd (omega arith)
marked (x ∷ []) room = absurd (omega arith)
marked (x ∷ y ∷ []) room = absurd (omega arith)
marked (x ∷ y ∷ z ∷ rest) room = refl

pub returns-clause-marks : goal.returns-clause-marks
returns-clause-marks c = marked c.args.into.now c.requires.room
