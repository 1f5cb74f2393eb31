use Rattle.std.proofs.Common.{◌≡◌, ◌++◌, ◌∷◌, [], ℕ, flat_map, replicate}
use Rattle.jb_talk.proofs.keys.append_rubs.Given as goal

abbrev pub invariant-loop-i : goal.invariant-loop-i
invariant-loop-i l = l.owed.items ≡ l.initial.owed.items ++ flat_map {X = ℕ} (λ _. 8 ∷ 32 ∷ 8 ∷ []) (replicate l._i 0)
