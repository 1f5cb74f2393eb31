use Rattle.std.proofs.Common.{◌≡◌, ◌<◌, ◌≤◌, ◌-◌, ℕ, [], ◌∷◌, ◌++◌, length, vec_capacity}
use Rattle.std.specs.Prelude.{slice_index_or}
use Rattle.jb_run.proofs.dealing.collect.Given as goal

-- the row has the elements of the first lists; the others are as they were
abbrev pub invariant-loop-row : goal.invariant-loop-row
invariant-loop-row g l = record {
  lists : length l.lists.items ≡ length l.initial.lists.items;
  few : length l.row.items ≤ length l.lists.items;
  before : (n : ℕ) (list : _) (one : _) → n < length l.row.items
      → (slice_index_or l.initial.lists.items n list).items ≡ (slice_index_or l.lists.items n list).items ++ slice_index_or l.row.items n one ∷ [];
  behind : (n : ℕ) (list : _) → length l.row.items ≤ n → n < length l.lists.items → slice_index_or l.lists.items n list ≡ slice_index_or l.initial.lists.items n list;
  room : vec_capacity l.row ≡ vec_capacity l.initial.row;
}

abbrev pub decreases-loop-row : goal.decreases-loop-row
decreases-loop-row g l = length l.lists.items - length l.row.items
