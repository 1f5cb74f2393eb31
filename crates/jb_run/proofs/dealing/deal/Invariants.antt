use Rattle.std.proofs.Common.{◌≡◌, ◌<◌, ◌≤◌, ℕ, [], ◌∷◌, ◌++◌, length, take, vec_capacity}
use Rattle.std.specs.Prelude.{slice_index_or}
use Rattle.jb_run.specs.Rows.{HaveRoom}
use Rattle.jb_run.proofs.dealing.deal.Given as goal

-- what is left of the row is for the first lists, which are as they were; the others have their elements
abbrev pub invariant-loop-one : goal.invariant-loop-one
invariant-loop-one g l = record {
  lists : length l.lists.items ≡ length l.initial.lists.items;
  left : l.row.items ≡ take (length l.row.items) l.initial.row.items;
  few : length l.row.items ≤ length l.lists.items;
  before : (n : ℕ) (list : _) → n < length l.row.items → slice_index_or l.lists.items n list ≡ slice_index_or l.initial.lists.items n list;
  behind : (n : ℕ) (list : _) (one : _) → length l.row.items ≤ n → n < length l.lists.items
      → (slice_index_or l.lists.items n list).items ≡ (slice_index_or l.initial.lists.items n list).items ++ slice_index_or l.initial.row.items n one ∷ [];
  row_room : vec_capacity l.row ≡ vec_capacity l.initial.row;
  list_room : (count : ℕ) → HaveRoom count l.initial.lists.items → HaveRoom count l.lists.items;
}

abbrev pub decreases-loop-one : goal.decreases-loop-one
decreases-loop-one g l = length l.row.items
