-- Lemmas for the crates that keep a state behind a turn.
use Rattle.std.proofs.Common.{◌≡◌, ℕ, List, Option, Some, None, refl, true, eq-eqb}
use Rattle.jb_turn.specs.Rows.{StandsFrom, is_at}

-- whatever the opening is, a state that stands for more after each opening does so after the one that is known
pub stands_on : {S O E : Type 0} (stands : S → O → List E → Type 0) (opening : Option O) (old new : S) (before after : List E) → ((first : O) → stands old first before → stands new first after)
    → StandsFrom stands opening old before → StandsFrom stands opening new after
stands_on stands None old new before after step none = none
stands_on stands (Some first) old new before after step here = step first here

-- a node's own number is its own
pub is_at_itself : (n : ℕ) → is_at n (Some n) ≡ true
is_at_itself n = eq-eqb n n refl
