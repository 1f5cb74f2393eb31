-- What is known of a bell before and after it is waited for.
use Rattle.std.specs.Prelude.{◌≡◌, ℕ, ◌+◌, Bool, true, List, ◌∷◌, Option, Some}
use Rattle.std.specs.Option.{option_map}
use Rattle.jb_host.specs.declared.bell.Ring.{Ring}
use Rattle.jb_host.specs.declared.bell.Ring.TheVariants.{Pack, Shut}

-- a bell, as its user sees it
pub record Rings : Type 0 where
  -- whether it has answered that it is shut
  pub is_shut : Bool
  -- how many rings are left until it is shut, where their number has an end
  pub left : Option ℕ
  -- the areas for which it will still ring, in order, where it tells them
  pub to_come : Option (List ℕ)

-- the bell rang for this area, the first of those to come
pub record RingsFor (area : ℕ) (old new : Rings) : Type 0 where
  pub first : old.to_come ≡ option_map (λ rest. area ∷ rest) new.to_come
  pub left : old.left ≡ option_map (λ n. n + 1) new.left
  pub shut : new.is_shut ≡ old.is_shut

-- the bell answered that it is shut, since no ring was left
pub record RingsNoMore (old new : Rings) : Type 0 where
  pub over : old.left ≡ Some 0
  pub shut : new.is_shut ≡ true
  pub left : new.left ≡ old.left
  pub to_come : new.to_come ≡ old.to_come

-- what the answer of a bell means
abbrev pub Tolls : Rings → Ring → Rings → Type 0
Tolls old (Pack area) new = RingsFor area old new
Tolls old Shut new = RingsNoMore old new
