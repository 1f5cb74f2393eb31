-- The last line of a check, pinned to what was written out by hand.
use Rattle.std.proofs.Common.{◌≡◌, [], ◌∷◌, ◌++◌, refl}
use Rattle.std.specs.Fmt.{digits}
use Rattle.std.specs.Prelude.{codes}
use Rattle.jb_journal.specs.declared.error.Recovered.TheVariants.{Closed, Replayed}
use Rattle.jb_tool.specs.Check.{recovered_line}

-- behind a closed gate
of_closed : recovered_line Closed ≡ codes "recovered closed" ++ 10 ∷ []
of_closed = refl

-- a change of the first version has no number
of_first : recovered_line (Replayed 1 0) ≡ codes "recovered 1 0" ++ 10 ∷ []
unfolding digits
of_first = refl

-- and one of the second has
of_second : recovered_line (Replayed 2 9) ≡ codes "recovered 2 9" ++ 10 ∷ []
unfolding digits
of_second = refl

-- the greatest
of_greatest : recovered_line (Replayed 2 18446744073709551615) ≡ codes "recovered 2 18446744073709551615" ++ 10 ∷ []
unfolding digits
of_greatest = refl
