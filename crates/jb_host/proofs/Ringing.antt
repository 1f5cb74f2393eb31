-- What a bell over areas in turn tells behind a ring.
use Rattle.std.proofs.Common.{◌≡◌, ℕ, zero, suc, ◌+◌, ◌∷◌, Bool, ap, ◌∙◌, refl, arith}
use Rattle.std.specs.Prelude.{Option, Some, None}
use Rattle.std.specs.Option.{option_map}
use Rattle.jb_host.specs.Real.{next_in_turn, in_turn, timed_rings}
use Rattle.jb_host.specs.Rings.{RingsFor}

-- the areas to come, where they have an end
to_come : (areas last : ℕ) (after : Option ℕ)
    → option_map (in_turn areas last) (option_map (λ n. n + 1) after) ≡ option_map (λ rest. next_in_turn areas last ∷ rest) (option_map (in_turn areas (next_in_turn areas last)) after)
to_come areas last None = refl
to_come areas last (Some n) =
    let more : n + 1 ≡ suc n = omega arith in
    ap (λ (m : ℕ). Some (in_turn areas last m)) more

-- it has rung for the area behind the last
pub rings_next : (areas last : ℕ) (is_shut : Bool) (left after : Option ℕ) → left ≡ option_map (λ n. n + 1) after
    → RingsFor (next_in_turn areas last) (timed_rings areas last is_shut left) (timed_rings areas (next_in_turn areas last) is_shut after)
rings_next areas last is_shut left after was = record {
  first = ap (option_map (in_turn areas last)) was ∙ to_come areas last after;
  left = was;
  shut = refl;
}
