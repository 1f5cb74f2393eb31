-- Where a number stands among summaries in rising order.
use Rattle.std.specs.Prelude.{◌≡◌, ℕ, ◌<◌, ◌≤◌, ◌==◌, false, List, Option, None, Some, length, slice_index_or, All, AllPairs}
use Rattle.jb_state.specs.declared.summary.Summary.{Summary}

-- each has a lower number than all behind it
abbrev pub NumbersRise : List Summary → Type 0
NumbersRise summaries = AllPairs (λ one other. one.number < other.number) summaries

-- those before this place have lower numbers than that one, the others have not
pub record IsSplitAt (summaries : List Summary) (number at : ℕ) : Type 0 where
  pub within : at ≤ length summaries
  pub lower : (k : ℕ) (d : Summary) → k < at → (slice_index_or summaries k d).number < number
  pub rest : (k : ℕ) (d : Summary) → at ≤ k → k < length summaries → number ≤ (slice_index_or summaries k d).number

-- the one with this number stands at the place, or none has it
abbrev pub IsSummaryPlace : List Summary → ℕ → Option ℕ → Type 0
IsSummaryPlace summaries number None = All (λ one. (one.number == number) ≡ false) summaries
IsSummaryPlace summaries number (Some at) = (at < length summaries) × ((d : Summary) → (slice_index_or summaries at d).number ≡ number)
