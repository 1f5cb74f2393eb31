-- Where the mark of a pair stands.
use Rattle.std.specs.Prelude.{◌≡◌, ℕ, ◌<◌, true, false, List, length, slice_index_or, All, Option, None, Some}
use Rattle.jb_state.specs.declared.mark.Mark.{Mark}
use Rattle.jb_state.specs.Marks.{is_mark, mark_of}

-- no mark has this pair
abbrev pub HasNone : ℕ → ℕ → List Mark → Type 0
HasNone user_crc user_id marks = All (λ mark. is_mark user_crc user_id mark ≡ false) marks

-- the first mark of this pair stands at the place
pub record IsFirstOf (user_crc user_id : ℕ) (marks : List Mark) (place : ℕ) : Type 0 where
  pub within : place < length marks
  pub here : (d : Mark) → is_mark user_crc user_id (slice_index_or marks place d) ≡ true
  pub before : (k : ℕ) (d : Mark) → k < place → is_mark user_crc user_id (slice_index_or marks k d) ≡ false

-- the place of the first mark of this pair, where there is one
abbrev pub IsPlaceOf : ℕ → ℕ → List Mark → Option ℕ → Type 0
IsPlaceOf user_crc user_id marks None = HasNone user_crc user_id marks
IsPlaceOf user_crc user_id marks (Some place) = IsFirstOf user_crc user_id marks place

-- to every pair but that of this mark, both lists have the same mark
abbrev pub FindOthersAlike : Mark → List Mark → List Mark → Type 0
FindOthersAlike mark before after =
    (user_crc user_id : ℕ) → is_mark user_crc user_id mark ≡ false → mark_of user_crc user_id after ≡ mark_of user_crc user_id before
