-- The marks of users.
use Rattle.std.specs.Prelude.{ℕ, Bool, ◌&&◌, ◌==◌, List, [], ◌∷◌, Option, find, if◌then◌else◌}
use Rattle.jb_state.specs.declared.mark.Mark.{Mark}

-- the mark is that of this pair
abbrev pub is_mark : ℕ → ℕ → Mark → Bool
is_mark user_crc user_id mark = (mark.user_crc == user_crc) && (mark.user_id == user_id)

-- the first mark of a pair
abbrev pub mark_of : ℕ → ℕ → List Mark → Option Mark
mark_of user_crc user_id marks = find (is_mark user_crc user_id) marks

-- the marks after a set
abbrev pub with_mark : Mark → List Mark → List Mark
with_mark mark [] = mark ∷ []
with_mark mark (first ∷ marks) = if is_mark mark.user_crc mark.user_id first then mark ∷ marks else first ∷ with_mark mark marks
