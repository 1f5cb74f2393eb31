-- Lists of several nodes, to which rows with an element for each are dealt, and from which they are collected.
use Rattle.std.specs.declared.alloc.Global.{Global}
use Rattle.std.specs.Prelude.{Vec, ◌≡◌, ℕ, ◌<◌, ◌≤◌, All, List, [], ◌∷◌, ◌++◌, length, map, slice_index_or, vec_capacity}

-- the lists that vectors hold
abbrev pub lists_of : {A : Type 0} → List (Vec A Global) → List (List A)
lists_of vectors = map (λ vector. vector.items) vectors

-- each has room for so many elements
abbrev pub HaveRoom : {A : Type 0} → ℕ → List (Vec A Global) → Type 0
HaveRoom count vectors = All (λ vector. count ≤ vec_capacity vector) vectors

-- so many lists, empty, with room for so many elements each
pub record AreRoomy {A : Type 0} (vectors : List (Vec A Global)) (lists count : ℕ) : Type 0 where
  pub as_many : length vectors ≡ lists
  pub empty : All (λ vector. vector.items ≡ []) vectors
  pub room : HaveRoom count vectors

-- a row is dealt: behind the first list stands its first element, and so on
pub record IsDealt {A : Type 0} (fewer : List (List A)) (row : List A) (more : List (List A)) : Type 0 where
  pub lists : length more ≡ length fewer
  pub count : length row ≡ length fewer
  pub each : (n : ℕ) (one : A) → n < length fewer → slice_index_or more n [] ≡ slice_index_or fewer n [] ++ slice_index_or row n one ∷ []

-- the row has the element at this place of each list
pub record IsColumn {A : Type 0} (lists : List (List A)) (place : ℕ) (row : List A) : Type 0 where
  pub count : length row ≡ length lists
  pub each : (n : ℕ) (one : A) → n < length lists → slice_index_or row n one ≡ slice_index_or (slice_index_or lists n []) place one
