-- What the steps of the search for the first overlap answer.
use Rattle.std.specs.Prelude.{ℕ, ◌+◌, ◌<◌, Bool, List, length, take, slice_index_or, All, AllPairs}
use Rattle.std.specs.Bool.{MatchBool}
use Rattle.jb_image.specs.declared.extent.Extent.{Extent}
use Rattle.jb_image.specs.Extents.{AreDisjoint, ShareByte}

-- the answer says whether no two of them share a byte
abbrev pub SaysDisjoint : List Extent → Bool → Type 0
SaysDisjoint extents answer = MatchBool answer (AllPairs AreDisjoint extents) (AllPairs AreDisjoint extents → ⊥)

-- the extent at this place is the lowest that shares a byte with one at a lower place
pub record IsLowestOther (extents : List Extent) (other : ℕ) : Type 0 where
  pub placed : other < length extents
  pub before : AllPairs AreDisjoint (take other extents)
  pub with_it : AllPairs AreDisjoint (take (other + 1) extents) → ⊥

-- the extent at this place is the lowest that shares a byte with this one
pub record IsLowestPartner (extents : List Extent) (extent : Extent) (one : ℕ) : Type 0 where
  pub placed : one < length extents
  pub shared : (d : Extent) → ShareByte (slice_index_or extents one d) extent
  pub none_below : (k : ℕ) (d : Extent) → k < one → AreDisjoint (slice_index_or extents k d) extent

-- it shares no byte with any of them
abbrev pub IsDisjointFromAll : List Extent → Extent → Type 0
IsDisjointFromAll extents extent = All (λ one. AreDisjoint one extent) extents
