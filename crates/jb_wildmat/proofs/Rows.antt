-- Worked wildmats (RFC 3977 sections 4.2 and 4.4).
use Rattle.std.proofs.Common.{◌≡◌, Bool, true, false, List, [], ◌∷◌, map, refl}
use Rattle.std.specs.Prelude.{ℕ, codes}
use Rattle.jb_wildmat.specs.Wildmats.{takes}

-- which of these names a wildmat takes
abbrev taken_of : List ℕ → List (List ℕ) → List Bool
taken_of wildmat names = map (takes wildmat) names

-- the last pattern that takes a name decides, and where none does the name is not taken
rightmost : taken_of (codes "a*,!*b,*c*") (codes "aaa" ∷ codes "abb" ∷ codes "ccb" ∷ codes "xxx" ∷ []) ≡ true ∷ false ∷ true ∷ false ∷ []
unfolding takes
rightmost = refl

-- names alone, and beginnings and ends of names
lists : (taken_of (codes "abc") (codes "abc" ∷ codes "ab" ∷ codes "abcd" ∷ []) ≡ true ∷ false ∷ false ∷ [])
    × (taken_of (codes "abc,def") (codes "abc" ∷ codes "def" ∷ codes "abc,def" ∷ []) ≡ true ∷ true ∷ false ∷ [])
    × (taken_of (codes "a*b") (codes "ab" ∷ codes "axbyb" ∷ codes "abx" ∷ codes "b" ∷ []) ≡ true ∷ true ∷ false ∷ false ∷ [])
    × (taken_of (codes "a*,*b") (codes "ax" ∷ codes "xb" ∷ codes "xax" ∷ []) ≡ true ∷ true ∷ false ∷ [])
    × (taken_of (codes "a*,!*b") (codes "ax" ∷ codes "axb" ∷ codes "xx" ∷ []) ≡ true ∷ false ∷ false ∷ [])
unfolding takes
lists = (refl, refl, refl, refl, refl)

-- what is left out is taken again behind that, and not before it
orders : (taken_of (codes "a*,!*b,c*") (codes "ab" ∷ codes "ax" ∷ codes "cb" ∷ []) ≡ false ∷ true ∷ true ∷ [])
    × (taken_of (codes "a*,c*,!*b") (codes "ab" ∷ codes "ax" ∷ codes "cb" ∷ []) ≡ false ∷ true ∷ false ∷ [])
unfolding takes
orders = (refl, refl)

-- one character for each `?`
places : (taken_of (codes "?a*") (codes "xa" ∷ codes "a" ∷ codes "xxa" ∷ []) ≡ true ∷ false ∷ false ∷ [])
    × (taken_of (codes "??a*") (codes "xxab" ∷ codes "xa" ∷ []) ≡ true ∷ false ∷ [])
    × (taken_of (codes "*a?") (codes "xxab" ∷ codes "xa" ∷ codes "abc" ∷ []) ≡ true ∷ false ∷ false ∷ [])
    × (taken_of (codes "*a??") (codes "aaxx" ∷ codes "axx" ∷ codes "xax" ∷ []) ≡ true ∷ true ∷ false ∷ [])
unfolding takes
places = (refl, refl, refl, refl)

-- signs that no pattern of the standard has stand for themselves; a pattern of nothing takes nothing but that
others : (taken_of (codes "[a],x!y,\\?") (codes "[a]" ∷ codes "a" ∷ codes "x!y" ∷ codes "\\z" ∷ []) ≡ true ∷ false ∷ true ∷ true ∷ [])
    × (taken_of (codes ",") (codes "x" ∷ codes "," ∷ [] ∷ []) ≡ false ∷ false ∷ true ∷ []) × (taken_of [] (codes "x" ∷ []) ≡ false ∷ [])
unfolding takes
others = (refl, refl, refl)

-- the groups of a server
groups : (taken_of (codes "jam.*,!jam.1?") (codes "jam.1" ∷ codes "jam.12" ∷ codes "jam.123" ∷ codes "news.1" ∷ []) ≡ true ∷ false ∷ true ∷ false ∷ [])
    × (taken_of (codes "*") (codes "jam.4294967295" ∷ []) ≡ true ∷ []) × (taken_of (codes "!*") (codes "jam.1" ∷ []) ≡ false ∷ [])
unfolding takes
groups = (refl, refl, refl)
