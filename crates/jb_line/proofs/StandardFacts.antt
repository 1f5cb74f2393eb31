-- Keys and the lines that they end, after RFC 854, "The NVT printer and keyboard", and the echo of each key at the limits of a line.
use Rattle.std.proofs.Common.{◌≡◌, ℕ, List, [], ◌∷◌, ◌++◌, true, false, map, codes, replicate, refl}
use Rattle.jb_line.specs.declared.key.Key.{Key}
use Rattle.jb_line.specs.declared.key.Key.TheVariants.{Byte, EraseChar, EraseLine}
use Rattle.jb_line.specs.declared.key.Echo.{Echo}
use Rattle.jb_line.specs.declared.key.Echo.TheVariants.{Nothing, One, Rub, NewLine}
use Rattle.jb_line.specs.Lines.{typed_lines, typing_of}
use Rattle.jb_line.specs.Typing.{Typing, echo_of, typing_after}

-- the lines that end in these bytes
abbrev lines : List ℕ → List (List ℕ)
lines bytes = map (λ one. one.line) (typed_lines (map Byte bytes))

-- the lines a and b
abbrev a_b : List (List ℕ)
a_b = codes "a" ∷ codes "b" ∷ []

-- a line's end counts once, be it CR LF, CR NUL, CR or LF
ends : (lines (97 ∷ 13 ∷ 10 ∷ 98 ∷ 13 ∷ 10 ∷ []) ≡ a_b) × (lines (97 ∷ 13 ∷ 0 ∷ 98 ∷ 13 ∷ 0 ∷ []) ≡ a_b) × (lines (97 ∷ 13 ∷ 98 ∷ 13 ∷ []) ≡ a_b)
    × (lines (97 ∷ 10 ∷ 98 ∷ 10 ∷ []) ≡ a_b)
ends = (refl, refl, refl, refl)

-- ends behind one another, and a key between a return and a feed
odd_ends : (lines (13 ∷ 13 ∷ 10 ∷ 10 ∷ []) ≡ [] ∷ [] ∷ [] ∷ []) × (lines (13 ∷ 10 ∷ 13 ∷ 10 ∷ []) ≡ [] ∷ [] ∷ []) × (lines (10 ∷ 13 ∷ 10 ∷ 13 ∷ []) ≡ [] ∷ [] ∷ [] ∷ [])
    × (lines (97 ∷ 13 ∷ 0 ∷ 10 ∷ 98 ∷ 13 ∷ []) ≡ codes "a" ∷ [] ∷ codes "b" ∷ []) × (lines (97 ∷ 13 ∷ 8 ∷ 10 ∷ 98 ∷ 13 ∷ []) ≡ codes "a" ∷ [] ∷ codes "b" ∷ [])
    × (map (λ one. one.line) (typed_lines (Byte 13 ∷ EraseChar ∷ Byte 10 ∷ [])) ≡ [] ∷ [] ∷ [])
odd_ends = (refl, refl, refl, refl, refl, refl)

-- control characters are no part of a line, 255 is, and no end gives no line
parts : (lines (97 ∷ 0 ∷ 98 ∷ 1 ∷ 255 ∷ 31 ∷ 127 ∷ 13 ∷ []) ≡ codes "ab" ∷ []) × (lines (97 ∷ 0 ∷ 98 ∷ 1 ∷ 255 ∷ 31 ∷ 13 ∷ []) ≡ (97 ∷ 98 ∷ 255 ∷ []) ∷ []) × (lines (codes "no end") ≡ [])
parts = (refl, refl, refl)

-- a line of so many bytes
abbrev long : ℕ → Typing
long length = record { text = replicate length 120; after_return = false; masked = false }

-- BS, DEL and EC, EL, a byte above 127, and ESC
abbrev keys : List Key
keys = Byte 8 ∷ Byte 127 ∷ EraseChar ∷ EraseLine ∷ Byte 254 ∷ Byte 27 ∷ []

-- the echo of each of these keys behind a line of so many bytes
abbrev echoes : ℕ → List Echo
echoes length = map (echo_of (long length)) keys

-- and the lines that they leave
abbrev left : ℕ → List (List ℕ)
left length = map (λ key. (typing_after (long length) key).text) keys

-- erasing does nothing where there is nothing; of 78 bytes none is taken more, and all are rubbed out at once
key_echoes : (echoes 0 ≡ Nothing ∷ Nothing ∷ Nothing ∷ Nothing ∷ One 254 ∷ Nothing ∷ []) × (echoes 1 ≡ Rub 1 ∷ Rub 1 ∷ Rub 1 ∷ Rub 1 ∷ One 254 ∷ Nothing ∷ [])
    × (echoes 77 ≡ Rub 1 ∷ Rub 1 ∷ Rub 1 ∷ Rub 77 ∷ One 254 ∷ Nothing ∷ []) × (echoes 78 ≡ Rub 1 ∷ Rub 1 ∷ Rub 1 ∷ Rub 78 ∷ Nothing ∷ Nothing ∷ [])
key_echoes = (refl, refl, refl, refl)

key_lines : (left 0 ≡ [] ∷ [] ∷ [] ∷ [] ∷ (254 ∷ []) ∷ [] ∷ []) × (left 1 ≡ [] ∷ [] ∷ [] ∷ [] ∷ (120 ∷ 254 ∷ []) ∷ (120 ∷ []) ∷ [])
    × (left 77 ≡ replicate 76 120 ∷ replicate 76 120 ∷ replicate 76 120 ∷ [] ∷ (replicate 77 120 ++ 254 ∷ []) ∷ replicate 77 120 ∷ [])
    × (left 78 ≡ replicate 77 120 ∷ replicate 77 120 ∷ replicate 77 120 ∷ [] ∷ replicate 78 120 ∷ replicate 78 120 ∷ [])
key_lines = (refl, refl, refl, refl)

-- a return ends a line of each length, and the mask hides the echo alone
ended : (echo_of (long 78) (Byte 13) ≡ NewLine) × (lines (replicate 78 120 ++ 121 ∷ 13 ∷ []) ≡ replicate 78 120 ∷ [])
    × (echo_of (typing_of true []) (Byte 112) ≡ One 42) × (echo_of (typing_of false (Byte 112 ∷ [])) (Byte 113) ≡ One 113) × ((typing_of true (Byte 112 ∷ [])).text ≡ codes "p")
ended = (refl, refl, refl, refl, refl)
