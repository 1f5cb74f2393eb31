-- Numbers and their bytes: each gives the other back.
use Rattle.std.proofs.Common.{◌≡◌, ℕ, zero, suc, ◌+◌, ◌*◌, ◌/◌, ◌%◌, ◌^◌, ◌<◌, ◌≤◌, List, [], ◌∷◌, length, take, drop, get_or, ap, sym, ◌∙◌, refl, arith}
use Rattle.std.proofs.lemmas.List.{drop-drop}
use Rattle.jb_bytes.specs.Number.{little_endian, number_at, number_bytes}

-- the first four bytes, as two pairs
quad : (bytes : List ℕ) → 4 ≤ length bytes → little_endian (take 2 bytes) + little_endian (take 2 (drop 2 bytes)) * 65536 ≡ little_endian (take 4 bytes)
quad [] within = absurd (omega arith)
quad (a ∷ []) within = absurd (omega arith)
quad (a ∷ b ∷ []) within = absurd (omega arith)
quad (a ∷ b ∷ c ∷ []) within = absurd (omega arith)
quad (a ∷ b ∷ c ∷ d ∷ bytes) within = omega arith

-- four bytes at a place, as two pairs
pub number_at-pairs : (at : ℕ) (bytes : List ℕ) → 4 ≤ length (drop at bytes) → number_at 2 at bytes + number_at 2 (at + 2) bytes * 65536 ≡ number_at 4 at bytes
number_at-pairs at bytes within =
    ap (λ (l : List ℕ). number_at 2 at bytes + little_endian (take 2 l) * 65536) (sym (drop-drop 2 at bytes)) ∙ quad (drop at bytes) within

-- each is a byte
abbrev pub AreBytes : List ℕ → Type 0
AreBytes bytes = (k : ℕ) → get_or bytes k 0 < 256

-- the rest of bytes are bytes
rest_bytes : (byte : ℕ) (bytes : List ℕ) → AreBytes (byte ∷ bytes) → AreBytes bytes
rest_bytes byte bytes each k = each (suc k)

-- the bytes of the number that bytes make
pub number_bytes-back : (width : ℕ) (bytes : List ℕ) → AreBytes bytes → length bytes ≡ width → number_bytes width (little_endian bytes) ≡ bytes
number_bytes-back zero [] each size = refl
number_bytes-back zero (byte ∷ bytes) each size = absurd (omega arith)
number_bytes-back (suc width) [] each size = absurd (omega arith)
number_bytes-back (suc width) (byte ∷ bytes) each size =
    let small : byte < 256 = each 0 in
    let low : (byte + 256 * little_endian bytes) % 256 ≡ byte = omega arith in
    let high : (byte + 256 * little_endian bytes) / 256 ≡ little_endian bytes = omega arith in
    let inner : number_bytes width (little_endian bytes) ≡ bytes = number_bytes-back width bytes (rest_bytes byte bytes each) (omega arith) in
    let first : number_bytes (suc width) (byte + 256 * little_endian bytes) ≡ byte ∷ number_bytes width (little_endian bytes) = rw (low, high) refl in
    first ∙ ap (λ (l : List ℕ). byte ∷ l) inner

-- the number that its own bytes make
pub little_endian-back : (width n : ℕ) → n < 256 ^ width → little_endian (number_bytes width n) ≡ n
little_endian-back zero n small = omega arith
little_endian-back (suc width) n small =
    let shape : 256 ^ suc width ≡ 256 * 256 ^ width = grind arith in
    let lower : n / 256 < 256 ^ width = omega arith in
    let inner : little_endian (number_bytes width (n / 256)) ≡ n / 256 = little_endian-back width (n / 256) lower in
    rw inner (omega arith)

-- so many bytes
pub length-number_bytes : (width n : ℕ) → length (number_bytes width n) ≡ width
length-number_bytes zero n = refl
length-number_bytes (suc width) n = ap suc (length-number_bytes width (n / 256))
