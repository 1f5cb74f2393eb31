-- The remainder is linear: it may be taken of each byte by itself, and what the bytes give is put together by exclusive or.
use Rattle.std.proofs.Common.{◌≡◌, ℕ, zero, suc, ◌+◌, ◌*◌, ◌/◌, ◌%◌, ◌^◌, ◌<◌, Bool, true, false, ◌==◌, if◌then◌else◌, bit_xor, List, [], ◌∷◌, length, get_or, drop, length-drop, refl, ap, sym, ◌∙◌, arith}
use Rattle.std.proofs.lemmas.List.{drop_more, drop_all}
use Rattle.std.specs.Char.{to_ascii_lowercase}
use Rattle.jb_bytes.specs.Crc.{crc_bit, crc_bits, crc_byte, crc_from}
use Rattle.jb_crc.specs.Share.{share_of}
use lib.Bits.{xor_assoc, xor_comm, xor_mod, xor_shr, xor_zero_r, xor_shifted, shifted_half, shifted_even}

-- what a bit that falls out leaves
abbrev fallen : ℕ → ℕ
fallen bit = if bit == 1 then 0xEDB88320 else 0

fallen-apart : (fell : Bool) (half : ℕ) → (if fell then bit_xor half 0xEDB88320 else half) ≡ bit_xor half (if fell then 0xEDB88320 else 0)
fallen-apart true half = refl
fallen-apart false half = sym (xor_zero_r half)

-- one bit is a half, and what fell out
crc_bit-halves : (crc : ℕ) → crc_bit crc ≡ bit_xor (crc / 2) (fallen (crc % 2))
crc_bit-halves crc = fallen-apart (crc % 2 == 1) (crc / 2)

fallen-xor : (one other : ℕ) → one < 2 → other < 2 → fallen (bit_xor one other) ≡ bit_xor (fallen one) (fallen other)
fallen-xor zero zero _ _ = refl
fallen-xor zero (suc zero) _ _ = refl
fallen-xor (suc zero) zero _ _ = refl
fallen-xor (suc zero) (suc zero) _ _ = refl
fallen-xor (suc (suc one)) other small _ = absurd (omega arith)
fallen-xor zero (suc (suc other)) _ small = absurd (omega arith)
fallen-xor (suc zero) (suc (suc other)) _ small = absurd (omega arith)

xor_middle : (a b c d : ℕ) → bit_xor (bit_xor a b) (bit_xor c d) ≡ bit_xor (bit_xor a c) (bit_xor b d)
xor_middle a b c d =
    xor_assoc a b (bit_xor c d)
    ∙ ap (bit_xor a) (sym (xor_assoc b c d) ∙ ap (λ n. bit_xor n d) (xor_comm b c) ∙ xor_assoc c b d)
    ∙ sym (xor_assoc a c (bit_xor b d))

crc_bit-xor : (a b : ℕ) → crc_bit (bit_xor a b) ≡ bit_xor (crc_bit a) (crc_bit b)
crc_bit-xor a b =
    crc_bit-halves (bit_xor a b)
    ∙ ap (λ n. bit_xor n (fallen (bit_xor a b % 2))) (xor_shr a b 1)
    ∙ ap (λ n. bit_xor (bit_xor (a / 2) (b / 2)) (fallen n)) (xor_mod a b 1)
    ∙ ap (bit_xor (bit_xor (a / 2) (b / 2))) (fallen-xor (a % 2) (b % 2) (omega arith) (omega arith))
    ∙ xor_middle (a / 2) (b / 2) (fallen (a % 2)) (fallen (b % 2))
    ∙ sym (ap (λ n. bit_xor n (crc_bit b)) (crc_bit-halves a) ∙ ap (bit_xor (bit_xor (a / 2) (fallen (a % 2)))) (crc_bit-halves b))

-- so many bits of two numbers together
crc_bits-xor : (n a b : ℕ) → crc_bits n (bit_xor a b) ≡ bit_xor (crc_bits n a) (crc_bits n b)
crc_bits-xor zero a b = refl
crc_bits-xor (suc n) a b = ap (crc_bits n) (crc_bit-xor a b) ∙ crc_bits-xor n (crc_bit a) (crc_bit b)

-- zeros fall out and leave nothing
crc_bits-shifted : (k high : ℕ) → crc_bits k (high * 2 ^ k) ≡ high
crc_bits-shifted zero high = omega arith
crc_bits-shifted (suc k) high =
    ap (crc_bits k) (crc_bit-halves (high * 2 ^ suc k) ∙ ap (λ n. bit_xor n (fallen (high * 2 ^ suc k % 2))) (shifted_half high k)
    ∙ ap (λ n. bit_xor (high * 2 ^ k) (fallen n)) (shifted_even high k) ∙ xor_zero_r (high * 2 ^ k))
    ∙ crc_bits-shifted k high

-- bits after bits
crc_bits-add : (n m crc : ℕ) → crc_bits (n + m) crc ≡ crc_bits m (crc_bits n crc)
crc_bits-add zero m crc = let same : 0 + m ≡ m = omega arith in ap (λ k. crc_bits k crc) same
crc_bits-add (suc n) m crc = let same : suc n + m ≡ suc (n + m) = omega arith in ap (λ k. crc_bits k crc) same ∙ crc_bits-add n m (crc_bit crc)

-- a part of the sum so far goes its own way
crc_from-xor : (a b : ℕ) (bytes : List ℕ) → crc_from (bit_xor a b) bytes ≡ bit_xor (crc_bits (8 * length bytes) a) (crc_from b bytes)
crc_from-xor a b [] = refl
crc_from-xor a b (byte ∷ bytes) =
    let more : 8 * length (byte ∷ bytes) ≡ 8 + 8 * length bytes = omega arith in
    ap (λ n. crc_from (crc_bits 8 n) bytes) (xor_assoc a b (to_ascii_lowercase byte))
    ∙ ap (λ n. crc_from n bytes) (crc_bits-xor 8 a (bit_xor b (to_ascii_lowercase byte)))
    ∙ crc_from-xor (crc_bits 8 a) (crc_byte b byte) bytes
    ∙ ap (λ n. bit_xor n (crc_from (crc_byte b byte) bytes)) (sym (ap (λ n. crc_bits n a) more ∙ crc_bits-add 8 (8 * length bytes) a))

-- what a byte combined into the low eight bits gives, and what the other bits and the bytes behind it give
pub crc_from-cons : (crc byte : ℕ) (bytes : List ℕ) → crc_from crc (byte ∷ bytes) ≡ bit_xor (share_of (length bytes) (crc % 256) byte) (crc_from (crc / 256) bytes)
unfolding share_of
crc_from-cons crc byte bytes =
    let low = to_ascii_lowercase byte in
    let whole : crc ≡ bit_xor (crc / 256 * 256) (crc % 256) = omega (arith, xor_shifted (crc / 256) 8 (crc % 256) (omega arith)) in
    let more : 8 * (length bytes + 1) ≡ 8 + 8 * length bytes = omega arith in
    ap (λ n. crc_from (crc_bits 8 (bit_xor n low)) bytes) whole
    ∙ ap (λ n. crc_from (crc_bits 8 n) bytes) (xor_assoc (crc / 256 * 256) (crc % 256) low ∙ xor_comm (crc / 256 * 256) (bit_xor (crc % 256) low))
    ∙ ap (λ n. crc_from n bytes) (crc_bits-xor 8 (bit_xor (crc % 256) low) (crc / 256 * 256) ∙ ap (bit_xor (crc_bits 8 (bit_xor (crc % 256) low))) (crc_bits-shifted 8 (crc / 256)))
    ∙ crc_from-xor (crc_bits 8 (bit_xor (crc % 256) low)) (crc / 256) bytes
    ∙ ap (λ n. bit_xor n (crc_from (crc / 256) bytes)) (sym (ap (λ n. crc_bits n (bit_xor (crc % 256) low)) more ∙ crc_bits-add 8 (8 * length bytes) (bit_xor (crc % 256) low)))

-- the share of the byte at a place, and what is left
share_at : (crc : ℕ) (block : List ℕ) (at further : ℕ) → at + further + 1 ≡ length block → crc_from crc (drop at block) ≡ bit_xor (share_of further (crc % 256) (get_or block at 0)) (crc_from (crc / 256) (drop (at + 1) block))
share_at crc block at further fits =
    let behind : length (drop (at + 1) block) ≡ further = omega (arith, length-drop (at + 1) block) in
    ap (crc_from crc) (drop_more block at 0 (omega arith))
    ∙ crc_from-cons crc (get_or block at 0) (drop (at + 1) block)
    ∙ ap (λ n. bit_xor (share_of n (crc % 256) (get_or block at 0)) (crc_from (crc / 256) (drop (at + 1) block))) behind

-- the shares of the last four of eight bytes, into which nothing of the sum before reaches
last_shares : (block : List ℕ) → length block ≡ 8 → crc_from 0 (drop 4 block) ≡ bit_xor (share_of 3 0 (get_or block 4 0)) (bit_xor (share_of 2 0 (get_or block 5 0)) (bit_xor (share_of 1 0 (get_or block 6 0)) (share_of 0 0 (get_or block 7 0))))
last_shares block eight =
    share_at 0 block 4 3 (omega arith)
    ∙ ap (bit_xor (share_of 3 0 (get_or block 4 0))) (share_at 0 block 5 2 (omega arith)
    ∙ ap (bit_xor (share_of 2 0 (get_or block 5 0))) (share_at 0 block 6 1 (omega arith)
    ∙ ap (bit_xor (share_of 1 0 (get_or block 6 0))) (share_at 0 block 7 0 (omega arith)
    ∙ ap (λ (l : List ℕ). bit_xor (share_of 0 0 (get_or block 7 0)) (crc_from 0 l)) (drop_all 8 block (omega arith)) ∙ xor_zero_r (share_of 0 0 (get_or block 7 0)))))

-- eight bytes at once
pub eight_shares : (crc : ℕ) (block : List ℕ) → crc < 2 ^ 32 → length block ≡ 8 → crc_from crc block
    ≡ bit_xor (share_of 7 (crc % 256) (get_or block 0 0)) (bit_xor (share_of 6 (crc / 256 % 256) (get_or block 1 0)) (bit_xor (share_of 5 (crc / 65536 % 256) (get_or block 2 0)) (bit_xor (share_of 4 (crc / 16777216 % 256) (get_or block 3 0))
    (bit_xor (share_of 3 0 (get_or block 4 0)) (bit_xor (share_of 2 0 (get_or block 5 0)) (bit_xor (share_of 1 0 (get_or block 6 0)) (share_of 0 0 (get_or block 7 0))))))))
eight_shares crc block small eight =
    let second : crc / 256 / 256 ≡ crc / 65536 = omega arith in
    let third : crc / 65536 / 256 ≡ crc / 16777216 = omega arith in
    let none : crc / 16777216 / 256 ≡ 0 = omega arith in
    share_at crc block 0 7 (omega arith)
    ∙ ap (bit_xor (share_of 7 (crc % 256) (get_or block 0 0))) (share_at (crc / 256) block 1 6 (omega arith) ∙ ap (λ n. bit_xor (share_of 6 (crc / 256 % 256) (get_or block 1 0)) (crc_from n (drop 2 block))) second
    ∙ ap (bit_xor (share_of 6 (crc / 256 % 256) (get_or block 1 0))) (share_at (crc / 65536) block 2 5 (omega arith) ∙ ap (λ n. bit_xor (share_of 5 (crc / 65536 % 256) (get_or block 2 0)) (crc_from n (drop 3 block))) third
    ∙ ap (bit_xor (share_of 5 (crc / 65536 % 256) (get_or block 2 0))) (share_at (crc / 16777216) block 3 4 (omega arith) ∙ ap (λ n. bit_xor (share_of 4 (crc / 16777216 % 256) (get_or block 3 0)) (crc_from n (drop 4 block))) none
    ∙ ap (bit_xor (share_of 4 (crc / 16777216 % 256) (get_or block 3 0))) (last_shares block eight))))
