-- The number that some bytes make.
use Rattle.std.proofs.Common.{◌≡◌, suc, ℕ, ◌+◌, ◌*◌, ◌^◌, ◌<◌, ◌≤◌, List, [], ◌∷◌, length, get_or, refl, ◌∙◌, arith}
use Rattle.std.specs.Int.{w64, from_le_bytes}
use Rattle.std.specs.Prelude.{slice_index}
use Rattle.jb_bytes.specs.Number.{little_endian}
use Rattle.jb_bytes.proofs.Numbers.{AreBytes}

-- up to eight bytes, each at its worth
eight_bytes : (bytes : List ℕ) → length bytes ≤ 8 → get_or bytes 0 0 + get_or bytes 1 0 * 256 + get_or bytes 2 0 * 65536 + get_or bytes 3 0 * 16777216 + get_or bytes 4 0 * 4294967296
    + get_or bytes 5 0 * 1099511627776 + get_or bytes 6 0 * 281474976710656 + get_or bytes 7 0 * 72057594037927936 ≡ little_endian bytes
eight_bytes [] few = refl
eight_bytes (a ∷ []) few = omega arith
eight_bytes (a ∷ b ∷ []) few = omega arith
eight_bytes (a ∷ b ∷ c ∷ []) few = omega arith
eight_bytes (a ∷ b ∷ c ∷ d ∷ []) few = omega arith
eight_bytes (a ∷ b ∷ c ∷ d ∷ e ∷ []) few = omega arith
eight_bytes (a ∷ b ∷ c ∷ d ∷ e ∷ f ∷ []) few = omega arith
eight_bytes (a ∷ b ∷ c ∷ d ∷ e ∷ f ∷ g ∷ []) few = omega arith
eight_bytes (a ∷ b ∷ c ∷ d ∷ e ∷ f ∷ g ∷ h ∷ []) few = omega arith
eight_bytes (a ∷ b ∷ c ∷ d ∷ e ∷ f ∷ g ∷ h ∷ i ∷ bytes) few = absurd (omega arith)

-- so it is of bytes with zeros behind them
pub padded_number : (bytes padded : List ℕ) (n : ℕ) → n ≡ from_le_bytes w64 padded → length bytes ≤ 8 → ((k : ℕ) → k < 8 → slice_index padded k ≡ get_or bytes k 0) → n ≡ little_endian bytes
padded_number bytes padded n is few same =
    is ∙ omega (arith, same 0 (omega arith), same 1 (omega arith), same 2 (omega arith), same 3 (omega arith), same 4 (omega arith), same 5 (omega arith), same 6 (omega arith), same 7 (omega arith)) ∙ eight_bytes bytes few

-- a number is below what its bytes can say
pub little_endian-low : (bytes : List ℕ) → AreBytes bytes → little_endian bytes < 256 ^ length bytes
little_endian-low [] each = omega arith
little_endian-low (byte ∷ bytes) each =
    let small : byte < 256 = each 0 in
    let shape : 256 ^ suc (length bytes) ≡ 256 * 256 ^ length bytes = grind arith in
    let rest = little_endian-low bytes (λ k. each (suc k)) in
    omega arith
