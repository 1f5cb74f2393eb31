-- Names as the settings of a board have them.
use Rattle.std.proofs.Common.{◌≡◌, ℕ, zero, suc, ◌<◌, Bool, true, false, ◌&&◌, List, [], ◌∷◌, get_or, refl, arith}
use Rattle.std.specs.List.{list_all}
use Rattle.std.proofs.lemmas.Bool.Decides.{nat_tests}
use Rattle.jb_conf.specs.Ranges.{is_printed}
use Rattle.jb_conf.specs.declared.board.Board.{Board}
use Rattle.jb_run.specs.Telling.{AreNamed}

both : (a b : Bool) → (a && b) ≡ true → (a ≡ true) × (b ≡ true)
both true b h = (refl, h)
both false b h = (h, absurd (grind arith))

printed_low : (byte : ℕ) → is_printed byte ≡ true → byte < 128
printed_low byte h = grind (arith, nat_tests)

-- a printable text is of ASCII
pub printed_ascii : (text : List ℕ) → list_all is_printed text ≡ true → (k : ℕ) → get_or text k 0 < 128
printed_ascii [] h k = omega arith
printed_ascii (byte ∷ bytes) h zero = printed_low byte (both (is_printed byte) (list_all is_printed bytes) h).0
printed_ascii (byte ∷ bytes) h (suc k) = printed_ascii bytes (both (is_printed byte) (list_all is_printed bytes) h).1 k

-- the areas of a board have names that can be told
pub are_named : (board : Board) → AreNamed board.areas
are_named board = λ k area within. let one = board.in_range.area_values.each k area within in (one.name.1, one.printed)
