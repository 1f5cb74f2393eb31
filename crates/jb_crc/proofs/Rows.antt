-- What the tables hold.
use Rattle.std.proofs.Common.{◌≡◌, ℕ, ◌+◌, ◌*◌, ◌<◌, List, [], map, get_or, refl, ap, ◌∙◌, arith}
use Rattle.std.specs.List.{range_with_len}
use Rattle.std.proofs.lemmas.List.FromFn.{get_or-map-range_with_len}
use Rattle.jb_bytes.specs.Crc.{crc_bits}
use Rattle.jb_crc.specs.declared.tables.TheConstants.{TABLES}

-- what a row holds
row_of : ℕ → List ℕ
row_of further = map (λ (byte : ℕ). crc_bits (8 * (further + 1)) byte) (range_with_len 0 256)

-- the whole table, computed
TABLES-rows : TABLES ≡ map row_of (range_with_len 0 8)
unfolding row_of
TABLES-rows = refl

-- each entry
pub entry : (further byte : ℕ) → further < 8 → byte < 256 → get_or (get_or TABLES further []) byte 0 ≡ crc_bits (8 * (further + 1)) byte
unfolding row_of
entry further byte few small =
    ap (λ (rows : List (List ℕ)). get_or (get_or rows further []) byte 0) TABLES-rows
    ∙ ap (λ (row : List ℕ). get_or row byte 0) (get_or-map-range_with_len row_of 0 8 further further [] few (omega arith))
    ∙ get_or-map-range_with_len (λ (b : ℕ). crc_bits (8 * (further + 1)) b) 0 256 byte byte 0 small (omega arith)
