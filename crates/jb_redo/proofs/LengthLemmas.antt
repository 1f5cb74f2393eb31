-- How long the journal's record of a change is, in the second version.
use Rattle.std.proofs.Common.{◌≡◌, ℕ, ◌+◌, ◌*◌, List, [], ◌∷◌, ◌++◌, length, refl, arith, length-append}
use Rattle.std.specs.List.{flat_map}
use Rattle.jb_bytes.specs.Number.{number_bytes}
use Rattle.jb_disk.specs.Files.{file_number}
use Rattle.jb_disk.specs.declared.file.FileId.{FileId}
use Rattle.jb_disk.specs.declared.piece.Length.{Length}
use Rattle.jb_disk.specs.declared.piece.Piece.{Piece}
use Rattle.jb_disk.specs.declared.piece.Piece.TheVariants.{Bytes}
use Rattle.jb_disk.specs.declared.version.Version.TheVariants.{Two}
use Rattle.jb_redo.specs.Record.{length_bytes, piece_bytes, record_bytes, record_end, record_head}

-- each length takes twelve bytes
pub length-lengths : (lengths : List Length) → length (flat_map (length_bytes Two) lengths) ≡ 12 * length lengths
length-lengths [] = refl
length-lengths (entry ∷ lengths) = omega (arith, length-append (length_bytes Two entry) (flat_map (length_bytes Two) lengths), length-lengths lengths)

-- a piece of given bytes takes twenty bytes more than these
pub length-pieces : (file : FileId) (at : ℕ) (bytes : List ℕ) (pieces : List Piece)
    → length (flat_map (piece_bytes Two) (Bytes file at bytes ∷ pieces)) ≡ 20 + length bytes + length (flat_map (piece_bytes Two) pieces)
length-pieces file at bytes pieces =
    let front : List ℕ = 0 ∷ file_number file ∷ 0 ∷ 0 ∷ number_bytes 8 at ++ number_bytes 8 (length bytes) in
    let piece : length (piece_bytes Two (Bytes file at bytes)) ≡ 20 + length bytes = length-append front bytes in
    omega (arith, length-append (piece_bytes Two (Bytes file at bytes)) (flat_map (piece_bytes Two) pieces))

-- the rest of a record takes twenty-four
pub length-record : (change : ℕ) (lengths : List Length) (pieces : List Piece)
    → length (record_bytes Two change lengths pieces) ≡ 24 + 12 * length lengths + length (flat_map (piece_bytes Two) pieces)
length-record change lengths pieces =
    let head : List ℕ = record_head Two change ++ number_bytes 4 (length lengths) in
    let first : List ℕ = head ++ flat_map (length_bytes Two) lengths in
    let second : List ℕ = first ++ number_bytes 4 (length pieces) in
    let third : List ℕ = second ++ flat_map (piece_bytes Two) pieces in
    omega (
      arith,
      length-append head (flat_map (length_bytes Two) lengths),
      length-append first (number_bytes 4 (length pieces)),
      length-append second (flat_map (piece_bytes Two) pieces),
      length-append third (record_end Two),
      length-lengths lengths,
    )
