-- The bytes of the record that the journal keeps of a change, in each version of the journal.
use Rattle.std.specs.Prelude.{ℕ, List, [], ◌∷◌, ◌++◌, length}
use Rattle.std.specs.List.{flat_map}
use Rattle.jb_bytes.specs.Number.{number_bytes}
use Rattle.jb_disk.specs.declared.piece.Length.{Length}
use Rattle.jb_disk.specs.declared.piece.Piece.{Piece}
use Rattle.jb_disk.specs.declared.piece.Piece.TheVariants.{Bytes, Copy}
use Rattle.jb_disk.specs.declared.version.Version.{Version}
use Rattle.jb_disk.specs.declared.version.Version.TheVariants.{One, Two}
use Rattle.jb_disk.specs.Files.{file_number}

-- how many bytes a place or a length takes
abbrev pub width_of : Version → ℕ
width_of One = 4
width_of Two = 8

-- the mark with which a record begins: `JBJ1` or `JBJ2`
abbrev pub record_mark : Version → List ℕ
record_mark One = 0x4A ∷ 0x42 ∷ 0x4A ∷ 0x31 ∷ []
record_mark Two = 0x4A ∷ 0x42 ∷ 0x4A ∷ 0x32 ∷ []

-- the mark with which it ends: `JBJE` or `JBJF`
abbrev pub record_end : Version → List ℕ
record_end One = 0x4A ∷ 0x42 ∷ 0x4A ∷ 0x45 ∷ []
record_end Two = 0x4A ∷ 0x42 ∷ 0x4A ∷ 0x46 ∷ []

-- its head: the mark, and behind it in the second version the number of the change in eight bytes
abbrev pub record_head : Version → ℕ → List ℕ
record_head One change = record_mark One
record_head Two change = record_mark Two ++ number_bytes 8 change

-- a new length: the file, three zero bytes, the length
abbrev pub length_bytes : Version → Length → List ℕ
length_bytes version entry = file_number entry.file ∷ 0 ∷ 0 ∷ 0 ∷ number_bytes (width_of version) entry.len

-- a piece: kind, file written, file copied from, a zero byte, place and length, then its bytes or the place copied from
abbrev pub piece_bytes : Version → Piece → List ℕ
piece_bytes version (Bytes file at bytes) =
    0 ∷ file_number file ∷ 0 ∷ 0 ∷ number_bytes (width_of version) at ++ number_bytes (width_of version) (length bytes) ++ bytes
piece_bytes version (Copy from from_at to to_at len) =
    1 ∷ file_number to ∷ file_number from ∷ 0 ∷ number_bytes (width_of version) to_at ++ number_bytes (width_of version) len
    ++ number_bytes (width_of version) from_at

-- a record: head, number of lengths, the lengths, number of pieces, the pieces, end; both counts in four bytes
abbrev pub record_bytes : Version → ℕ → List Length → List Piece → List ℕ
record_bytes version change lengths pieces =
    record_head version change ++ number_bytes 4 (length lengths) ++ flat_map (length_bytes version) lengths
    ++ number_bytes 4 (length pieces) ++ flat_map (piece_bytes version) pieces ++ record_end version
