-- The lengths of a record's parts.
use Rattle.std.proofs.Common.{◌≡◌, ℕ, ◌+◌, ◌*◌, ◌/◌, ◌%◌, ◌<◌, List, [], ◌∷◌, ◌++◌, length, drop, get_or, refl, sym, ◌∙◌, ap, arith, length-append, append_assoc, Some}
use Rattle.jb_disk.specs.declared.version.Version.TheVariants.{Two}
use Rattle.std.specs.Prelude.{slice_get, slice_index_or, if◌then◌else◌}
use Rattle.jb_disk.specs.Files.{file_number}
use Rattle.std.specs.Option.{option_map}
use Rattle.std.specs.List.{flat_map}
use Rattle.std.proofs.lemmas.List.{at_drop_more}
use Rattle.std.proofs.lemmas.Option.{slice_get-get_or}
use Rattle.jb_bytes.specs.Number.{number_bytes}
use Rattle.jb_disk.specs.declared.file.FileId.TheVariants.{Jhr}
use Rattle.jb_disk.specs.declared.piece.Length.{Length}
use Rattle.jb_disk.specs.declared.piece.Piece.{Piece}
use Rattle.jb_disk.specs.declared.piece.Piece.TheVariants.{Bytes, Copy}
use Rattle.jb_disk.specs.declared.piece.PieceHead.{PieceHead}
use Rattle.jb_disk.specs.RedoView.{RedoView, piece_head, bytes_of}
use Rattle.jb_redo.specs.Record.{record_head, record_end, length_bytes, piece_bytes, record_bytes}
use Rattle.jb_journal.specs.Spelling.{nth_piece, head_bytes, tail_bytes, spelled_size, record_front, back_bytes}
use Rattle.jb_redo.specs.Changes.{record_size}
use Rattle.jb_redo.proofs.LengthLemmas.{length-lengths, length-record}

-- a piece by its number
pub head-nth : (pieces : List Piece) (k : ℕ) (head : PieceHead) → k < length pieces → Some head ≡ option_map piece_head (slice_get pieces k) → head ≡ piece_head (nth_piece pieces k)
head-nth pieces k head low is =
    let there = slice_get-get_or pieces k (Bytes Jhr 0 []) low in
    let both : Some head ≡ Some (piece_head (nth_piece pieces k)) = is ∙ ap (option_map piece_head) there in
    cc

-- its bytes
pub bytes-nth : (pieces : List Piece) (k : ℕ) (bytes : List ℕ) → k < length pieces → Some bytes ≡ option_map bytes_of (slice_get pieces k) → bytes ≡ bytes_of (nth_piece pieces k)
bytes-nth pieces k bytes low is =
    let there = slice_get-get_or pieces k (Bytes Jhr 0 []) low in
    let both : Some bytes ≡ Some (bytes_of (nth_piece pieces k)) = is ∙ ap (option_map bytes_of) there in
    cc

-- a piece is its head and its tail
pub piece-parts : (piece : Piece) → piece_bytes Two piece ≡ head_bytes (piece_head piece) ++ tail_bytes piece
piece-parts (Bytes file at bytes) = refl
piece-parts (Copy from from_at to to_at len) = refl

-- and has their length
pub length-piece : (piece : Piece) → length (piece_bytes Two piece) ≡ spelled_size (piece_head piece)
length-piece (Bytes file at bytes) = grind arith
length-piece (Copy from from_at to to_at len) = refl

-- one length more
pub more_lengths : (lengths : List Length) (i : ℕ) (d : Length) (code : List ℕ) → i < length lengths → code ≡ length_bytes Two (get_or lengths i d)
    → flat_map (length_bytes Two) (drop i lengths) ≡ code ++ flat_map (length_bytes Two) (drop (i + 1) lengths)
more_lengths lengths i d code low is =
    at_drop_more (flat_map (length_bytes Two)) lengths i d low ∙ ap (λ (l : List ℕ). l ++ flat_map (length_bytes Two) (drop (i + 1) lengths)) (sym is)

-- one piece more
pub more_pieces : (pieces : List Piece) (k : ℕ) → k < length pieces → flat_map (piece_bytes Two) (drop k pieces) ≡ piece_bytes Two (nth_piece pieces k) ++ flat_map (piece_bytes Two) (drop (k + 1) pieces)
more_pieces pieces k low = at_drop_more (flat_map (piece_bytes Two)) pieces k (Bytes Jhr 0 []) low

-- its length
pub more_size : (pieces : List Piece) (k : ℕ) → k < length pieces → length (flat_map (piece_bytes Two) (drop k pieces)) ≡ spelled_size (piece_head (nth_piece pieces k)) + length (flat_map (piece_bytes Two) (drop (k + 1) pieces))
more_size pieces k low =
    ap length (more_pieces pieces k low) ∙ length-append (piece_bytes Two (nth_piece pieces k)) (flat_map (piece_bytes Two) (drop (k + 1) pieces))
    ∙ ap (λ (n : ℕ). n + length (flat_map (piece_bytes Two) (drop (k + 1) pieces))) (length-piece (nth_piece pieces k))

-- a record is its front and its back
pub record-parts : (number : ℕ) (lengths : List Length) (pieces : List Piece) → record_bytes Two number lengths pieces ≡ record_front number lengths (length pieces) ++ back_bytes pieces
record-parts number lengths pieces = append_assoc (record_front number lengths (length pieces)) (flat_map (piece_bytes Two) pieces) (record_end Two)

-- the length of the front
pub length-front : (number : ℕ) (lengths : List Length) (pieces : ℕ) → length (record_front number lengths pieces) ≡ 20 + 12 * length lengths
length-front number lengths pieces =
    omega (
      arith,
      length-append (record_head Two number ++ number_bytes 4 (length lengths) ++ flat_map (length_bytes Two) lengths) (number_bytes 4 pieces),
      length-append (record_head Two number ++ number_bytes 4 (length lengths)) (flat_map (length_bytes Two) lengths),
      length-lengths lengths,
    )

-- the length of the back
pub length-back : (pieces : List Piece) → length (back_bytes pieces) ≡ 4 + length (flat_map (piece_bytes Two) pieces)
length-back pieces = omega (arith, length-append (flat_map (piece_bytes Two) pieces) (record_end Two))

-- a record is as long whatever its number is
pub same_size : (number : ℕ) (change : RedoView) → length (record_bytes Two number change.lengths change.pieces) ≡ record_size change
same_size number change = length-record number change.lengths change.pieces ∙ sym (length-record 0 change.lengths change.pieces)

-- the four bytes of a number, one by one
pub four-bytes : (n : ℕ) → (n % 256 ∷ n / 256 % 256 ∷ n / 65536 % 256 ∷ n / 16777216 % 256 ∷ []) ≡ number_bytes 4 n
four-bytes n =
    let a : n / 65536 ≡ n / 256 / 256 = omega arith in
    let b : n / 16777216 ≡ n / 256 / 256 / 256 = omega arith in
    λ i. n % 256 ∷ n / 256 % 256 ∷ a i % 256 ∷ b i % 256 ∷ []

-- and the eight
pub eight-bytes : (n : ℕ) → (n % 256 ∷ n / 256 % 256 ∷ n / 65536 % 256 ∷ n / 16777216 % 256 ∷ n / 4294967296 % 256 ∷ n / 1099511627776 % 256 ∷ n / 281474976710656 % 256 ∷ n / 72057594037927936 % 256 ∷ [])
    ≡ number_bytes 8 n
eight-bytes n =
    let a : n / 65536 ≡ n / 256 / 256 = omega arith in
    let b : n / 16777216 ≡ n / 256 / 256 / 256 = omega arith in
    let c : n / 4294967296 ≡ n / 256 / 256 / 256 / 256 = omega arith in
    let d : n / 1099511627776 ≡ n / 256 / 256 / 256 / 256 / 256 = omega arith in
    let e : n / 281474976710656 ≡ n / 256 / 256 / 256 / 256 / 256 / 256 = omega arith in
    let f : n / 72057594037927936 ≡ n / 256 / 256 / 256 / 256 / 256 / 256 / 256 = omega arith in
    λ i. n % 256 ∷ n / 256 % 256 ∷ a i % 256 ∷ b i % 256 ∷ c i % 256 ∷ d i % 256 ∷ e i % 256 ∷ f i % 256 ∷ []

-- eight bytes, one by one
abbrev eight_of : List ℕ → List ℕ → List ℕ
eight_of bytes rest =
    slice_index_or bytes 0 0 ∷ slice_index_or bytes 1 0 ∷ slice_index_or bytes 2 0 ∷ slice_index_or bytes 3 0 ∷ slice_index_or bytes 4 0 ∷ slice_index_or bytes 5 0 ∷ slice_index_or bytes 6 0 ∷ slice_index_or bytes 7 0 ∷ rest

-- the bytes of a head, one by one
pub head-spelled : (head : PieceHead) (kind to from : ℕ) (at len : List ℕ) → kind ≡ (if head.copy then 1 else 0) → to ≡ file_number head.to → from ≡ (if head.copy then file_number head.from else 0)
    → at ≡ number_bytes 8 head.to_at → len ≡ number_bytes 8 head.len → (kind ∷ to ∷ from ∷ 0 ∷ eight_of at (eight_of len [])) ≡ head_bytes head
head-spelled head kind to from at len k t f a l = λ i. k i ∷ t i ∷ f i ∷ 0 ∷ eight_of (a i) (eight_of (l i) [])

-- and of a new length
pub length-spelled : (entry : Length) (file : ℕ) (len : List ℕ) → file ≡ file_number entry.file → len ≡ number_bytes 8 entry.len → (file ∷ 0 ∷ 0 ∷ 0 ∷ eight_of len []) ≡ length_bytes Two entry
length-spelled entry file len f l = λ i. f i ∷ 0 ∷ 0 ∷ 0 ∷ eight_of (l i) []

-- and of a record, up to its lengths
pub start-spelled : (number count : ℕ) (numbered counted : List ℕ) → numbered ≡ number_bytes 8 number → counted ≡ number_bytes 4 count
    → (0x4A ∷ 0x42 ∷ 0x4A ∷ 0x32 ∷ eight_of numbered (slice_index_or counted 0 0 ∷ slice_index_or counted 1 0 ∷ slice_index_or counted 2 0 ∷ slice_index_or counted 3 0 ∷ []))
    ≡ record_head Two number ++ number_bytes 4 count
start-spelled number count numbered counted n c = λ i.
    0x4A ∷ 0x42 ∷ 0x4A ∷ 0x32 ∷ eight_of (n i) (slice_index_or (c i) 0 0 ∷ slice_index_or (c i) 1 0 ∷ slice_index_or (c i) 2 0 ∷ slice_index_or (c i) 3 0 ∷ [])
