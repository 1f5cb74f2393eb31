-- Bytes are the bytes of the numbers that stand in them.
use Rattle.std.proofs.Common.{◌≡◌, ℕ, ◌+◌, ◌≤◌, List, [], ◌∷◌, ◌++◌, length, take, drop, ap, sym, ◌∙◌, refl, arith, append_assoc, append-nil, add-zero}
use Rattle.std.proofs.lemmas.List.{drop-drop, take-append-drop, places}
use Rattle.std.proofs.Math.ListN.{drop_of_length-le}
use Rattle.jb_bytes.proofs.Numbers.{AreBytes, number_bytes-back}
use Rattle.jb_bytes.specs.Number.{little_endian, number_at, number_bytes}
use Rattle.jb_record.specs.Fields.{Field, fields_bytes}

-- the fields stand one behind another from a place on
abbrev pub AreAt : ℕ → List Field → List ℕ → Type 0
AreAt at [] bytes = Unit {0}
AreAt at (field ∷ fields) bytes = (field.value ≡ number_at field.width at bytes) × AreAt (at + field.width) fields bytes

-- how many bytes fields take
abbrev pub width_of : List Field → ℕ
width_of [] = 0
width_of (field ∷ fields) = field.width + width_of fields

-- a part of bytes is bytes
part_bytes : (width at : ℕ) (bytes : List ℕ) → AreBytes bytes → at + width ≤ length bytes → AreBytes (take width (drop at bytes))
part_bytes width at bytes each within k = grind (arith, places, each (at + k))

-- one field is the bytes of its number
one : (width value at : ℕ) (bytes : List ℕ) → AreBytes bytes → at + width ≤ length bytes → value ≡ number_at width at bytes
    → drop at bytes ≡ number_bytes width value ++ drop (at + width) bytes
one width value at bytes each within is =
    let size : length (take width (drop at bytes)) ≡ width = grind (arith, places) in
    let spelling : number_bytes width (little_endian (take width (drop at bytes))) ≡ take width (drop at bytes) = number_bytes-back width _ (part_bytes width at bytes each within) size in
    rw is (rw spelling (rw (← drop-drop width at bytes) (sym (take-append-drop width (drop at bytes)))))

-- bytes from a place on are those of the fields that stand there, and what is behind
pub spelled : (at : ℕ) (fields : List Field) (bytes : List ℕ) → AreBytes bytes → AreAt at fields bytes → at + width_of fields ≤ length bytes
    → drop at bytes ≡ fields_bytes fields ++ drop (at + width_of fields) bytes
spelled at [] bytes each here within = rw (add-zero) refl
spelled at (field ∷ fields) bytes each here within =
    let first = one field.width field.value at bytes each (omega arith) here.0 in
    let others = spelled (at + field.width) fields bytes each here.1 (omega arith) in
    let joined = append_assoc (number_bytes field.width field.value) (fields_bytes fields) (drop (at + field.width + width_of fields) bytes) in
    let places : at + field.width + width_of fields ≡ at + (field.width + width_of fields) = omega arith in
    first ∙ ap (λ (l : List ℕ). number_bytes field.width field.value ++ l) others ∙ sym joined ∙ ap (λ (n : ℕ). (number_bytes field.width field.value ++ fields_bytes fields) ++ drop n bytes) places

-- where the fields take all bytes, the bytes are theirs
pub spelled_whole : (fields : List Field) (bytes : List ℕ) → AreBytes bytes → AreAt 0 fields bytes → length bytes ≡ width_of fields → bytes ≡ fields_bytes fields
spelled_whole fields bytes each here size =
    let whole = spelled 0 fields bytes each here (omega arith) in
    let none : drop (0 + width_of fields) bytes ≡ [] = drop_of_length-le bytes (omega arith) in
    whole ∙ ap (λ (l : List ℕ). fields_bytes fields ++ l) none ∙ append-nil (fields_bytes fields)

-- where a signature stands before the fields, and others bytes behind them
pub spelled_signed : (signed : List ℕ) (fields : List Field) (bytes : List ℕ) → AreBytes bytes → take 4 bytes ≡ signed → AreAt 4 fields bytes
    → 4 + width_of fields ≤ length bytes → bytes ≡ signed ++ fields_bytes fields ++ drop (4 + width_of fields) bytes
spelled_signed signed fields bytes each is here within =
    let behind = spelled 4 fields bytes each here within in
    sym (take-append-drop 4 bytes) ∙ ap (λ (l : List ℕ). l ++ drop 4 bytes) is ∙ ap (λ (l : List ℕ). signed ++ l) behind
    ∙ sym (append_assoc signed (fields_bytes fields) (drop (4 + width_of fields) bytes))

-- the same, with nothing behind the fields
pub spelled_all : (signed : List ℕ) (fields : List Field) (bytes : List ℕ) → AreBytes bytes → take 4 bytes ≡ signed → AreAt 4 fields bytes
    → length bytes ≡ 4 + width_of fields → bytes ≡ signed ++ fields_bytes fields
spelled_all signed fields bytes each is here size =
    let whole = spelled_signed signed fields bytes each is here (omega arith) in
    let none : drop (4 + width_of fields) bytes ≡ [] = drop_of_length-le bytes (omega arith) in
    whole ∙ ap (λ (l : List ℕ). (signed ++ fields_bytes fields) ++ l) none ∙ append-nil (signed ++ fields_bytes fields)
