-- The subfields of a message header, as bytes: LoID, HiID and length of the data, then the data (JAM, "SubFields").
use Rattle.std.specs.Prelude.{◌≡◌, ℕ, ◌^◌, ◌<◌, List, [], ◌∷◌, ◌++◌, length, take, drop, All, Option, find, unwrap_or, ◌==◌}
use Rattle.std.specs.Option.{option_map}
use Rattle.jb_bytes.specs.Number.{number_bytes}
use Rattle.jb_bytes.specs.declared.subfield.Subfield.{Subfield}
use Rattle.jb_bytes.specs.declared.subfield.TheConstants.{SENDER_NAME, RECEIVER_NAME}

-- the bytes of one subfield
abbrev pub one_subfield : Subfield → List ℕ
one_subfield field =
    number_bytes 2 field.id ++ number_bytes 2 field.hi ++ number_bytes 4 (length field.bytes) ++ field.bytes

-- the bytes of subfields, one after another
abbrev pub subfield_bytes : List Subfield → List ℕ
subfield_bytes [] = []
subfield_bytes (field ∷ fields) = one_subfield field ++ subfield_bytes fields

-- a subfield whose numbers fit the widths that they have on disk
pub record IsSubfield (field : Subfield) : Type 0 where
  pub id : field.id < 2 ^ 16
  pub hi : field.hi < 2 ^ 16
  pub size : length field.bytes < 2 ^ 32

-- these are subfields, and these are their bytes
pub record IsSubfieldList (fields : List Subfield) (bytes : List ℕ) : Type 0 where
  pub each : All IsSubfield fields
  pub spelled : subfield_bytes fields ≡ bytes

-- these bytes are those of some subfields
pub record AreSubfields (bytes : List ℕ) : Type 0 where
  pub fields : List Subfield
  pub are : IsSubfieldList fields bytes

-- the bytes before this place belong to a list, bytes remain, and no beginning of them is one subfield
pub record IsCutAt (bytes : List ℕ) (at : ℕ) : Type 0 where
  pub fields : List Subfield
  pub before : IsSubfieldList fields (take at bytes)
  pub remain : at < length bytes
  pub cut : (field : Subfield) (rest : List ℕ) → IsSubfield field → drop at bytes ≡ one_subfield field ++ rest → ⊥

-- the data of the first subfield with this LoID
abbrev pub first_of : ℕ → List Subfield → Option (List ℕ)
first_of id fields = option_map (λ field. field.bytes) (find (λ field. field.id == id) fields)

-- the sender's name; without one, the empty name
abbrev pub sender_of : List Subfield → List ℕ
sender_of fields = unwrap_or (first_of SENDER_NAME fields) []

-- the receiver's name; without one, the empty name
abbrev pub receiver_of : List Subfield → List ℕ
receiver_of fields = unwrap_or (first_of RECEIVER_NAME fields) []
