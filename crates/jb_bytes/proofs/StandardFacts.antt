-- Values from outside of this repository, so that a wrong polynomial or order of bytes in a definition does not check.
use Rattle.std.proofs.Common.{◌≡◌, ℕ, List, [], ◌∷◌, true, false, Some, None, map, codes, refl}
use Rattle.jb_bytes.specs.Crc.{jam_crc_of}
use Rattle.jb_bytes.specs.Name.{same_name}
use Rattle.jb_bytes.specs.Number.{number_at, with_number}
use Rattle.jb_bytes.specs.Spelled.{fields_in}
use Rattle.jb_bytes.specs.Subfields.{first_of, subfield_bytes}
use Rattle.jb_bytes.specs.declared.subfield.Subfield.{Subfield}
use Rattle.jb_bytes.specs.declared.subfield.TheConstants.{SENDER_NAME, RECEIVER_NAME, MSGID, REPLYID, SUBJECT}

-- the complement of the usual CRC-32 of the text in lower case, as zlib's crc32 gives it; the second is the check value of
-- CRC-32/JAMCRC. The byte 0x99 has no case, and neither have the four beside the letters
crcs : map jam_crc_of (
    [] ∷ codes "123456789" ∷ codes "hello" ∷ codes "Hello" ∷ codes "Test" ∷ codes "abc" ∷ codes "AZaz" ∷ codes "2:5020/1042 01000001"
    ∷ codes "Joaquim Homrighausen" ∷ (0x4A ∷ 0x99 ∷ 0x52 ∷ 0x47 ∷ []) ∷ codes "@[`{"
    ∷ codes "The quick brown fox jumps over the lazy dog" ∷ [])
    ≡ 0xFFFFFFFF ∷ 0x340BC6D9 ∷ 0xC9EF5979 ∷ 0xC9EF5979 ∷ 0x278081F3 ∷ 0xCADBBE3D ∷ 0xC8719FC7 ∷ 0xCBD71F53
    ∷ 0x3C219896 ∷ 0xB63D5B74 ∷ 0x876C7A9C
    ∷ 0x31F3AEEB ∷ []
crcs = refl

-- an index record as JAM writes one: the CRC of hello, and the place of the first header
abbrev index_record : List ℕ
index_record = 0x79 ∷ 0x59 ∷ 0xEF ∷ 0xC9 ∷ 0x00 ∷ 0x04 ∷ 0x00 ∷ 0x00 ∷ []

-- numbers of four and of two bytes, the lowest first (JAM, "Data types")
numbers : (number_at 4 0 index_record ≡ 0xC9EF5979) × (number_at 4 4 index_record ≡ 1024)
    × (number_at 2 0 index_record ≡ 0x5979) × (number_at 2 3 index_record ≡ 0x00C9)
    × (with_number 2 3 0x1234 index_record ≡ 0x79 ∷ 0x59 ∷ 0xEF ∷ 0x34 ∷ 0x12 ∷ 0x04 ∷ 0x00 ∷ 0x00 ∷ [])
numbers = (refl, refl, refl, refl, refl)

-- A to Z alone have two cases: of the accented letters, as code page 437 and Latin-1 have them, each case is a letter of its own
names : (same_name (codes "AMZamz") (codes "amzAMZ") ≡ true) × (same_name (0x4A ∷ 0x99 ∷ []) (0x6A ∷ 0x99 ∷ []) ≡ true)
    × (same_name (0x99 ∷ []) (0x94 ∷ []) ≡ false) × (same_name (0xC1 ∷ 0xDA ∷ []) (0xE1 ∷ 0xFA ∷ []) ≡ false)
    × (same_name (codes "@[") (codes "`{") ≡ false) × (same_name (codes "Test") (codes "Test ") ≡ false)
names = (refl, refl, refl, refl, refl, refl)

-- the LoIDs of the kinds of subfields (JAM, "SubFields")
kinds : SENDER_NAME ∷ RECEIVER_NAME ∷ MSGID ∷ REPLYID ∷ SUBJECT ∷ [] ≡ 2 ∷ 3 ∷ 4 ∷ 5 ∷ 6 ∷ []
kinds = refl

-- a sender, a kludge with a HiID and no data, and a subject
abbrev three_subfields : List Subfield
three_subfields = record { id = 2; hi = 0; bytes = codes "Test" } ∷ record { id = 2000; hi = 0x1234; bytes = [] } ∷ record { id = 6; hi = 0; bytes = codes "abc" } ∷ []

-- the bytes of these, written out by hand from the table (JAM, "SubFields")
abbrev three_spelled : List ℕ
three_spelled = 0x02 ∷ 0x00 ∷ 0x00 ∷ 0x00 ∷ 0x04 ∷ 0x00 ∷ 0x00 ∷ 0x00 ∷ 0x54 ∷ 0x65 ∷ 0x73 ∷ 0x74
    ∷ 0xD0 ∷ 0x07 ∷ 0x34 ∷ 0x12 ∷ 0x00 ∷ 0x00 ∷ 0x00 ∷ 0x00
    ∷ 0x06 ∷ 0x00 ∷ 0x00 ∷ 0x00 ∷ 0x03 ∷ 0x00 ∷ 0x00 ∷ 0x00 ∷ 0x61 ∷ 0x62 ∷ 0x63 ∷ []

-- they are spelled and read so
subfields : (subfield_bytes three_subfields ≡ three_spelled) × (fields_in three_spelled ≡ three_subfields) × (fields_in [] ≡ [])
subfields = (refl, refl, refl)

-- the first of a kind counts, whatever its HiID, and one without data is no absent one
first_of_a_kind : map (λ id. first_of id (
    record { id = 2000; hi = 6; bytes = codes "AREA:general" } ∷ record { id = 6; hi = 1; bytes = codes "abc" }
    ∷ record { id = 6; hi = 0; bytes = codes "later" } ∷ record { id = 5; hi = 0; bytes = [] } ∷ [])) (6 ∷ 5 ∷ 2 ∷ [])
    ≡ Some (codes "abc") ∷ Some [] ∷ None ∷ []
first_of_a_kind = refl
