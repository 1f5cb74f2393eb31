-- The fixed header of 1,024 bytes with which .JHR begins (JAM, "Header file").
use Rattle.std.specs.Prelude.{◌≡◌, ℕ, List, [], ◌∷◌, ◌++◌, length, take, drop, ◌<◌, ◌^◌}
use Rattle.jb_bytes.specs.Number.{number_at}
use Rattle.jb_record.specs.Fields.{ulong, fields_bytes, signature}
use Rattle.jb_record.specs.declared.fixed.FixedHeader.{FixedHeader}

-- these bytes have the length and the signature of a fixed header
pub record IsFixedHeader (bytes : List ℕ) : Type 0 where
  pub size : length bytes ≡ 1024
  pub signed : take 4 bytes ≡ signature

-- the fixed header that stands in these bytes, each number at its place and the reserved bytes behind
unfoldable pub fixed_header_of : List ℕ → FixedHeader
fixed_header_of bytes = record {
  created = number_at 4 4 bytes;
  counter = number_at 4 8 bytes;
  active = number_at 4 12 bytes;
  password = number_at 4 16 bytes;
  base = number_at 4 20 bytes;
  reserved = drop 24 bytes;
}

-- the bytes of a fixed header: the signature, five numbers and 1,000 bytes that are kept
unfoldable pub fixed_header_bytes : FixedHeader → List ℕ
fixed_header_bytes header = signature ++ fields_bytes (
    ulong header.created ∷ ulong header.counter ∷ ulong header.active ∷ ulong header.password ∷ ulong header.base ∷ [])
    ++ header.reserved

-- its numbers fit the widths that they have on disk
pub record FitsFixedHeader (header : FixedHeader) : Type 0 where
  pub created : header.created < 2 ^ 32
  pub counter : header.counter < 2 ^ 32
  pub active : header.active < 2 ^ 32
  pub password : header.password < 2 ^ 32
  pub base : header.base < 2 ^ 32

-- and its reserved bytes are all there
pub record IsFixedRecord (header : FixedHeader) : Type 0 where
  pub numbers : FitsFixedHeader header
  pub reserved : length header.reserved ≡ 1000
