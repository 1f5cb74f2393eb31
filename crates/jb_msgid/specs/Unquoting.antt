-- What is found behind the quote that opens an address.
use Rattle.std.specs.Prelude.{◌≡◌, ⊤, ℕ, ◌≤◌, List, [], ◌∷◌, ◌++◌, Option, Some, None, drop, length}
use Rattle.jb_msgid.specs.Address.{BeginsWithout, quotes_doubled}
use Rattle.jb_msgid.specs.declared.address.Address.{Address}

-- where bytes between quotes end: at the end of the text, or at a quote that no third follows
abbrev pub IsQuoteEnd : List ℕ → Type 0
IsQuoteEnd [] = ⊤
IsQuoteEnd (byte ∷ behind) = (byte ≡ 34) × BeginsWithout 34 behind

-- these bytes, each quote twice, then a quote that closes them, then what stands from the end on
pub record IsClosed (text : List ℕ) (address : Address) : Type 0 where
  pub within : address.end ≤ length text
  pub spelled : text ≡ quotes_doubled address.bytes ++ 34 ∷ drop address.end text
  pub closed : BeginsWithout 34 (drop address.end text)

-- an address that is closed, or bytes with each quote twice up to the end
abbrev pub IsUnquoting : List ℕ → Option Address → Type 0
IsUnquoting text None = (bytes : List ℕ) × (text ≡ quotes_doubled bytes)
IsUnquoting text (Some address) = IsClosed text address
