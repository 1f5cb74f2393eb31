-- The address with which the text of a MSGID begins, plain or between quotes (FTS-0009, "MSGID").
use Rattle.std.specs.Prelude.{◌≡◌, ◌≢◌, ℕ, ◌<◌, ◌⊎◌, ⊤, All, List, [], ◌∷◌, ◌++◌, Some, length, slice_get, ◌==◌, if◌then◌else◌}

-- the bytes, with each quote twice
abbrev pub quotes_doubled : List ℕ → List ℕ
quotes_doubled [] = []
quotes_doubled (byte ∷ bytes) = if byte == 34 then 34 ∷ 34 ∷ quotes_doubled bytes else byte ∷ quotes_doubled bytes

-- the first byte, where there is one, is this one
abbrev pub MayBeginWith : ℕ → List ℕ → Type 0
MayBeginWith byte [] = ⊤
MayBeginWith byte (first ∷ rest) = first ≡ byte

-- the first byte is not this one
abbrev pub BeginsWithout : ℕ → List ℕ → Type 0
BeginsWithout byte [] = ⊤
BeginsWithout byte (first ∷ rest) = first ≢ byte

-- a plain address: one byte or more up to the first space or the end, the first of them no quote
pub record IsPlain (text address behind : List ℕ) : Type 0 where
  pub spelled : text ≡ address ++ behind
  pub some : 0 < length address
  pub unquoted : BeginsWithout 34 address
  pub spaceless : All (λ byte. byte ≢ 32) address
  pub ends : MayBeginWith 32 behind

-- bytes between quotes, each quote among them twice, so that no quote stands behind the closing one
pub record IsQuoted (text address behind : List ℕ) : Type 0 where
  pub spelled : text ≡ 34 ∷ quotes_doubled address ++ 34 ∷ behind
  pub closed : BeginsWithout 34 behind

-- the text begins with this address, and these bytes stand behind it
abbrev pub HasAddress : List ℕ → List ℕ → List ℕ → Type 0
HasAddress text address behind = IsPlain text address behind ⊎ (IsQuoted text address behind × (0 < length address))

-- no address: no text, or a space or an empty pair of quotes at its beginning
abbrev pub HasNoAddress : List ℕ → Type 0
HasNoAddress text = (text ≡ []) ⊎ ((slice_get text 0 ≡ Some 32) ⊎ ((behind : List ℕ) × IsQuoted text [] behind))

-- a quote at the beginning that nothing closes
pub record IsUnclosed (text : List ℕ) : Type 0 where
  pub quoted : slice_get text 0 ≡ Some 34
  pub unclosed : (address behind : List ℕ) → IsQuoted text address behind → ⊥
