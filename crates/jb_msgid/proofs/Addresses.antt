-- A text begins with one address at most, and with none where it is refused.
use Rattle.std.proofs.Common.{◌≡◌, ◌≢◌, ℕ, Option, All, List, [], ◌∷◌, ◌++◌, Some, length, drop, refl, ap, sym, ◌∙◌, inl, inr, arith, length-append}
use Rattle.std.specs.Prelude.{slice_get}
use Rattle.std.proofs.lemmas.List.Elements.{All-head, All-tail}
use Rattle.std.proofs.lemmas.Option.{none-some, same_Some}
use Rattle.jb_msgid.specs.Address.{HasAddress, HasNoAddress, IsPlain, IsQuoted, IsUnclosed, MayBeginWith}
use Rattle.jb_msgid.proofs.Doubling.{same_doubled}

-- no byte is a space
abbrev Spaceless : List ℕ → Type 0
Spaceless = All (λ (byte : ℕ). byte ≢ 32)

-- the first byte of a plain address
begin_apart : (behind : List ℕ) (byte : ℕ) (more : List ℕ) → MayBeginWith 32 behind → byte ≢ 32 → behind ≡ byte ∷ more → ⊥
begin_apart [] byte more may other same = cc
begin_apart (first ∷ rest) byte more may other same = let space : byte ≡ 32 = cc in other space

-- up to a space or the end, the bytes and the rest are settled
same_plain : (one other behind more : List ℕ) → Spaceless one → Spaceless other → MayBeginWith 32 behind → MayBeginWith 32 more
    → one ++ behind ≡ other ++ more → (one ≡ other) × (behind ≡ more)
same_plain [] [] behind more free free' may may' same = (refl, same)
same_plain [] (byte ∷ bytes) behind more free free' may may' same =
    absurd (begin_apart behind byte (bytes ++ more) may (All-head (λ (b : ℕ). b ≢ 32) byte bytes free') same)
same_plain (byte ∷ bytes) [] behind more free free' may may' same =
    absurd (begin_apart more byte (bytes ++ behind) may' (All-head (λ (b : ℕ). b ≢ 32) byte bytes free) (sym same))
same_plain (byte ∷ bytes) (byte' ∷ bytes') behind more free free' may may' same =
    let first : byte ≡ byte' = cc in
    let others = same_plain bytes bytes' behind more (All-tail (λ (b : ℕ). b ≢ 32) byte bytes free) (All-tail (λ (b : ℕ). b ≢ 32) byte' bytes' free') may may' (ap (drop 1) same) in
    (ap (λ b. b ∷ bytes) first ∙ ap (λ (l : List ℕ). byte' ∷ l) others.0, others.1)

-- a quoted address begins with a quote
pub quoted_first : (text address behind : List ℕ) → IsQuoted text address behind → slice_get text 0 ≡ Some 34
quoted_first text address behind quoted = ap (λ (l : List ℕ). slice_get l 0) quoted.spelled

-- a plain one begins with neither a quote nor a space
plain_unquoted : (text address behind : List ℕ) → IsPlain text address behind → slice_get text 0 ≡ Some 34 → ⊥
plain_unquoted text [] behind plain first = let some = plain.some in omega arith
plain_unquoted text (byte ∷ bytes) behind plain first =
    let shown = sym (ap (λ (l : List ℕ). slice_get l 0) plain.spelled) ∙ first in
    let quote : byte ≡ 34 = cc in
    plain.unquoted quote

plain_spaceless : (text address behind : List ℕ) → IsPlain text address behind → slice_get text 0 ≡ Some 32 → ⊥
plain_spaceless text [] behind plain first = let some = plain.some in omega arith
plain_spaceless text (byte ∷ bytes) behind plain first =
    let shown = sym (ap (λ (l : List ℕ). slice_get l 0) plain.spelled) ∙ first in
    let space : byte ≡ 32 = cc in
    All-head (λ (b : ℕ). b ≢ 32) byte bytes plain.spaceless space

-- between quotes the bytes and the rest are settled
quoted_once : (text one behind other more : List ℕ) → IsQuoted text one behind → IsQuoted text other more → (one ≡ other) × (behind ≡ more)
quoted_once text one behind other more quoted quoted' =
    let inner = ap (drop 1) (sym quoted.spelled ∙ quoted'.spelled) in
    let settled = same_doubled one other (34 ∷ behind) (34 ∷ more) (refl, quoted.closed) (refl, quoted'.closed) inner in
    (settled.0, ap (drop 1) settled.1)

-- the address and what stands behind it are settled
pub address_once : (text one behind other more : List ℕ) → HasAddress text one behind → HasAddress text other more → (one ≡ other) × (behind ≡ more)
address_once text one behind other more (inl plain) (inl plain') =
    same_plain one other behind more plain.spaceless plain'.spaceless plain.ends plain'.ends (sym plain.spelled ∙ plain'.spelled)
address_once text one behind other more (inl plain) (inr quoted) = absurd (plain_unquoted text one behind plain (quoted_first text other more quoted.0))
address_once text one behind other more (inr quoted) (inl plain) = absurd (plain_unquoted text other more plain (quoted_first text one behind quoted.0))
address_once text one behind other more (inr quoted) (inr quoted') = quoted_once text one behind other more quoted.0 quoted'.0

-- a quote is no space
quote_no_space : (let quote : Option ℕ = Some 34 in quote) ≡ Some 32 → ⊥
quote_no_space same = let numbers = same_Some 34 32 same in omega (arith, numbers)

-- a text with an address is not one without
pub address_there : (text address behind : List ℕ) → HasAddress text address behind → HasNoAddress text → ⊥
address_there text address behind (inl plain) (inl none) =
    let some = plain.some in
    omega (arith, ap length (sym plain.spelled ∙ none), length-append address behind)
address_there text address behind (inl plain) (inr (inl space)) = plain_spaceless text address behind plain space
address_there text address behind (inl plain) (inr (inr empty)) = plain_unquoted text address behind plain (quoted_first text [] empty.0 empty.1)
address_there text address behind (inr quoted) (inl none) = none-some 34 (sym (ap (λ (l : List ℕ). slice_get l 0) none) ∙ quoted_first text address behind quoted.0)
address_there text address behind (inr quoted) (inr (inl space)) = quote_no_space (sym (quoted_first text address behind quoted.0) ∙ space)
address_there text address behind (inr quoted) (inr (inr empty)) =
    let none = (quoted_once text address behind [] empty.0 quoted.0 empty.1).0 in
    let some = quoted.1 in
    omega (arith, ap length none)

-- nor one whose quote is not closed
pub address_closed : (text address behind : List ℕ) → HasAddress text address behind → IsUnclosed text → ⊥
address_closed text address behind (inl plain) open' = plain_unquoted text address behind plain open'.quoted
address_closed text address behind (inr quoted) open' = open'.unclosed address behind quoted.0

-- and the two differ
pub unclosed_there : (text : List ℕ) → IsUnclosed text → HasNoAddress text → ⊥
unclosed_there text open' (inl none) = none-some 34 (sym (ap (λ (l : List ℕ). slice_get l 0) none) ∙ open'.quoted)
unclosed_there text open' (inr (inl space)) = quote_no_space (sym open'.quoted ∙ space)
unclosed_there text open' (inr (inr empty)) = open'.unclosed [] empty.0 empty.1
