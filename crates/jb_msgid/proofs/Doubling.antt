-- Bytes with each quote twice are read back in one way.
use Rattle.std.proofs.Common.{◌≡◌, ℕ, Bool, true, false, ◌==◌, if◌then◌else◌, List, [], ◌∷◌, ◌++◌, drop, refl, ap, sym, ◌∙◌, inl, inr}
use Rattle.std.proofs.lemmas.Bool.Decides.{eqb_tells}
use Rattle.jb_msgid.specs.Address.{quotes_doubled}
use Rattle.jb_msgid.specs.Unquoting.{IsQuoteEnd}

-- a quote is written twice
pub doubled-quote : (byte : ℕ) (bytes : List ℕ) → (byte == 34) ≡ true → quotes_doubled (byte ∷ bytes) ≡ 34 ∷ 34 ∷ quotes_doubled bytes
doubled-quote byte bytes quote = ap (λ (b : Bool). if b then 34 ∷ 34 ∷ quotes_doubled bytes else byte ∷ quotes_doubled bytes) quote

-- any other byte is written once
pub doubled-other : (byte : ℕ) (bytes : List ℕ) → (byte == 34) ≡ false → quotes_doubled (byte ∷ bytes) ≡ byte ∷ quotes_doubled bytes
doubled-other byte bytes other = ap (λ (b : Bool). if b then 34 ∷ 34 ∷ quotes_doubled bytes else byte ∷ quotes_doubled bytes) other

-- no more of them begin where they end
ends_apart : (end : List ℕ) (byte : ℕ) (bytes more : List ℕ) → IsQuoteEnd end → end ≡ quotes_doubled (byte ∷ bytes) ++ more → ⊥
ends_apart [] byte bytes more is same =
    elim (eqb_tells byte 34) [
      | inl w ↦ let shown = same ∙ ap (λ (l : List ℕ). l ++ more) (doubled-quote byte bytes w.0) in cc
      | inr w ↦ let shown = same ∙ ap (λ (l : List ℕ). l ++ more) (doubled-other byte bytes w.0) in cc
    ]
ends_apart (first ∷ []) byte bytes more is same =
    elim (eqb_tells byte 34) [
      | inl w ↦ let shown = same ∙ ap (λ (l : List ℕ). l ++ more) (doubled-quote byte bytes w.0) in cc
      | inr w ↦
          let shown = same ∙ ap (λ (l : List ℕ). l ++ more) (doubled-other byte bytes w.0) in
          let quote : byte ≡ 34 = cc in
          w.1 quote
    ]
ends_apart (first ∷ second ∷ rest) byte bytes more is same =
    elim (eqb_tells byte 34) [
      | inl w ↦
          let shown = same ∙ ap (λ (l : List ℕ). l ++ more) (doubled-quote byte bytes w.0) in
          let third : second ≡ 34 = cc in
          is.1 third
      | inr w ↦
          let shown = same ∙ ap (λ (l : List ℕ). l ++ more) (doubled-other byte bytes w.0) in
          let quote : byte ≡ 34 = cc in
          w.1 quote
    ]

-- up to an end, the bytes and the rest are settled
pub same_doubled : (one other end more : List ℕ) → IsQuoteEnd end → IsQuoteEnd more → quotes_doubled one ++ end ≡ quotes_doubled other ++ more → (one ≡ other) × (end ≡ more)
same_doubled [] [] end more ends ends' same = (refl, same)
same_doubled [] (byte ∷ bytes) end more ends ends' same = absurd (ends_apart end byte bytes more ends same)
same_doubled (byte ∷ bytes) [] end more ends ends' same = absurd (ends_apart more byte bytes end ends' (sym same))
same_doubled (byte ∷ bytes) (byte' ∷ bytes') end more ends ends' same =
    elim (eqb_tells byte 34) [
      | inl w ↦ elim (eqb_tells byte' 34) [
        | inl v ↦
            let shown = sym (ap (λ (l : List ℕ). l ++ end) (doubled-quote byte bytes w.0)) ∙ same ∙ ap (λ (l : List ℕ). l ++ more) (doubled-quote byte' bytes' v.0) in
            let others = same_doubled bytes bytes' end more ends ends' (ap (drop 2) shown) in
            (ap (λ b. b ∷ bytes) (w.1 ∙ sym v.1) ∙ ap (λ (l : List ℕ). byte' ∷ l) others.0, others.1)
        | inr v ↦
            let shown = sym (ap (λ (l : List ℕ). l ++ end) (doubled-quote byte bytes w.0)) ∙ same ∙ ap (λ (l : List ℕ). l ++ more) (doubled-other byte' bytes' v.0) in
            let quote : byte' ≡ 34 = cc in
            absurd (v.1 quote)
      ]
      | inr w ↦ elim (eqb_tells byte' 34) [
        | inl v ↦
            let shown = sym (ap (λ (l : List ℕ). l ++ end) (doubled-other byte bytes w.0)) ∙ same ∙ ap (λ (l : List ℕ). l ++ more) (doubled-quote byte' bytes' v.0) in
            let quote : byte ≡ 34 = cc in
            absurd (w.1 quote)
        | inr v ↦
            let shown = sym (ap (λ (l : List ℕ). l ++ end) (doubled-other byte bytes w.0)) ∙ same ∙ ap (λ (l : List ℕ). l ++ more) (doubled-other byte' bytes' v.0) in
            let others = same_doubled bytes bytes' end more ends ends' (ap (drop 1) shown) in
            let first : byte ≡ byte' = cc in
            (ap (λ b. b ∷ bytes) first ∙ ap (λ (l : List ℕ). byte' ∷ l) others.0, others.1)
      ]
    ]

-- one more byte
pub doubled-push : (bytes : List ℕ) (byte : ℕ) → quotes_doubled (bytes ++ byte ∷ []) ≡ quotes_doubled bytes ++ quotes_doubled (byte ∷ [])
doubled-push [] byte = refl
doubled-push (first ∷ bytes) byte =
    elim (eqb_tells first 34) [
      | inl w ↦ doubled-quote first (bytes ++ byte ∷ []) w.0 ∙ ap (λ (l : List ℕ). 34 ∷ 34 ∷ l) (doubled-push bytes byte) ∙ sym (ap (λ (l : List ℕ). l ++ quotes_doubled (byte ∷ [])) (doubled-quote first bytes w.0))
      | inr w ↦ doubled-other first (bytes ++ byte ∷ []) w.0 ∙ ap (λ (l : List ℕ). first ∷ l) (doubled-push bytes byte) ∙ sym (ap (λ (l : List ℕ). l ++ quotes_doubled (byte ∷ [])) (doubled-other first bytes w.0))
    ]
