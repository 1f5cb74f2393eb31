-- A pattern along a name, sign by sign.
use Rattle.std.proofs.Common.{◌≡◌, ℕ, ◌≤◌, ◌&&◌, Bool, true, false, List, ◌∷◌, length, refl, ap, sym, ◌∙◌, arith}
use Rattle.jb_wildmat.specs.Wildmats.{pattern_takes, sign_takes, some_end}
use Rattle.jb_wildmat.specs.Along.{IsBehindStar, TakesNone}
use Rattle.jb_wildmat.proofs.EndLemmas.{pattern_takes-sign, pattern_takes-star, some_end-behind, some_end-same, some_end-twice, some_end-whole}

-- what is left of a pattern and a name decides, and of all ends too
pub record IsLeft (pattern name signs left : List ℕ) : Type 0 where
  pub same : pattern_takes pattern name ≡ pattern_takes signs left
  pub onward : some_end (pattern_takes pattern) name ≡ true → some_end (pattern_takes signs) left ≡ true
  pub shorter : length signs ≤ length pattern
  pub within : length left ≤ length name

-- two tests that hold together are the same
same_both : (a b : Bool) → (a ≡ true → b ≡ true) → (b ≡ true → a ≡ true) → a ≡ b
same_both true b one two = sym (one refl)
same_both false true one two = two refl
same_both false false one two = refl

-- one sign further
pub left_behind_sign : {pattern name signs left : List ℕ} (sign byte : ℕ) (later rest : List ℕ) → IsLeft pattern name signs left
    → signs ≡ sign ∷ later → left ≡ byte ∷ rest → (sign ≡ 42 → ⊥) → sign_takes sign byte ≡ true → IsLeft pattern name later rest
left_behind_sign {pattern} {name} {signs} {left} sign byte later rest is at_sign at_byte other takes =
    let whole = is.same ∙ ap (λ (s : List ℕ). pattern_takes s left) at_sign ∙ ap (pattern_takes (sign ∷ later)) at_byte in
    record {
      same = whole ∙ pattern_takes-sign sign later (byte ∷ rest) other ∙ ap (λ (b : Bool). b && pattern_takes later rest) takes;
      onward = λ passes. some_end-behind sign (pattern_takes later) byte rest
          (sym (some_end-same _ _ (λ n. pattern_takes-sign sign later n other) (byte ∷ rest)) ∙ sym (ap (some_end (pattern_takes (sign ∷ later))) at_byte)
          ∙ sym (ap (λ (s : List ℕ). some_end (pattern_takes s) left) at_sign) ∙ is.onward passes);
      shorter = omega (arith, is.shorter, ap length at_sign);
      within = omega (arith, is.within, ap length at_byte);
    }

-- a sign that takes no byte
pub missed_at_sign : {pattern name signs left : List ℕ} (sign : ℕ) (later : List ℕ) → IsLeft pattern name signs left
    → signs ≡ sign ∷ later → (sign ≡ 42 → ⊥) → TakesNone sign left → pattern_takes pattern name ≡ false
missed_at_sign {pattern} {name} {signs} {left} sign later is at_sign other none =
    is.same ∙ ap (λ (s : List ℕ). pattern_takes s left) at_sign ∙ pattern_takes-sign sign later left other ∙ none (pattern_takes later)

-- at a `*`
pub behind_star : {pattern name signs left : List ℕ} (sign : ℕ) (later : List ℕ) → IsLeft pattern name signs left
    → signs ≡ sign ∷ later → sign ≡ 42 → IsBehindStar pattern name later left
behind_star {pattern} {name} {signs} {left} sign later is at_sign star =
    let same : pattern_takes pattern name ≡ some_end (pattern_takes later) left = is.same ∙ ap (λ (s : List ℕ). pattern_takes s left) at_sign ∙ pattern_takes-star sign later left star in
    let ends : some_end (pattern_takes signs) left ≡ some_end (pattern_takes later) left =
    ap (λ (s : List ℕ). some_end (pattern_takes s) left) at_sign
    ∙ some_end-same _ _ (λ n. pattern_takes-star sign later n star) left ∙ some_end-twice (pattern_takes later) left in
    record {
      same = same;
      no_later = same_both _ _ (λ passes. same ∙ sym ends ∙ is.onward passes) (some_end-whole (pattern_takes pattern) name);
      shorter = omega (arith, is.shorter, ap length at_sign);
      within = is.within;
    }
