-- The longest settled prefix of a history is settled, a prefix, and no shorter than any other.
use Rattle.std.proofs.Common.{◌≡◌, ℕ, zero, suc, ◌≤◌, ◌⊎◌, inl, inr, Bool, true, false, cond, List, [], ◌∷◌, ◌++◌, length, take, refl, sym, ◌∙◌, ap, subst, arith}
use Rattle.std.specs.Prelude.{if◌then◌else◌}
use Rattle.std.proofs.lemmas.Bool.{cond_both, cases_eq}
use Rattle.std.proofs.lemmas.List.{length-take, length_push, take-append-le, take_all}
use Rattle.jb_base.specs.declared.area.AreaRules.{AreaRules}
use Rattle.jb_model.specs.History.{settled_prefix, settled_within, standing_after}
use Rattle.jb_model.specs.Standing.{is_settled}
use Rattle.jb_state.specs.State.{AreaState}
use Rattle.jb_model.specs.declared.entry.Entry.{Entry}
use Rattle.jb_state.proofs.LinkLaws.{true_not_false}

-- the area is settled after these entries
abbrev pub settles : AreaRules → AreaState → List Entry → Bool
settles rules first history = is_settled (standing_after rules first history)

-- after the longest settled prefix the area is settled
pub settled_within_settles : (rules : AreaRules) (first : AreaState) (history : List Entry) (n : ℕ) → settles rules first (settled_within rules first history n) ≡ true
settled_within_settles rules first history zero = refl
settled_within_settles rules first history (suc n) =
    cond_both (settles rules first (take (suc n) history)) (take (suc n) history) (settled_within rules first history n)
    (λ prefix. settles rules first prefix ≡ true) (λ settled. settled) (λ unsettled. settled_within_settles rules first history n)

-- it is a prefix of at most so many entries
pub settled_within_prefix : (rules : AreaRules) (first : AreaState) (history : List Entry) (n : ℕ) → (k : ℕ) × (k ≤ n) × (settled_within rules first history n ≡ take k history)
settled_within_prefix rules first history zero = (0, omega arith, refl)
settled_within_prefix rules first history (suc n) =
    cond_both (settles rules first (take (suc n) history)) (take (suc n) history) (settled_within rules first history n)
    (λ prefix. (k : ℕ) × (k ≤ suc n) × (prefix ≡ take k history))
    (λ settled. (suc n, omega arith, refl))
    (λ unsettled. let shorter = settled_within_prefix rules first history n in (shorter.0, omega (arith, shorter.1), shorter.2))

-- a prefix after which the area is settled is not the whole, where the area is in doubt after that
shorter : (rules : AreaRules) (first : AreaState) (history : List Entry) (n k : ℕ) → k ≤ suc n → settles rules first (take k history) ≡ true → settles rules first (take (suc n) history) ≡ false → (k ≤ n → length (take k history) ≤ length (settled_within rules first history n)) → ((k ≡ suc n) ⊎ (k ≡ suc n → ⊥)) → length (take k history) ≤ length (settled_within rules first history n)
shorter rules first history n k within settled unsettled fewer (inl same) =
    let P : ℕ → Type 0 = λ m. settles rules first (take m history) ≡ true in
    absurd (true_not_false (sym (subst P same settled) ∙ unsettled))
shorter rules first history n k within settled unsettled fewer (inr other) = fewer (omega arith)

-- no prefix of at most so many entries after which the area is settled is longer
pub settled_within_longest : (rules : AreaRules) (first : AreaState) (history : List Entry) (n k : ℕ) → k ≤ n → settles rules first (take k history) ≡ true → length (take k history) ≤ length (settled_within rules first history n)
settled_within_longest rules first history zero k within settled = omega (arith, length-take k history)
settled_within_longest rules first history (suc n) k within settled =
    cond_both (settles rules first (take (suc n) history)) (take (suc n) history) (settled_within rules first history n)
    (λ prefix. length (take k history) ≤ length prefix)
    (λ whole. omega (arith, length-take k history, length-take (suc n) history))
    (λ unsettled. shorter rules first history n k within settled unsettled (λ fewer. settled_within_longest rules first history n k fewer settled) (cases_eq k (suc n)))

-- the longest settled prefix is settled
pub settled_prefix_settles : (rules : AreaRules) (first : AreaState) (history : List Entry) → settles rules first (settled_prefix rules first history) ≡ true
settled_prefix_settles rules first history = settled_within_settles rules first history (length history)

-- it is a prefix
pub settled_prefix_is_prefix : (rules : AreaRules) (first : AreaState) (history : List Entry) → (k : ℕ) × (k ≤ length history) × (settled_prefix rules first history ≡ take k history)
settled_prefix_is_prefix rules first history = settled_within_prefix rules first history (length history)

-- no prefix after which the area is settled is longer
pub settled_prefix_longest : (rules : AreaRules) (first : AreaState) (history : List Entry) (k : ℕ) → k ≤ length history → settles rules first (take k history) ≡ true → length (take k history) ≤ length (settled_prefix rules first history)
settled_prefix_longest rules first history k within settled = settled_within_longest rules first history (length history) k within settled

-- the longest settled prefix of a beginning does not rest on what follows it
settled_within-append : (rules : AreaRules) (first : AreaState) (history behind : List Entry) (n : ℕ) → n ≤ length history → settled_within rules first (history ++ behind) n ≡ settled_within rules first history n
settled_within-append rules first history behind zero within = refl
settled_within-append rules first history behind (suc n) within =
    let same : take (suc n) (history ++ behind) ≡ take (suc n) history = take-append-le (suc n) history behind within in
    ap (λ prefix. cond (settles rules first prefix) prefix (settled_within rules first (history ++ behind) n)) same
    ∙ ap (λ prefix. cond (settles rules first (take (suc n) history)) (take (suc n) history) prefix)
    (settled_within-append rules first history behind n (omega arith))

-- with one more entry it is the whole, or what it was
pub settled_prefix_push : (rules : AreaRules) (first : AreaState) (history : List Entry) (entry : Entry) → settled_prefix rules first (history ++ entry ∷ []) ≡ (if settles rules first (history ++ entry ∷ []) then history ++ entry ∷ [] else settled_prefix rules first history)
settled_prefix_push rules first history entry =
    let size : length (history ++ entry ∷ []) ≡ suc (length history) = omega (arith, length_push history entry) in
    let whole : take (suc (length history)) (history ++ entry ∷ []) ≡ history ++ entry ∷ [] = take_all (suc (length history)) (history ++ entry ∷ []) (omega arith) in
    ap (settled_within rules first (history ++ entry ∷ [])) size
    ∙ ap (λ prefix. cond (settles rules first prefix) prefix (settled_within rules first (history ++ entry ∷ []) (length history))) whole
    ∙ ap (λ prefix. cond (settles rules first (history ++ entry ∷ [])) (history ++ entry ∷ []) prefix)
    (settled_within-append rules first history (entry ∷ []) (length history) (omega arith))
