-- Words that are no command line.
use Rattle.std.proofs.Common.{◌≡◌, ℕ, ◌≤◌, Bool, false, List, [], ◌∷◌, length, map, get_or, None, Some, refl, ap, subst, arith}
use Rattle.std.specs.Prelude.{Option, bytes_eq, codes, if◌then◌else◌}
use Rattle.jb_board.specs.Words.{Words, command_line_of, show_help}

-- one word other than `help` is none
pub one_word : {A : Type 0} (bytes : A → List ℕ) (words : List A) (verb : A) → length words ≡ 1 → verb ≡ get_or words 0 verb
    → bytes_eq (bytes verb) (codes "help") ≡ false → command_line_of (map bytes words) ≡ None
one_word bytes [] verb one is other = absurd (omega (arith, one))
one_word {A = A} bytes (a ∷ []) verb one is other =
    let same : bytes_eq (bytes a) (codes "help") ≡ false = subst (λ (v : A). bytes_eq (bytes v) (codes "help") ≡ false) is other in
    let line : Bool → Option Words = λ b. if b then Some show_help else None in
    ap line same
one_word bytes (a ∷ b ∷ rest) verb one is other = absurd (omega (arith, one))

-- five words are none
pub five_words : (words : List (List ℕ)) → length words ≡ 5 → command_line_of words ≡ None
five_words [] five = absurd (omega (arith, five))
five_words (a ∷ []) five = absurd (omega (arith, five))
five_words (a ∷ b ∷ []) five = absurd (omega (arith, five))
five_words (a ∷ b ∷ c ∷ []) five = absurd (omega (arith, five))
five_words (a ∷ b ∷ c ∷ d ∷ []) five = absurd (omega (arith, five))
five_words (a ∷ b ∷ c ∷ d ∷ e ∷ []) five = refl
five_words (a ∷ b ∷ c ∷ d ∷ e ∷ f ∷ rest) five = absurd (omega (arith, five))

-- nor are seven or more
pub many_words : (words : List (List ℕ)) → 7 ≤ length words → command_line_of words ≡ None
many_words [] many = absurd (omega (arith, many))
many_words (a ∷ []) many = absurd (omega (arith, many))
many_words (a ∷ b ∷ []) many = absurd (omega (arith, many))
many_words (a ∷ b ∷ c ∷ []) many = absurd (omega (arith, many))
many_words (a ∷ b ∷ c ∷ d ∷ []) many = absurd (omega (arith, many))
many_words (a ∷ b ∷ c ∷ d ∷ e ∷ []) many = absurd (omega (arith, many))
many_words (a ∷ b ∷ c ∷ d ∷ e ∷ f ∷ []) many = absurd (omega (arith, many))
many_words (a ∷ b ∷ c ∷ d ∷ e ∷ f ∷ g ∷ rest) many = refl
