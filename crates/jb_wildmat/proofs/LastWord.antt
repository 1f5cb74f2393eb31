-- What one pattern more says of a name.
use Rattle.std.proofs.Common.{◌≡◌, ℕ, Bool, false, List, [], ◌∷◌, ◌++◌, Option, Some, None, refl, ap, ◌∙◌}
use Rattle.std.specs.Option.{option_or}
use Rattle.std.specs.Prelude.{unwrap_or}
use Rattle.jb_wildmat.specs.Wildmats.{last_word, word_of}

-- the last pattern speaks first
pub last_word-push : (items : List (List ℕ)) (item name : List ℕ) → last_word (items ++ item ∷ []) name ≡ option_or (word_of item name) (last_word items name)
last_word-push [] item name = none_behind (word_of item name)
  where
    none_behind : (a : Option Bool) → option_or None a ≡ option_or a None
    none_behind None = refl
    none_behind (Some b) = refl
last_word-push (first ∷ items) item name =
    ap (λ (a : Option Bool). option_or a (word_of first name)) (last_word-push items item name)
    ∙ regroup (word_of item name) (last_word items name) (word_of first name)
  where
    regroup : (a b c : Option Bool) → option_or (option_or a b) c ≡ option_or a (option_or b c)
    regroup None b c = refl
    regroup (Some x) b c = refl

-- one pattern more decides where it takes the name, and else those before it
pub taken_after_one : (items : List (List ℕ)) (item name : List ℕ) → unwrap_or (last_word (items ++ item ∷ []) name) false
    ≡ unwrap_or (word_of item name) (unwrap_or (last_word items name) false)
taken_after_one items item name =
    ap (λ (a : Option Bool). unwrap_or a false) (last_word-push items item name) ∙ by_case (word_of item name) (last_word items name)
  where
    by_case : (a b : Option Bool) → unwrap_or (option_or a b) false ≡ unwrap_or a (unwrap_or b false)
    by_case None b = refl
    by_case (Some x) b = refl
