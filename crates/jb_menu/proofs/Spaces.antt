-- A text without the spaces behind it, from its end.
use Rattle.std.proofs.Common.{◌≡◌, ℕ, Bool, false, List, [], ◌∷◌, ◌++◌, refl, ap, ◌∙◌, if◌then◌else◌}
use Rattle.jb_menu.specs.CommandLines.{is_space, kept_before, without_last_spaces}

-- a space at the end is dropped
pub last_space : (text : List ℕ) → without_last_spaces (text ++ 32 ∷ []) ≡ without_last_spaces text
last_space [] = refl
last_space (byte ∷ rest) = ap (kept_before byte) (last_space rest)

-- a byte before some bytes is kept
before_some : (byte last : ℕ) (rest : List ℕ) → kept_before byte (rest ++ last ∷ []) ≡ byte ∷ (rest ++ last ∷ [])
before_some byte last [] = refl
before_some byte last (next ∷ rest) = refl

-- another byte at the end is kept, and all before it
pub last_other : (text : List ℕ) (last : ℕ) → is_space last ≡ false → without_last_spaces (text ++ last ∷ []) ≡ text ++ last ∷ []
last_other [] last other = ap (λ (b : Bool). if b then [] else last ∷ []) other
last_other (byte ∷ rest) last other = ap (kept_before byte) (last_other rest last other) ∙ before_some byte last rest
