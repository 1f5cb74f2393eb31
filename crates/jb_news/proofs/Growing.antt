-- A text that grows at its end.
use Rattle.std.proofs.Common.{◌≡◌, ℕ, ◌++◌, List, ap, ◌∙◌, append_assoc}

-- a text that is known, and grows
pub longer : (text before now first second : List ℕ) → now ≡ before ++ second → before ≡ text ++ first → now ≡ text ++ (first ++ second)
longer text before now first second now_is before_is = now_is ∙ ap (λ (l : List ℕ). l ++ second) before_is ∙ append_assoc text first second

-- three parts put behind a text one after another
pub three_parts : (text one two three first second third : List ℕ) → one ≡ text ++ first → two ≡ one ++ second → three ≡ two ++ third
    → three ≡ text ++ (first ++ second ++ third)
three_parts text one two three first second third one_is two_is three_is =
    longer text two three (first ++ second) third three_is (longer text one two first second two_is one_is)
